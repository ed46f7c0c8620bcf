-- The notes from the first one of a send on, in a record whose entries have times: each is of a send whose span meets that of the send, and is young.
use Rattle.std.proofs.Common.{◌≡◌, ◌⊎◌, inl, inr, ℕ, ◌+◌, ◌<◌, ◌≤◌, ◌&&◌, max, Bool, true, false, if◌then◌else◌, List, [], ◌∷◌, length, count_by, Option, Some, None, refl, sym, ap, ◌∙◌, subst, arith, ⊎_elim}
use Rattle.std.specs.List.{AllByRecursion, cons_option, list_any}
use Rattle.std.proofs.lemmas.Bool.{and_from, cases_lt, false≢true, or_cases}
use Rattle.hsr_frame.specs.Egress.{Egress}
use Rattle.hsr_node.specs.Record.{Each, Noted, note_of, notes, now}
use Rattle.hsr_node.specs.declared.entry.Entry.{Entry}
use Rattle.hsr_node.specs.declared.event.Carried.{Carried}
use Rattle.hsr_node.specs.declared.event.Event.{Event}
use Rattle.hsr_node.specs.declared.event.Event.TheVariants.{Send, Supervise, Arrive, Age}
use Rattle.hsr_node.specs.declared.event.Probe.{Probe}
use Rattle.hsr_run_laws.specs.Budget.{is_sending}
use Rattle.hsr_run_laws.specs.Closed.{IsOfSend}
use Rattle.hsr_run_laws.specs.Premises.{is_note_of}
use Rattle.hsr_run_laws.specs.Run.{owner_of}
use Rattle.hsr_run_laws.proofs.Noting.{IsNoteOf, NoteCame, new_note}
use Rattle.hsr_run_laws.proofs.Records.{Answered, OfArrival}
use Rattle.hsr_run_laws.proofs.Same.{probe_is}
use Rattle.hsr_run_laws.proofs.Timely.{note_kind}
use Rattle.hsr_record_laws.specs.Few.{IsYoung}
use Rattle.hsr_record_laws.specs.Rivals.{since}
use Rattle.hsr_world_laws.specs.World.{World, record_at}
use Rattle.hsr_plays.specs.Conditions.{IsBrief}
use Rattle.hsr_plays.specs.Law.{IsSpanOf, run_in}
use Rattle.hsr_plays.specs.Setup.{Setup}
use Rattle.hsr_plays.specs.Spans.{is_open_at, meets, moment_at, spans}
use Rattle.hsr_plays.specs.declared.span.SendSpan.{SendSpan}
use Rattle.hsr_plays.proofs.Open.{open_from, open_meet, open_parts}
use Rattle.hsr_play_laws.specs.Told.{IsAt, IsOpenCopy, IsOpenSend, Timed}
use Rattle.hsr_play_laws.proofs.OneSpan.{IsMain, IsNamed, is_span_of, listed_any, one_span, tested}

module _ (s : Setup) (w : World) (k : ℕ) where
  abbrev pub Answers : List Entry → Type 0
  Answers h = Each (Answered s.capacity (owner_of (run_in s w) k)) h

  abbrev pub AreOfSends : List Entry → Type 0
  AreOfSends h = Each (λ x past. OfArrival (IsOfSend (run_in s w)) x.event) h

  -- ---- one note

  -- a note is of a send that is open at the time of its entry
  pub record IsNoteAt (note : Noted) (time : ℕ) : Type 0 where
    pub send : Probe
    pub named : note.probe ≡ Some send
    pub is : IsOpenSend s w send time

  note_at : (e : Egress) (x : Entry) (past : List Entry) (time : ℕ) (note : Noted) → Answered s.capacity (owner_of (run_in s w) k) x past → OfArrival (IsOfSend (run_in s w)) x.event →
      IsAt s w k time x.event past → IsNoteOf (owner_of (run_in s w) k) e x past note → IsNoteAt note time
  note_at e x past time note ok of_send at n =
      ⊎_elim
      (λ own. record { send = record { node = k; place = length past }; named = own.0; is = sent x.event own.1 at })
      (λ came. let o : IsOfSend (run_in s w) came.copy = subst (OfArrival (IsOfSend (run_in s w))) came.is of_send in
      let there : IsOpenCopy s w time came.copy = subst (λ ev. IsAt s w k time ev past) came.is at in
      record { send = o.send; named = came.probe ∙ o.named; is = there o.send o.named })
      (note_kind s.capacity (owner_of (run_in s w) k) e x past note ok n)
    where
      sent : (event : Event) → is_sending event ≡ true → IsAt s w k time event past → IsOpenSend s w (record { node = k; place = length past }) time
      sent (Send from dst vlan ethertype payload) is at = at.0
      sent (Supervise about) is at = at.0
      sent (Arrive port copy) is at = absurd (false≢true is)
      sent Age is at = absurd (false≢true is)

  -- ---- of one send

  module _ (e : Egress) (send : Probe) (span : SendSpan) (is_span : IsSpanOf s w send span) where
    -- a note of the send is made behind its step
    mine_behind : (note : Noted) (time : ℕ) → IsNoteAt note time → is_note_of (Some send) note ≡ true → span.index < time
    mine_behind note time n mine =
        let both : Some n.send ≡ Some send = sym n.named ∙ probe_is send note.probe mine in
        let same : n.send ≡ send = cc in
        let o : IsOpenSend s w send time = subst (λ q. IsOpenSend s w q time) same n.is in
        let equal = one_span s w send o.span span o.is is_span in
        let there : is_open_at time span ≡ true = ap (is_open_at time) (sym equal) ∙ o.open_then in
        (open_parts time span there).0

    behind : (last : ℕ) (h : List Entry) → Timed s w k last h → Answers h → AreOfSends h → list_any (is_note_of (Some send)) (notes (owner_of (run_in s w) k) e h) ≡ true → span.index < last
    behind last [] timed legal of_send some = absurd (false≢true some)
    behind last (x ∷ past) (time, low, at, is, timed) legal of_send some =
        ⊎_elim
        (λ none.
        let rest = behind time past timed legal.1 of_send.1 (subst (λ o. list_any (is_note_of (Some send)) (cons_option o (notes (owner_of (run_in s w) k) e past)) ≡ true) none some) in
        omega (arith, rest, low))
        (λ new.
        let there : list_any (is_note_of (Some send)) (new.0 ∷ notes (owner_of (run_in s w) k) e past) ≡ true =
        subst (λ o. list_any (is_note_of (Some send)) (cons_option o (notes (owner_of (run_in s w) k) e past)) ≡ true) new.1 some in
        ⊎_elim
        (λ here. let a = mine_behind new.0 time (note_at e x past time new.0 legal.0 of_send.0 is new.2) here in omega (arith, a, low))
        (λ later. let a = behind time past timed legal.1 of_send.1 later in omega (arith, a, low))
        (or_cases (is_note_of (Some send) new.0) (list_any (is_note_of (Some send)) (notes (owner_of (run_in s w) k) e past)) there))
        (new_note (owner_of (run_in s w) k) e x past)

    -- ---- the walk down from an arrival

    module _ (brief : IsBrief s span) (at_last : ℕ) where
      -- the effective moment of the arrival is that of a past, or less than so much above that of any time from the send on
      abbrev pub Up : List Entry → ℕ → Type 0
      Up h last = (at_last ≡ now h) ⊎ ((j : ℕ) → span.index < j → j ≤ last → at_last < moment_at s.orders j + 400000)

      pub record IsRival (note : Noted) : Type 0 where
        pub named : IsNamed s w note.probe
        pub meet : list_any (λ y. is_span_of s w note.probe y && meets span y) (spans s) ≡ true
        pub young : IsYoung at_last note

      up_past : (x : Entry) (past : List Entry) (time last : ℕ) → time ≤ last → time ≤ span.end → x.at ≡ moment_at s.orders time → Up (x ∷ past) last → Up past time
      up_past x past time last low inside at (inr rises) = inr (λ j above below. rises j above (omega (arith, below, low)))
      up_past x past time last low inside at (inl same) =
          ⊎_elim
          (λ later. inr (λ j above below.
          let less : moment_at s.orders time < moment_at s.orders j + 400000 = brief j time above (omega (arith, below, inside)) below inside in
          omega (arith, same, later, at, less)))
          (λ no_later. inl (omega (arith, same, no_later)))
          (cases_lt (now past) x.at)

      rival : (x : Entry) (past : List Entry) (time last : ℕ) (note : Noted) → time ≤ last → time ≤ span.end → span.index < time → x.at ≡ moment_at s.orders time → Up (x ∷ past) last →
          IsNoteOf (owner_of (run_in s w) k) e x past note → IsNoteAt note time → IsRival note
      rival x past time last note low inside above at up n is =
          let o = is.is in
          let of_it = o.is in
          let meets_it = open_meet time span o.span (open_from time span above inside) o.open_then in
          let named : IsNamed s w note.probe = record { of_send = is.send; named = is.named; main = o.main } in
          record {
            named = named;
            meet = listed_any (λ y. is_span_of s w note.probe y && meets span y) (spans s) of_it.at o.span of_it.listed
                (and_from (is_span_of s w note.probe o.span) (meets span o.span) (ap (λ q. is_span_of s w q o.span) is.named ∙ tested s w is.send o.span of_it) meets_it);
            young = young up;
          }
        where
          moment : note.moment ≡ now (x ∷ past)
          moment = n.moment

          young : Up (x ∷ past) last → at_last < note.moment + 400000
          young (inl same) = omega (arith, same, moment)
          young (inr rises) = let r = rises time above low in omega (arith, r, at, moment)

      pub walk : (last : ℕ) (h : List Entry) → last ≤ span.end → Timed s w k last h → Answers h → AreOfSends h → Up h last → AllByRecursion IsRival (since send (notes (owner_of (run_in s w) k) e h))
      walk last [] inside timed legal of_send up = tt
      walk last (x ∷ past) inside (time, low, at, is, timed) legal of_send up =
          let rest = walk time past (omega (arith, low, inside)) timed legal.1 of_send.1 (up_past x past time last low (omega (arith, low, inside)) at up) in
          ⊎_elim
          (λ none. subst (λ o. AllByRecursion IsRival (since send (cons_option o (notes (owner_of (run_in s w) k) e past)))) (sym none) rest)
          (λ new. subst (λ o. AllByRecursion IsRival (since send (cons_option o (notes (owner_of (run_in s w) k) e past)))) (sym new.1)
          (by_test new.0 new.1 new.2 rest (list_any (is_note_of (Some send)) (new.0 ∷ notes (owner_of (run_in s w) k) e past)) refl))
          (new_note (owner_of (run_in s w) k) e x past)
        where
          by_test : (note : Noted) → note_of (owner_of (run_in s w) k) e x past ≡ Some note → IsNoteOf (owner_of (run_in s w) k) e x past note →
              AllByRecursion IsRival (since send (notes (owner_of (run_in s w) k) e past)) → (b : Bool) →
              list_any (is_note_of (Some send)) (note ∷ notes (owner_of (run_in s w) k) e past) ≡ b → AllByRecursion IsRival (if b then note ∷ since send (notes (owner_of (run_in s w) k) e past) else [])
          by_test note new n rest false some = tt
          by_test note new n rest true some =
              let whole : list_any (is_note_of (Some send)) (notes (owner_of (run_in s w) k) e (x ∷ past)) ≡ true =
              subst (λ o. list_any (is_note_of (Some send)) (cons_option o (notes (owner_of (run_in s w) k) e past)) ≡ true) (sym new) some in
              let above = behind time (x ∷ past) (time, (omega arith), at, is, timed) legal of_send whole in
              (rival x past time last note low (omega (arith, low, inside)) above at up n (note_at e x past time note legal.0 of_send.0 is n), rest)
