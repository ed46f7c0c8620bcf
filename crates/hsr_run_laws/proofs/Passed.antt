-- The record of a DANH: what was noted left, what went up was noted, each send left by both ring ports, and nothing
-- leaves there but tagged frames.
use Rattle.std.proofs.Common.{◌≡◌, ◌⊎◌, ℕ, ◌+◌, ◌≤◌, Bool, true, false, if◌then◌else◌, List, [], ◌∷◌, length, count_by, Option, Some, None, Ok, refl, sym, ap, ◌∙◌, subst, arith, inl, inr, ⊎_elim}
use Rattle.std.specs.Prelude.{option_map}
use Rattle.std.specs.List.{list_any, cons_option}
use Rattle.std.proofs.lemmas.Bool.{or_left, or_right, and_from}
use Rattle.hsr_frame.specs.Address.{is_group}
use Rattle.hsr_frame.specs.Egress.{Egress, up}
use Rattle.hsr_frame.specs.declared.node.Cause.{Cause}
use Rattle.hsr_frame.specs.declared.node.Mode.{Mode}
use Rattle.hsr_tag.specs.declared.seen.Seen.TheVariants.{Tagged}
use Rattle.hsr_forwarding.specs.Arrival.{key_of}
use Rattle.hsr_danh.specs.Wanted as of_danh
use Rattle.hsr_node.specs.Copies.{as_came}
use Rattle.hsr_node.specs.Flow.{pass_of, passes, sent_by}
use Rattle.hsr_node.specs.declared.sending.Sending.{Sending}
use Rattle.hsr_node.specs.Record.{Each, Noted, Owner, answer, leaves, note_of, notes, now, probe_handled}
use Rattle.hsr_node.specs.declared.entry.Entry.{Entry}
use Rattle.hsr_node.specs.declared.event.Carried.{Carried}
use Rattle.hsr_node.specs.declared.event.Event.{Event}
use Rattle.hsr_node.specs.declared.event.Event.TheVariants.{Send, Supervise, Arrive, Age}
use Rattle.hsr_node.specs.declared.event.Outcome.{Outcome}
use Rattle.hsr_node.specs.declared.event.Outcome.TheVariants.{Judged}
use Rattle.hsr_node.specs.declared.event.Probe.{Probe}
use Rattle.hsr_node.specs.declared.place.Place.TheVariants.{Danh}
use Rattle.hsr_run_laws.specs.Once.{delivers, delivers_by, is_copy}
use Rattle.hsr_run_laws.specs.Premises.{is_note_of}
use Rattle.hsr_run_laws.specs.Run.{is_of}
use Rattle.hsr_run_laws.proofs.Danh.{IsTagged, RingExit, danh, danh_pass, danh_tagged, egress, exit_port}
use Rattle.hsr_run_laws.proofs.DanhSends.{IsOwnSend, SendsOrNot, danh_lives, danh_sends}
use Rattle.hsr_run_laws.proofs.Delivering.{Delivers, delivered_below, notes_grow}
use Rattle.hsr_run_laws.proofs.Lists.{count_more, one_if}
use Rattle.hsr_run_laws.proofs.Records.{Answered, each_so}
use Rattle.hsr_run_laws.proofs.Same.{any_one_more, probe_is}
use Rattle.hsr_run_laws.proofs.Views.{came, knows_at, leaves_wanted}
use Rattle.hsr_run_laws.proofs.Noting.{IsNoteOf, new_note, note_from, tagged_note}
use Rattle.hsr_run_laws.proofs.Unnumbered.{numbers_none}
use Rattle.hsr_run_laws.proofs.Written.{came_fits}

-- a DANH numbers nothing that comes
pub danh_numbers_none : (capacity number : ℕ) (mac : List ℕ) (mode : Mode) (past : List Entry) (at port : ℕ) (copy : Carried) (up_too : Bool) (out_ports : List Bool) (seq : ℕ) (why : Cause) →
    answer capacity (danh number mac mode) past at (Arrive port copy) ≡ Ok (Judged up_too out_ports (Some seq) why) → ⊥
danh_numbers_none capacity number mac mode past at port copy up_too out_ports seq why ok = numbers_none capacity (danh number mac mode) past at port copy up_too out_ports seq why refl ok

module _ (capacity number : ℕ) (mac : List ℕ) (mode : Mode) where
  abbrev me : Owner
  me = record { number = number; place = Danh mac mode }

  -- what a note of another node's send is made of
  pub record CameHere (x : Entry) (past : List Entry) (e : Egress) (send : Probe) : Type 0 where
    pub port : ℕ
    pub copy : Carried
    pub is : x.event ≡ Arrive port copy
    pub ok : answer capacity me past (now (x ∷ past)) (Arrive port copy) ≡ Ok x.outcome
    pub tagged : IsTagged copy
    pub left : leaves x.outcome e ≡ true
    pub mine : is_copy send copy ≡ true

  came_here : (x : Entry) (past : List Entry) (e : Egress) (send : Probe) (note : Noted) → Answered capacity me x past → IsNoteOf me e x past note → (send.node ≡ number → ⊥) → is_note_of (Some send) note ≡ true → CameHere x past e send
  came_here x past e send note ok n other mine =
      ⊎_elim
      (λ own. let there = probe_is send note.probe mine in
      let here : Some send ≡ Some (record { node = number; place = length past }) = sym there ∙ own in
      let same : send ≡ record { node = number; place = length past } = cc in
      absurd (other (ap (λ (p : Probe). p.node) same)))
      (λ c. ⊎_elim
      (λ t. let P : Option Probe → Type 0 = λ o. is_of send o ≡ true in
      record { port = c.port; copy = c.copy; is = c.is; ok = c.ok; tagged = (t.tagged, t.is); left = t.left; mine = subst P c.probe mine })
      (λ m.
      let A : Outcome → Type 0 = λ o. answer capacity me past (now (x ∷ past)) (Arrive c.port c.copy) ≡ Ok o in
      absurd (danh_numbers_none capacity number mac mode past (now (x ∷ past)) c.port c.copy m.up_too m.out_ports m.seq m.cause (subst A m.out c.ok)))
      c.how)
      (note_from capacity me e x past note ok n)

  -- what was noted of another node's send left
  pub noted_passed : (r : RingExit) (send : Probe) (h : List Entry) → Each (Answered capacity me) h → (send.node ≡ number → ⊥) →
      list_any (is_note_of (Some send)) (notes me (egress r) h) ≡ true → list_any (is_copy send) (passes me (exit_port r) h) ≡ true
  noted_passed r send [] legal other some = some
  noted_passed r send (x ∷ past) legal other some = by_note (new_note me (egress r) x past) (noted_passed r send past legal.1 other)
    where
      older : list_any (is_copy send) (passes me (exit_port r) past) ≡ true → list_any (is_copy send) (passes me (exit_port r) (x ∷ past)) ≡ true
      older h = any_one_more (is_copy send) (pass_of me (exit_port r) x past) (passes me (exit_port r) past) h

      left : CameHere x past (egress r) send → list_any (is_copy send) (passes me (exit_port r) (x ∷ past)) ≡ true
      left c =
          let pass = danh_pass capacity number mac mode x past (now (x ∷ past)) c.port c.copy r c.is c.ok in
          let Q : Option Carried → Type 0 = λ o. list_any (is_copy send) (cons_option o (passes me (exit_port r) past)) ≡ true in
          let B : Bool → Type 0 = λ t. Q (option_map (λ octets. record { probe = c.copy.probe; octets = octets }) (if t then as_came c.copy.octets else None)) in
          let F : Option (List ℕ) → Type 0 = λ o. Q (option_map (λ octets. record { probe = c.copy.probe; octets = octets }) o) in
          subst Q (sym pass) (subst B (sym c.left) (subst F (sym (came_fits c.copy.octets (Tagged c.tagged.0) c.tagged.1)) (or_left _ _ c.mine)))

      N : Option Noted → Type 0
      N o = list_any (is_note_of (Some send)) (cons_option o (notes me (egress r) past)) ≡ true

      by_note : (note_of me (egress r) x past ≡ None) ⊎ ((note : Noted) × (note_of me (egress r) x past ≡ Some note) × IsNoteOf me (egress r) x past note) →
          (list_any (is_note_of (Some send)) (notes me (egress r) past) ≡ true → list_any (is_copy send) (passes me (exit_port r) past) ≡ true) →
          list_any (is_copy send) (passes me (exit_port r) (x ∷ past)) ≡ true
      by_note (inl none) rest = older (rest (subst N none some))
      by_note (inr (note, is, n)) rest =
          ⊎_elim (λ mine. left (came_here x past (egress r) send note legal.0 n other mine)) (λ later. older (rest later))
          (Rattle.std.proofs.lemmas.Bool.or_cases (is_note_of (Some send) note) (list_any (is_note_of (Some send)) (notes me (egress r) past)) (subst N is some))

  -- what was noted as gone up of another node's send was delivered
  pub noted_delivered : (send : Probe) (h : List Entry) → Each (Answered capacity me) h → (send.node ≡ number → ⊥) →
      list_any (is_note_of (Some send)) (notes me up h) ≡ true → list_any (delivers send) h ≡ true
  noted_delivered send [] legal other some = some
  noted_delivered send (x ∷ past) legal other some = by_note (new_note me up x past) (noted_delivered send past legal.1 other)
    where
      left : CameHere x past up send → list_any (delivers send) (x ∷ past) ≡ true
      left c =
          let D : Event → Type 0 = λ ev. delivers_by send ev x.outcome ≡ true in
          or_left _ _ (subst D (sym c.is) (and_from _ _ c.mine c.left))

      N : Option Noted → Type 0
      N o = list_any (is_note_of (Some send)) (cons_option o (notes me up past)) ≡ true

      by_note : (note_of me up x past ≡ None) ⊎ ((note : Noted) × (note_of me up x past ≡ Some note) × IsNoteOf me up x past note) →
          (list_any (is_note_of (Some send)) (notes me up past) ≡ true → list_any (delivers send) past ≡ true) → list_any (delivers send) (x ∷ past) ≡ true
      by_note (inl none) rest = or_right _ _ (rest (subst N none some))
      by_note (inr (note, is, n)) rest =
          ⊎_elim (λ mine. left (came_here x past up send note legal.0 n other mine)) (λ later. or_right _ _ (rest later))
          (Rattle.std.proofs.lemmas.Bool.or_cases (is_note_of (Some send) note) (list_any (is_note_of (Some send)) (notes me up past)) (subst N is some))

  delivered_tagged : (x : Entry) (past : List Entry) (send : Probe) (d : Delivers capacity me x past send) → IsTagged d.copy
  delivered_tagged x past send d =
      danh_tagged mac mode (knows_at me past (now (x ∷ past)) d.port d.copy) d.port (came d.copy) up
      (leaves_wanted capacity me past (now (x ∷ past)) d.port d.copy x.outcome up d.ok d.left)

  noted : (send : Probe) (x : Entry) (past : List Entry) → Delivers capacity me x past send → count_by (is_note_of (Some send)) (notes me up (x ∷ past)) ≡ 1 + count_by (is_note_of (Some send)) (notes me up past)
  noted send x past d =
      let t = delivered_tagged x past send d in
      let note = tagged_note capacity me up x past d.port d.copy t.0 d.is d.ok t.1 d.left in
      let Q : Option Noted → Type 0 = λ o. count_by (is_note_of (Some send)) (cons_option o (notes me up past)) ≡ 1 + count_by (is_note_of (Some send)) (notes me up past) in
      let more = count_more (is_note_of (Some send)) (record { key = key_of t.0; moment = now (x ∷ past); probe = d.copy.probe }) (notes me up past) in
      let one = one_if (is_of send d.copy.probe) d.mine in
      subst Q (sym note) (omega arith)

  -- what was delivered was noted
  pub delivered_counts : (send : Probe) (h : List Entry) → Each (Answered capacity me) h → count_by (delivers send) h ≤ count_by (is_note_of (Some send)) (notes me up h)
  delivered_counts send h legal =
      let count : List Entry → ℕ = λ past. count_by (is_note_of (Some send)) (notes me up past) in
      let One : Entry → List Entry → Type 0 = λ x past. Delivers capacity me x past send → count (x ∷ past) ≡ 1 + count past in
      delivered_below capacity me send count h legal (notes_grow (is_note_of (Some send)) me up) (each_so (Answered capacity me) One h (λ x past ok d. noted send x past d) legal)

  -- each send left by both ring ports
  pub record SentByBoth (place : ℕ) (s : Sending) (h : List Entry) : Type 0 where
    pub seq : ℕ
    pub numbered : s.seq ≡ Some seq
    pub source : s.frame.src ≡ mac
    pub elsewhere : is_group s.frame.dst ≡ false → s.frame.dst ≡ mac → ⊥
    pub left : (r : RingExit) → list_any (is_copy (record { node = number; place = place })) (passes me (exit_port r) h) ≡ true

  -- what an entry that sends lets leave
  pub own_pass : (x : Entry) (past : List Entry) → Answered capacity me x past → (s : Sending) → sent_by (Danh mac mode) x.event x.outcome ≡ Some s →
      IsOwnSend mac mode x.event x.outcome s × (probe_handled (record { node = number; place = length past }) x.event ≡ Some (record { node = number; place = length past }))
  own_pass x past ok s is = by_event x.event refl
    where
      here : Probe
      here = record { node = number; place = length past }

      this : SendsOrNot mac mode x.event x.outcome → IsOwnSend mac mode x.event x.outcome s
      this (inl none) = let both : None ≡ Some s = sym none.0 ∙ is in absurd cc
      this (inr some) =
          let both : Some some.0 ≡ Some s = sym some.1 ∙ is in
          let same : some.0 ≡ s = cc in
          let P : Sending → Type 0 = λ t. IsOwnSend mac mode x.event x.outcome t in
          subst P same some.2

      by_event : (event : Event) → x.event ≡ event → IsOwnSend mac mode x.event x.outcome s × (probe_handled (record { node = number; place = length past }) x.event ≡ Some (record { node = number; place = length past }))
      by_event (Send from dst vlan ethertype payload) e =
          let A : Event → Type 0 = λ ev. answer capacity me past (now (x ∷ past)) ev ≡ Ok x.outcome in
          let S : Event → Type 0 = λ ev. SendsOrNot mac mode ev x.outcome in
          (this (subst S (sym e) (danh_sends capacity number mac mode past (now (x ∷ past)) from dst vlan ethertype payload x.outcome (subst A e ok))), ap (probe_handled (record { node = number; place = length past })) e)
      by_event (Supervise about) e =
          let A : Event → Type 0 = λ ev. answer capacity me past (now (x ∷ past)) ev ≡ Ok x.outcome in
          let S : Event → Type 0 = λ ev. SendsOrNot mac mode ev x.outcome in
          (this (subst S (sym e) (danh_lives capacity number mac mode past (now (x ∷ past)) about x.outcome (subst A e ok))), ap (probe_handled (record { node = number; place = length past })) e)
      by_event Age e = let none : sent_by (Danh mac mode) x.event x.outcome ≡ None = ap (λ ev. sent_by (Danh mac mode) ev x.outcome) e in absurd cc
      by_event (Arrive port copy) e = let none : sent_by (Danh mac mode) x.event x.outcome ≡ None = ap (λ ev. sent_by (Danh mac mode) ev x.outcome) e in absurd cc
