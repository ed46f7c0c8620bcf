-- In a world of a play nothing that is needed is forgotten, and no direction of a link carries a send twice.
use Rattle.std.proofs.Common.{◌≡◌, ◌⊎◌, inl, inr, ℕ, ◌+◌, ◌<◌, ◌≤◌, ◌&&◌, Bool, true, false, List, [], ◌∷◌, ◌++◌, length, count_by, Option, Some, None, refl, sym, ap, ◌∙◌, subst, arith, ⊎_elim, zero, suc}
use Rattle.std.specs.List.{AllByRecursion, list_any}
use Rattle.std.proofs.lemmas.Bool.{cases_lt}
use Rattle.hsr_frame.specs.Egress.{Egress}
use Rattle.hsr_node.specs.Record.{Each, Noted, notes, now}
use Rattle.hsr_node.specs.declared.entry.Entry.{Entry}
use Rattle.hsr_node.specs.declared.event.Carried.{Carried}
use Rattle.hsr_node.specs.declared.event.Event.{Event}
use Rattle.hsr_node.specs.declared.event.Event.TheVariants.{Send, Supervise, Arrive, Age}
use Rattle.hsr_node.specs.declared.event.Probe.{Probe}
use Rattle.hsr_link.specs.Rows.{put_copies}
use Rattle.hsr_link.specs.declared.row.Dir.{Dir}
use Rattle.hsr_link.specs.declared.row.Dir.TheVariants.{Forth, Back}
use Rattle.hsr_link.specs.declared.row.Row.{Row}
use Rattle.hsr_run_laws.specs.Once.{is_copy}
use Rattle.hsr_run_laws.specs.Premises.{is_note_of}
use Rattle.hsr_run_laws.specs.Run.{is_of, owner_of}
use Rattle.hsr_run_laws.proofs.Lists.{all_weaker}
use Rattle.hsr_run_laws.proofs.Pigeon.{pigeon}
use Rattle.hsr_record_laws.specs.Few.{AreFewSince, IsNotedOnce, IsYoung}
use Rattle.hsr_record_laws.specs.Rivals.{RemembersEach, since}
use Rattle.hsr_record_laws.proofs.Few.{few_since_keep}
use Rattle.hsr_record_laws.proofs.Leaves.{leaves_once}
use Rattle.hsr_record_laws.proofs.Rivals.{count_since}
use Rattle.hsr_world_laws.specs.Law.{LaneAgrees, SpanAgrees}
use Rattle.hsr_world_laws.specs.Spans.{Lane, Span, lane_of}
use Rattle.hsr_world_laws.specs.World.{World, record_at, span_at, span_in}
use Rattle.hsr_world_laws.proofs.Counts.{counts_of}
use Rattle.hsr_plays.specs.Conditions.{IsClear}
use Rattle.hsr_plays.specs.Law.{run_in}
use Rattle.hsr_plays.specs.Setup.{IsSetup, Setup}
use Rattle.hsr_plays.specs.Spans.{meets, moment_at, spans}
use Rattle.hsr_plays.specs.declared.span.SendSpan.{SendSpan}
use Rattle.hsr_plays.proofs.Open.{open_parts}
use Rattle.hsr_play_laws.specs.Told.{IsAt, IsOpenCopy, IsOpenSend, IsTold, RemembersNow, Timed}
use Rattle.hsr_play_laws.proofs.OneSpan.{IsNamed, all_apart, is_span_of}
use Rattle.hsr_play_laws.proofs.Worlds.{answers, is_record, of_sends, past_is, sound}
use Rattle.hsr_play_laws.proofs.Walk.{Answers, AreOfSends, IsRival, walk}

module _ (s : Setup) (clear : IsClear s) (w : World) (k : ℕ) where
  -- the notes from the first one of a send on, at an arrival of it
  few : (x : Entry) (past : List Entry) (time : ℕ) (send : Probe) → IsOpenSend s w send time → x.at ≡ moment_at s.orders time → Timed s w k time past →
      Answers s w k past → AreOfSends s w k past → (e : Egress) → IsNotedOnce (notes (owner_of (run_in s w) k) e past) →
      (length (since send (notes (owner_of (run_in s w) k) e past)) ≤ s.capacity) × AllByRecursion (IsYoung (now (x ∷ past))) (since send (notes (owner_of (run_in s w) k) e past))
  few x past time send o at timed legal of_send e once =
      let span = o.span in
      let is_span = o.is in
      let brief = clear.brief is_span.at span is_span.listed in
      let crowd = clear.uncrowded is_span.at span is_span.listed in
      let p = open_parts time span o.open_then in
      let ns = notes (owner_of (run_in s w) k) e past in
      let up : (now (x ∷ past) ≡ now past) ⊎ ((j : ℕ) → span.index < j → j ≤ time → now (x ∷ past) < moment_at s.orders j + 400000) =
      ⊎_elim
      (λ later. inr (λ j above below.
      let less : moment_at s.orders time < moment_at s.orders j + 400000 = brief j time above (omega (arith, below, p)) below p.1 in
      omega (arith, later, at, less)))
      (λ no_later. inl (omega (arith, no_later)))
      (cases_lt (now past) x.at) in
      let all = walk s w k e send span is_span brief (now (x ∷ past)) time past p.1 timed legal of_send up in
      let apart = all_apart s w {X = Noted} (λ note. note.probe) (since send ns)
      (all_weaker (IsRival s w k e send span is_span brief (now (x ∷ past))) (λ (n : Noted). IsNamed s w n.probe) (since send ns) (λ n r. r.named) all)
      (λ other. let less = count_since send (is_note_of (Some other)) ns in let most = once other in
      let all_of_it : count_by (is_note_of (Some other)) (since send ns) ≤ 1 = omega (arith, less, most) in all_of_it) in
      let most = pigeon (λ (note : Noted) (y : SendSpan). is_span_of s w note.probe y) (meets span) (since send ns) (spans s) apart
      (all_weaker (IsRival s w k e send span is_span brief (now (x ∷ past))) (λ (n : Noted). list_any (λ y. is_span_of s w n.probe y && meets span y) (spans s) ≡ true) (since send ns) (λ n r. r.meet) all) in (
        omega (arith, most, crowd),
        all_weaker (IsRival s w k e send span is_span brief (now (x ∷ past))) (IsYoung (now (x ∷ past))) (since send ns) (λ n r. r.young) all,
      )

  few_each : (last : ℕ) (h : List Entry) → Timed s w k last h → Answers s w k h → AreOfSends s w k h → Each (λ x past. AreFewSince (run_in s w) k past (now (x ∷ past)) x.event) h
  few_each last [] timed legal of_send = tt
  few_each last (x ∷ past) (time, low, at, is, timed) legal of_send =
      (by_event x.event is, few_each time past timed legal.1 of_send.1)
    where
      by_event : (event : Event) → IsAt s w k time event past → AreFewSince (run_in s w) k past (now (x ∷ past)) event
      by_event (Send from dst vlan ethertype payload) is = tt
      by_event (Supervise about) is = tt
      by_event (Arrive port copy) is = λ send named e once. few x past time send (is send named) at timed legal.1 of_send.1 e once
      by_event Age is = tt

module _ (s : Setup) (clear : IsClear s) (time n : ℕ) (w : World) (told : IsTold s time n w) where
  pub remembers : (k : ℕ) → RemembersEach (run_in s w) k (record_at w k)
  remembers k = few_since_keep (run_in s w) k (record_at w k) (is_record s w told.own k)
      (few_each s clear w k time (record_at w k) (told.timed k) (answers s w told.own k) (of_sends s w told.own k))

  -- ---- no direction carries a send twice

  agree_at : (spans : List Span) (l : ℕ) → l < length spans → AllByRecursion (SpanAgrees w.places w.records) spans → SpanAgrees w.places w.records (span_in spans l)
  agree_at [] l below all = absurd (omega (arith, below))
  agree_at (x ∷ xs) zero below all = all.0
  agree_at (x ∷ xs) (suc l) below all = agree_at xs l (omega (arith, below)) all.1

  lane_once : (dir : Dir) (rows : List Row) (lane : Lane) (send : Probe) → LaneAgrees w.places w.records dir rows lane → count_by (is_copy send) (put_copies dir rows ++ lane.outbox) ≤ 1
  lane_once dir rows lane send agrees =
      let once = leaves_once (run_in s w) lane.from.node lane.from.port send (record_at w lane.from.node) (is_record s w told.own lane.from.node) (remembers lane.from.node) in
      let same = counts_of _ _ agrees.sent (is_copy send) in
      omega (arith, once, same)

  pub once_now : (l : ℕ) (dir : Dir) (send : Probe) → l < length w.spans → count_by (is_copy send) (put_copies dir (span_at w l).link.rows ++ (lane_of dir (span_at w l)).outbox) ≤ 1
  once_now l Forth send below = lane_once Forth (span_at w l).link.rows (span_at w l).forth send (agree_at w.spans l below (sound s w told.own).agree).forth
  once_now l Back send below = lane_once Back (span_at w l).link.rows (span_at w l).back send (agree_at w.spans l below (sound s w told.own).agree).back

pub remembers_now : RemembersNow
remembers_now s time n w setup clear told k below = subst (RemembersEach (run_in s w) k) (sym (past_is s.capacity s.links w k)) (remembers s clear time n w told k)
