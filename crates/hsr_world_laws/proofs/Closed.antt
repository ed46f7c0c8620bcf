-- A quiet world that is a run's own is a closed run.
use Rattle.std.proofs.Common.{◌≡◌, ℕ, ◌<◌, Bool, true, false, not, List, [], ◌∷◌, map, reverse, get_or, length, count_by, option_and_then, option_to_list, Option, Some, None, refl, sym, ap, ◌∙◌, subst, arith, ⊎_elim, inl, inr, zero, suc, IsPermutation}
use Rattle.std.specs.Prelude.{is_some, slice_index_or, Vec, ◌||◌}
use Rattle.std.specs.List.{All, AllByRecursion, list_any}
use Rattle.std.specs.Option.{option_or}
use Rattle.std.proofs.lemmas.Bool.{false≢true, or_parts, or_cases}
use Rattle.std.proofs.lemmas.List.{get_or-map, length-map, reverse-reverse}
use Rattle.std.proofs.lemmas.List.Elements.{All-from_recursion, All-head, All-tail}
use Rattle.hsr_link.specs.Rows.{is_queued, put_copies, taken_copies}
use Rattle.hsr_link.specs.declared.row.Dir.{Dir}
use Rattle.hsr_link.specs.declared.row.Dir.TheVariants.{Forth, Back}
use Rattle.hsr_link.specs.declared.row.Row.{Row}
use Rattle.hsr_node.specs.Flow.{arrivals, passes, send_at}
use Rattle.hsr_node.specs.declared.sending.Sending.{Sending}
use Rattle.hsr_node.specs.Record.{Each, IsLegal, Owner}
use Rattle.hsr_node.specs.declared.entry.Entry.{Entry}
use Rattle.hsr_node.specs.declared.event.Carried.{Carried}
use Rattle.hsr_node.specs.declared.event.Event.{Event}
use Rattle.hsr_node.specs.declared.event.Event.TheVariants as event
use Rattle.hsr_node.specs.declared.event.Outcome.{Outcome}
use Rattle.hsr_node.specs.declared.event.Outcome.TheVariants as outcome
use Rattle.hsr_node.specs.declared.event.Probe.{Probe}
use Rattle.hsr_node.specs.declared.place.Place.{Place}
use Rattle.hsr_topology.proofs.Ends.{end_is}
use Rattle.hsr_run_laws.specs.Closed.{IsOfSend, IsSend, IsSettled, HasLink}
use Rattle.hsr_run_laws.specs.Premises.{NumbersFirst}
use Rattle.hsr_run_laws.specs.Run.{Run, from_end, given, given_at, no_end, owner_in, owner_of, past_of, peer_in, record_in, rows_of, to_end}
use Rattle.hsr_topology.specs.Wired.{IsJoin, IsWired}
use Rattle.hsr_topology.specs.declared.end.End.{End}
use Rattle.hsr_finished_run.specs.Finished.{items_of}
use Rattle.hsr_finished_run.specs.Finished as finished
use Rattle.hsr_topology.specs.Topology.{Topology}
use Rattle.std.specs.Global.{Global}
use Rattle.hsr_node.specs.Kept.{Record}
use Rattle.hsr_node.specs.Kept as kept_node
use Rattle.hsr_topology.specs.Links.{is_same_end}
use Rattle.hsr_run_laws.proofs.Lists.{all_implied, count_more, none_all}
use Rattle.hsr_world_laws.specs.Closing.{AlwaysCloses, AlwaysFinishes, AlwaysNumberedFirst, AlwaysOfSend, OnlyQuietCloses, IsOwn, is_busy, is_busy_lane, run_of}
use Rattle.hsr_world_laws.specs.Law.{IsSound, LaneAgrees, SpanAgrees}
use Rattle.hsr_world_laws.specs.Spans.{Lane, Span, lane_of}
use Rattle.hsr_world_laws.specs.Origin.{EachCopy, InSpan, has_injected}
use Rattle.hsr_world_laws.specs.Reached.{IsReached}
use Rattle.hsr_world_laws.specs.World.{World, is_empty, span_in, new_world, or_same, run, tried}
use Rattle.hsr_world_steps.specs.declared.step.Step.{Step}
use Rattle.hsr_world_laws.proofs.Counts.{by_counts, count_append, counts_of}
use Rattle.hsr_world_laws.proofs.First.{first_sound, no_entries}
use Rattle.hsr_world_laws.proofs.Keeps.{always_sound, keeps}
use Rattle.hsr_world_laws.proofs.Linked.{IsLinked, is_led_to, leads_to, linked_run}
use Rattle.hsr_world_laws.proofs.Numbering.{IsFirst, each_kept}
use Rattle.hsr_world_laws.proofs.OfSends.{Holds, HoldsOwn, holds_step}
use Rattle.hsr_world_laws.proofs.Origin.{span_implied, no_copies, send_below}
use Rattle.hsr_world_laws.proofs.Passing.{IsCopyOf, given_in}
use Rattle.hsr_world_laws.proofs.Plans.{always_planned}
use Rattle.hsr_world_laws.proofs.Wires.{Wire, WiredWell, first_wires, run_keeps, step_keeps, wire, wire_of, wired_well}

-- ---- any steps from the first world on

holds_run : (capacity : ℕ) (links : List (List End)) (steps : List Step) (w : World) → IsSound capacity w → AllByRecursion (WiredWell w.places links) (map wire w.spans) → HoldsOwn links w → HoldsOwn links (run capacity steps w)
holds_run capacity links [] w sound wired h = h
holds_run capacity links (step ∷ steps) w sound wired h =
    let after = or_same w (tried capacity w step) in
    let k = step_keeps capacity w step in
    holds_run capacity links steps (or_same w (tried capacity w step)) (keeps capacity w step sound)
    (subst (λ places. AllByRecursion (WiredWell places links) (map wire after.spans)) (sym k.places) (subst (AllByRecursion (WiredWell w.places links)) (sym k.wires) wired))
    (holds_step capacity links w step sound wired h)

first_holds : (room : ℕ) (places : List Place) (links : List (List End)) → Holds links (new_world room places links)
first_holds room places links = record {
  copies = record {
    spans = no_copies _ room links;
    came = λ n port. subst (λ (past : List Entry). AllByRecursion (IsCopyOf places (map (λ (place : Place). []) places) links) (arrivals port past)) (sym (no_entries places n)) tt;
  };
  first = λ m. subst (Each (λ x past. IsFirst places (map (λ (place : Place). []) places) links (owner_in places m) past x.event x.outcome)) (sym (no_entries places m)) tt;
}

pub own_holds : (capacity : ℕ) (places : List Place) (links : List (List End)) (w : World) → IsOwn capacity places links w → Holds links w
own_holds capacity places links w o =
    subst (HoldsOwn links) o.reached.is
    (holds_run capacity links o.reached.steps (new_world o.reached.room places links) (first_sound capacity o.reached.room places links o.wired) (wired_well capacity o.reached.room places links [] o.wired) (λ none frames. first_holds o.reached.room places links))
    o.own o.frames

-- ---- the run of a world

past_is : (capacity : ℕ) (links : List (List End)) (w : World) (n : ℕ) → past_of (run_of capacity links w) n ≡ record_in w.records n
past_is capacity links w n = by_records w.records n
  where
    by_records : (records : List (List Entry)) (n : ℕ) → reverse (slice_index_or (map reverse records) n []) ≡ record_in records n
    by_records [] n = refl
    by_records (past ∷ records) zero = reverse-reverse past
    by_records (past ∷ records) (suc n) = by_records records n

given_is : (capacity : ℕ) (links : List (List End)) (w : World) (send : Probe) → given (run_of capacity links w) send ≡ given_in w.records links send
given_is capacity links w send = by_peer (peer_in (record { node = send.node; port = 0 }) links)
  where
    by_peer : (o : Option End) → option_and_then (λ (end : End). given_at send (past_of (run_of capacity links w) end.node)) o ≡ option_and_then (λ (end : End). given_at send (record_in w.records end.node)) o
    by_peer None = refl
    by_peer (Some end) = ap (given_at send) (past_is capacity links w end.node)

-- it is the one that the code's values are
pub run_is : (capacity : ℕ) (topology : Topology) (kept : List Record) (rows : List (Vec Row Global)) (w : World) → w.places ≡ topology.places → w.records ≡ map kept_node.past_of kept →
    map (λ (span : Span). span.link.rows) w.spans ≡ map items_of rows → run_of capacity topology.links w ≡ finished.run_of capacity topology kept rows
run_is capacity topology kept rows w same records spans =
    let entries : map reverse w.records ≡ map (λ (r : Record). r.entries) kept = ap (map reverse) records ∙ again kept in
    λ i. record { capacity = capacity; places = same i; links = topology.links; records = entries i; rows = spans i }
  where
    again : (kept : List Record) → map reverse (map kept_node.past_of kept) ≡ map (λ (r : Record). r.entries) kept
    again [] = refl
    again (r ∷ kept) = ap (λ entries. entries ∷ map reverse (map kept_node.past_of kept)) (reverse-reverse r.entries) ∙ ap (λ all. r.entries ∷ all) (again kept)

-- a node with an entry is one of those there are
has_record : (records : List (List Entry)) (n k : ℕ) → k < length (record_in records n) → n < length records
has_record [] n k h = absurd (omega (arith, h))
has_record (past ∷ records) zero k h = omega arith
has_record (past ∷ records) (suc n) k h = let rest = has_record records n k h in omega (arith, rest)

is_send : (capacity : ℕ) (links : List (List End)) (w : World) → length w.records ≡ length w.places → (send : Probe) (s : Sending) →
    send_at (owner_in w.places send.node).place send.place (record_in w.records send.node) ≡ Some s → IsSend (run_of capacity links w) send s
is_send capacity links w counted send s sent =
    let below = has_record w.records send.node send.place (send_below (owner_in w.places send.node).place send.place (record_in w.records send.node) s sent) in
    (omega (arith, below, counted), ap (send_at (owner_in w.places send.node).place send.place) (past_is capacity links w send.node) ∙ sent)

of_send : (capacity : ℕ) (links : List (List End)) (w : World) → length w.records ≡ length w.places → (c : Carried) → IsCopyOf w.places w.records links c → IsOfSend (run_of capacity links w) c
of_send capacity links w counted c q = record {
  send = q.send;
  sending = q.sending;
  named = q.named;
  is_send = is_send capacity links w counted q.send q.sending q.sent;
  frame = q.frame;
  number = λ t e. ap (option_or q.sending.seq) (given_is capacity links w q.send) ∙ q.number t e;
}

sound_own : (capacity : ℕ) (places : List Place) (links : List (List End)) (w : World) → IsOwn capacity places links w → IsSound capacity w
sound_own capacity places links w o =
    subst (IsSound capacity) o.reached.is (always_sound capacity o.reached.steps (new_world o.reached.room places links) (first_sound capacity o.reached.room places links o.wired))

pub always_of_send : AlwaysOfSend
always_of_send capacity places links w o =
    let h = own_holds capacity places links w o in
    let P : Carried → Type 0 = IsCopyOf w.places w.records links in
    let Q : Carried → Type 0 = IsOfSend (run_of capacity links w) in
    let so : (c : Carried) → P c → Q c = of_send capacity links w (sound_own capacity places links w o).counted in
    record {
      spans = all_implied (InSpan P) (InSpan Q) (span_implied P Q so) w.spans h.copies.spans;
      came = λ n port. all_implied P Q so (arrivals port (record_in w.records n)) (h.copies.came n port);
    }

-- ---- numbered first

numbers_first : (capacity : ℕ) (links : List (List End)) (w : World) (owner : Owner) (past : List Entry) (e : Event) (o : Outcome) → IsFirst w.places w.records links owner past e o → NumbersFirst (run_of capacity links w) owner past e o
numbers_first capacity links w owner past (event.Send from dst vlan ethertype payload) o h = tt
numbers_first capacity links w owner past (event.Supervise about) o h = tt
numbers_first capacity links w owner past event.Age o h = tt
numbers_first capacity links w owner past (event.Arrive port copy) (outcome.Sent seq ports) h = tt
numbers_first capacity links w owner past (event.Arrive port copy) (outcome.Life seq life ports) h = tt
numbers_first capacity links w owner past (event.Arrive port copy) outcome.Aged h = tt
numbers_first capacity links w owner past (event.Arrive port copy) (outcome.Judged up_too ports None cause) h = tt
numbers_first capacity links w owner past (event.Arrive port copy) (outcome.Judged up_too ports (Some k) cause) h = λ send named. (number send named, h.unnoted)
  where
    the_probe : (p q : Probe) → Some p ≡ Some q → p ≡ q
    the_probe p q e = cc

    the_sending : (p q : Sending) → Some p ≡ Some q → p ≡ q
    the_sending p q e = cc

    number : (send : Probe) → copy.probe ≡ Some send → (s : Sending) → IsSend (run_of capacity links w) send s → option_or s.seq (given (run_of capacity links w) send) ≡ Some k
    number send named s is =
        let same : send ≡ h.send = the_probe send h.send (sym named ∙ h.named) in
        let sent : send_at (owner_in w.places send.node).place send.place (record_in w.records send.node) ≡ Some s =
        ap (send_at (owner_in w.places send.node).place send.place) (sym (past_is capacity links w send.node)) ∙ is.1 in
        let there : send_at (owner_in w.places send.node).place send.place (record_in w.records send.node) ≡ Some h.sending =
        subst (λ (p : Probe). send_at (owner_in w.places p.node).place p.place (record_in w.records p.node) ≡ Some h.sending) (sym same) h.sent in
        let seq : s.seq ≡ h.sending.seq = ap (λ (v : Sending). v.seq) (the_sending s h.sending (sym sent ∙ there)) in
        ap (λ o. option_or o (given (run_of capacity links w) send)) seq
        ∙ (ap (option_or h.sending.seq) (given_is capacity links w send) ∙ (ap (λ p. option_or h.sending.seq (given_in w.records links p)) same ∙ h.number))

pub always_numbered_first : AlwaysNumberedFirst
always_numbered_first capacity places links w o n below =
    let h = own_holds capacity places links w o in
    let Q : Entry → List Entry → Type 0 = λ x past. NumbersFirst (run_of capacity links w) (owner_in w.places n) past x.event x.outcome in
    subst (Each (λ x past. NumbersFirst (run_of capacity links w) (owner_in w.places n) past x.event x.outcome)) (sym (past_is capacity links w n))
    (each_kept (λ x past. IsFirst w.places w.records links (owner_in w.places n) past x.event x.outcome) Q
    (λ x past. numbers_first capacity links w (owner_in w.places n) past x.event x.outcome) (record_in w.records n) (h.first n))

-- ---- where the links of the run end

-- a span's lanes are the link's directions
record IsSpanOf (link : List End) (span : Span) : Type 0 where
  forth_from : span.forth.from ≡ from_end Forth link
  forth_to : span.forth.to ≡ to_end Forth link
  back_from : span.back.from ≡ from_end Back link
  back_to : span.back.to ≡ to_end Back link

span_of : (places : List Place) (link : List End) (span : Span) → IsJoin places link → wire span ≡ wire_of link → IsSpanOf link span
span_of places [] span j e = absurd j
span_of places (x ∷ []) span j e = absurd j
span_of places (x ∷ y ∷ z ∷ ends) span j e = absurd j
span_of places (x ∷ y ∷ []) span j e = record { forth_from = ap (λ v. v.0) e; forth_to = ap (λ v. v.1) e; back_from = ap (λ v. v.2) e; back_to = ap (λ v. v.3) e }

from_is : (dir : Dir) (link : List End) (span : Span) → IsSpanOf link span → (lane_of dir span).from ≡ from_end dir link
from_is Forth link span h = h.forth_from
from_is Back link span h = h.back_from

to_is : (dir : Dir) (link : List End) (span : Span) → IsSpanOf link span → (lane_of dir span).to ≡ to_end dir link
to_is Forth link span h = h.forth_to
to_is Back link span h = h.back_to

-- where a lane ends, a link of the run ends
link_to : (places : List Place) (end : End) (links : List (List End)) → All (IsJoin places) links → is_led_to (map wire_of links) end ≡ true →
    (l : ℕ) × (dir : Dir) × (l < length links) × (to_end dir (slice_index_or links l []) ≡ end)
link_to places end [] joins h = absurd (false≢true h)
link_to places end (link ∷ links) joins h = ⊎_elim
    (λ here. by_link link (All-head (IsJoin places) link links joins) here)
    (λ later. let r = link_to places end links (All-tail (IsJoin places) link links joins) later in (suc r.0, r.1, (let below = r.2 in omega (arith, below)), r.3))
    (or_cases (leads_to end (wire_of link)) (is_led_to (map wire_of links) end) h)
  where
    by_link : (x : List End) → IsJoin places x → leads_to end (wire_of x) ≡ true → (l : ℕ) × (dir : Dir) × (l < length (x ∷ links)) × (to_end dir (slice_index_or (x ∷ links) l []) ≡ end)
    by_link [] j h = absurd j
    by_link (x ∷ []) j h = absurd j
    by_link (x ∷ y ∷ z ∷ ends) j h = absurd j
    by_link (x ∷ y ∷ []) j h = ⊎_elim (λ first. (zero, Forth, omega arith, end_is y end first)) (λ second. (zero, Back, omega arith, end_is x end second)) (or_cases (is_same_end y end) (is_same_end x end) h)

-- ---- links and records agree

not_busy : (lane : Lane) → is_busy_lane lane ≡ false → (lane.outbox ≡ []) × (lane.hand ≡ None)
not_busy lane h = let parts = or_parts (not (is_empty lane.outbox)) (is_some lane.hand) h in (no_box lane.outbox parts.0, no_hand lane.hand parts.1)
  where
    no_box : (box : List Carried) → not (is_empty box) ≡ false → box ≡ []
    no_box [] e = refl
    no_box (c ∷ cs) e = absurd (false≢true (sym e))

    no_hand : (hand : Option Carried) → is_some hand ≡ false → hand ≡ None
    no_hand None e = refl
    no_hand (Some c) e = absurd (false≢true (sym e))

record IsIdle (span : Span) : Type 0 where
  rows : list_any (λ (row : Row). is_queued row.fate) span.link.rows ≡ false
  forth : is_busy_lane span.forth ≡ false
  back : is_busy_lane span.back ≡ false

not_waiting : (span : Span) → is_busy span ≡ false → IsIdle span
not_waiting span h =
    let parts = or_parts (list_any (λ (row : Row). is_queued row.fate) span.link.rows || is_busy_lane span.forth) (is_busy_lane span.back) h in
    let both = or_parts (list_any (λ (row : Row). is_queued row.fate) span.link.rows) (is_busy_lane span.forth) parts.0 in
    record { rows = both.0; forth = both.1; back = parts.1 }

record LaneQuiet (places : List Place) (records : List (List Entry)) (dir : Dir) (rows : List Row) (lane : Lane) : Type 0 where
  put : IsPermutation (passes (owner_in places lane.from.node) lane.from.port (record_in records lane.from.node)) (put_copies dir rows)
  taken : IsPermutation (taken_copies dir rows) (arrivals lane.to.port (record_in records lane.to.node))

lane_quiet : (places : List Place) (records : List (List Entry)) (dir : Dir) (rows : List Row) (lane : Lane) → LaneAgrees places records dir rows lane → (lane.outbox ≡ []) × (lane.hand ≡ None) → LaneQuiet places records dir rows lane
lane_quiet places records dir rows lane h empty = record {
  put = by_counts _ _ (λ p.
      let all = count_append p (put_copies dir rows) lane.outbox in
      let none = ap (count_by p) empty.0 in
      let sent = counts_of _ _ h.sent p in
      omega (arith, all, none, sent));
  taken = by_counts _ _ (λ p.
      let all = count_append p (arrivals lane.to.port (record_in records lane.to.node)) (option_to_list lane.hand) in
      let none = ap (λ o. count_by p (option_to_list o)) empty.1 in
      let came = counts_of _ _ h.came p in
      omega (arith, all, none, came));
}

rows_settled : (run : Run) (rows : List Row) → AllByRecursion (λ (row : Row). IsOfSend run row.carried) rows → list_any (λ (row : Row). row.injected) rows ≡ false → list_any (λ (row : Row). is_queued row.fate) rows ≡ false →
    AllByRecursion (IsSettled run) rows
rows_settled run [] all own gone = tt
rows_settled run (row ∷ rows) all own gone =
    let a = or_parts row.injected (list_any (λ (row : Row). row.injected) rows) own in
    let b = or_parts (is_queued row.fate) (list_any (λ (row : Row). is_queued row.fate) rows) gone in
    (record { put = a.0; origin = all.0; gone = b.0 }, rows_settled run rows all.1 a.1 b.1)

-- ---- a world and its run

module _ (capacity : ℕ) (places : List Place) (links : List (List End)) (w : World) (wired : IsWired places links) (r : IsReached capacity places links w) where
  sound : IsSound capacity w
  sound = subst (IsSound capacity) r.is (always_sound capacity r.steps (new_world r.room places links) (first_sound capacity r.room places links wired))

  pub wires : map wire w.spans ≡ map wire_of links
  wires = subst (λ (v : World). map wire v.spans ≡ map wire_of links) r.is ((run_keeps capacity r.steps (new_world r.room places links)).wires ∙ first_wires r.room links)

  pub spans_counted : length w.spans ≡ length links
  spans_counted = sym (length-map w.spans wire) ∙ (ap length wires ∙ length-map links wire_of)

  ends : ℕ → List End
  ends l = slice_index_or links l []

  at : (P : Span → Type 0) → AllByRecursion P w.spans → (l : ℕ) → l < length links → P (span_in w.spans l)
  at P all l below = All-from_recursion P w.spans all l _ (omega (arith, below, spans_counted))

  agrees : (l : ℕ) (dir : Dir) → l < length links → LaneAgrees w.places w.records dir (span_in w.spans l).link.rows (lane_of dir (span_in w.spans l))
  agrees l Forth below = (at (SpanAgrees w.places w.records) sound.agree l below).forth
  agrees l Back below = (at (SpanAgrees w.places w.records) sound.agree l below).back

  rows_are : (l : ℕ) → l < length links → rows_of (run_of capacity links w) l ≡ (span_in w.spans l).link.rows
  rows_are l below = get_or-map (λ (span : Span). span.link.rows) w.spans l _ [] (omega (arith, below, spans_counted))

  is_span : (l : ℕ) → l < length links → IsSpanOf (slice_index_or links l []) (span_in w.spans l)
  is_span l below =
      let nowhere : Wire = (no_end, no_end, no_end, no_end) in
      span_of places (slice_index_or links l []) (span_in w.spans l) (wired.joined l [] below)
      (sym (get_or-map wire w.spans l _ nowhere (omega (arith, below, spans_counted))) ∙ (ap (λ ws. get_or ws l nowhere) wires ∙ get_or-map wire_of links l [] nowhere below))

  pub linked : IsLinked (map wire w.spans) w.records
  linked =
      subst (λ (v : World). IsLinked (map wire v.spans) v.records) r.is
      (linked_run capacity r.steps (new_world r.room places links) (first_sound capacity r.room places links wired) (λ n port. inr (ap (arrivals port) (no_entries places n))))

  has_link : (k port : ℕ) → is_led_to (map wire w.spans) (record { node = k; port = port }) ≡ true → HasLink (run_of capacity links w) k port
  has_link k port led =
      let found = link_to places (record { node = k; port = port }) links wired.joined (subst (λ ws. is_led_to ws (record { node = k; port = port }) ≡ true) wires led) in
      record { link = found.0; dir = found.1; below = found.2; ends = found.3 }

  -- in the words of the run: what left at the beginning of a lane, and what came to its end
  left_at : (Q : List Carried → List Carried → Type 0) (l : ℕ) (dir : Dir) → l < length links →
      Q (passes (owner_in w.places (lane_of dir (span_in w.spans l)).from.node) (lane_of dir (span_in w.spans l)).from.port (record_in w.records (lane_of dir (span_in w.spans l)).from.node))
      (put_copies dir (span_in w.spans l).link.rows) →
      let end = from_end dir (slice_index_or links l []) in
      Q (passes (owner_of (run_of capacity links w) end.node) end.port (past_of (run_of capacity links w) end.node)) (put_copies dir (rows_of (run_of capacity links w) l))
  left_at Q l dir below h =
      subst (λ (end : End). Q (passes (owner_of (run_of capacity links w) end.node) end.port (past_of (run_of capacity links w) end.node)) (put_copies dir (rows_of (run_of capacity links w) l)))
      (from_is dir (slice_index_or links l []) (span_in w.spans l) (is_span l below))
      (subst (λ past. Q (passes (owner_in w.places (lane_of dir (span_in w.spans l)).from.node) (lane_of dir (span_in w.spans l)).from.port past) (put_copies dir (rows_of (run_of capacity links w) l)))
      (sym (past_is capacity links w (lane_of dir (span_in w.spans l)).from.node))
      (subst
      (λ rows. Q (passes (owner_in w.places (lane_of dir (span_in w.spans l)).from.node) (lane_of dir (span_in w.spans l)).from.port (record_in w.records (lane_of dir (span_in w.spans l)).from.node)) (put_copies dir rows))
      (sym (rows_are l below)) h))

  came_at : (Q : List Carried → List Carried → Type 0) (l : ℕ) (dir : Dir) → l < length links →
      Q (taken_copies dir (span_in w.spans l).link.rows) (arrivals (lane_of dir (span_in w.spans l)).to.port (record_in w.records (lane_of dir (span_in w.spans l)).to.node)) →
      let end = to_end dir (slice_index_or links l []) in
      Q (taken_copies dir (rows_of (run_of capacity links w) l)) (arrivals end.port (past_of (run_of capacity links w) end.node))
  came_at Q l dir below h =
      subst (λ (end : End). Q (taken_copies dir (rows_of (run_of capacity links w) l)) (arrivals end.port (past_of (run_of capacity links w) end.node)))
      (to_is dir (slice_index_or links l []) (span_in w.spans l) (is_span l below))
      (subst (λ past. Q (taken_copies dir (rows_of (run_of capacity links w) l)) (arrivals (lane_of dir (span_in w.spans l)).to.port past))
      (sym (past_is capacity links w (lane_of dir (span_in w.spans l)).to.node))
      (subst (λ rows. Q (taken_copies dir rows) (arrivals (lane_of dir (span_in w.spans l)).to.port (record_in w.records (lane_of dir (span_in w.spans l)).to.node))) (sym (rows_are l below)) h))

-- ---- a quiet world closes

pub always_closes : AlwaysCloses
always_closes capacity places links w tables o quiet = record {
  tables = tables;
  records = length-map w.records reverse ∙ all.counted;
  rows = length-map w.spans (λ (span : Span). span.link.rows) ∙ spans_counted capacity places links w o.wired o.reached;
  legal = λ k below. subst (IsLegal capacity (owner_in w.places k)) (sym (past_is capacity links w k)) (all.legal k);
  put = λ l dir below. left_at capacity places links w o.wired o.reached (λ xs ys. IsPermutation xs ys) l dir below (lane l dir below).put;
  taken = λ l dir below. came_at capacity places links w o.wired o.reached (λ xs ys. IsPermutation xs ys) l dir below (lane l dir below).taken;
  settled = λ l below.
      subst (AllByRecursion (IsSettled finished)) (sym (rows_are capacity places links w o.wired o.reached l below))
      (rows_settled finished (span_in w.spans l).link.rows (each (InSpan (IsOfSend finished)) copies.spans l below).rows (each (λ span. has_injected span ≡ false) (none_all has_injected w.spans o.own) l below)
      (idle l below).rows);
  linked = λ k port below. ⊎_elim (λ led. inl (has_link capacity places links w o.wired o.reached k port led)) (λ none. inr (ap (arrivals port) (past_is capacity links w k) ∙ none))
      (linked capacity places links w o.wired o.reached k port);
}
  where
    finished : Run
    finished = run_of capacity links w

    all : IsSound capacity w
    all = sound capacity places links w o.wired o.reached

    copies : EachCopy (IsOfSend finished) w
    copies = always_of_send capacity places links w o

    each : (P : Span → Type 0) → AllByRecursion P w.spans → (l : ℕ) → l < length links → P (span_in w.spans l)
    each = at capacity places links w o.wired o.reached

    idle : (l : ℕ) → l < length links → IsIdle (span_in w.spans l)
    idle l below = not_waiting (span_in w.spans l) (each (λ span. is_busy span ≡ false) (none_all is_busy w.spans quiet) l below)

    empty : (l : ℕ) (dir : Dir) → l < length links → ((lane_of dir (span_in w.spans l)).outbox ≡ []) × ((lane_of dir (span_in w.spans l)).hand ≡ None)
    empty l Forth below = not_busy (span_in w.spans l).forth (idle l below).forth
    empty l Back below = not_busy (span_in w.spans l).back (idle l below).back

    lane : (l : ℕ) (dir : Dir) → l < length links → LaneQuiet w.places w.records dir (span_in w.spans l).link.rows (lane_of dir (span_in w.spans l))
    lane l dir below =
        lane_quiet w.places w.records dir (span_in w.spans l).link.rows (lane_of dir (span_in w.spans l)) (agrees capacity places links w o.wired o.reached l dir below) (empty l dir below)

-- ---- what closes is quiet

none_any : {X : Type 0} (p : X → Bool) (xs : List X) (d : X) → ((l : ℕ) → l < length xs → p (get_or xs l d) ≡ false) → list_any p xs ≡ false
none_any p [] d h = refl
none_any p (x ∷ xs) d h = neither (p x) (list_any p xs) (h zero (omega arith)) (none_any p xs d (λ l below. h (suc l) (omega (arith, below))))
  where
    neither : (a b : Bool) → a ≡ false → b ≡ false → (a || b) ≡ false
    neither true b e f = e
    neither false b e f = f

-- no copy is counted
no_items : (xs : List Carried) → count_by (λ (c : Carried). true) xs ≡ 0 → xs ≡ []
no_items [] h = refl
no_items (c ∷ xs) h = let more = count_more (λ (d : Carried). true) c xs in absurd (omega (arith, more, h))

no_item : (o : Option Carried) → count_by (λ (c : Carried). true) (option_to_list o) ≡ 0 → o ≡ None
no_item None h = refl
no_item (Some c) h = let more = count_more (λ (d : Carried). true) c [] in absurd (omega (arith, more, h))

settled_rows : (run : Run) (rows : List Row) → AllByRecursion (IsSettled run) rows → (list_any (λ (row : Row). row.injected) rows ≡ false) × (list_any (λ (row : Row). is_queued row.fate) rows ≡ false)
settled_rows run [] all = (refl, refl)
settled_rows run (row ∷ rows) all =
    let rest = settled_rows run rows all.1 in
    (ap (λ b. b || list_any (λ (row : Row). row.injected) rows) all.0.put ∙ rest.0, ap (λ b. b || list_any (λ (row : Row). is_queued row.fate) rows) all.0.gone ∙ rest.1)

pub only_quiet_closes : OnlyQuietCloses
only_quiet_closes capacity places links w wired r closed = (
  none_any is_busy w.spans _ (λ l below. let inside = within l below in idle (span_in w.spans l) (settled_rows finished (span_in w.spans l).link.rows (rows l inside)).1 (free l Forth inside) (free l Back inside)),
  none_any has_injected w.spans _ (λ l below. (settled_rows finished (span_in w.spans l).link.rows (rows l (within l below))).0),
)
  where
    finished : Run
    finished = run_of capacity links w

    within : (l : ℕ) → l < length w.spans → l < length links
    within l below = let counted = spans_counted capacity places links w wired r in omega (arith, below, counted)

    rows : (l : ℕ) → l < length links → AllByRecursion (IsSettled finished) (span_in w.spans l).link.rows
    rows l below = subst (AllByRecursion (IsSettled finished)) (rows_are capacity places links w wired r l below) (closed.settled l below)

    box : (l : ℕ) (dir : Dir) → l < length links → (lane_of dir (span_in w.spans l)).outbox ≡ []
    box l dir below =
        let lane : Lane = lane_of dir (span_in w.spans l) in
        left_at capacity places links w wired r (λ xs ys. IsPermutation xs ys → (lane_of dir (span_in w.spans l)).outbox ≡ []) l dir below
        (λ perm.
        let test : Carried → Bool = λ c. true in
        let same = counts_of _ _ perm test in
        let sent = counts_of _ _ (agrees capacity places links w wired r l dir below).sent test in
        let parts = count_append test (put_copies dir (span_in w.spans l).link.rows) lane.outbox in
        no_items lane.outbox (omega (arith, same, sent, parts)))
        (closed.put l dir below)

    hand : (l : ℕ) (dir : Dir) → l < length links → (lane_of dir (span_in w.spans l)).hand ≡ None
    hand l dir below =
        let lane : Lane = lane_of dir (span_in w.spans l) in
        came_at capacity places links w wired r (λ xs ys. IsPermutation xs ys → (lane_of dir (span_in w.spans l)).hand ≡ None) l dir below
        (λ perm.
        let test : Carried → Bool = λ c. true in
        let same = counts_of _ _ perm test in
        let came = counts_of _ _ (agrees capacity places links w wired r l dir below).came test in
        let parts = count_append test (arrivals lane.to.port (record_in w.records lane.to.node)) (option_to_list lane.hand) in
        no_item lane.hand (omega (arith, same, came, parts)))
        (closed.taken l dir below)

    free : (l : ℕ) (dir : Dir) → l < length links → is_busy_lane (lane_of dir (span_in w.spans l)) ≡ false
    free l dir below = ap (λ (xs : List Carried). not (is_empty xs) || is_some (lane_of dir (span_in w.spans l)).hand) (box l dir below) ∙ ap (λ (o : Option Carried). is_some o) (hand l dir below)

    idle : (span : Span) → list_any (λ (row : Row). is_queued row.fate) span.link.rows ≡ false → is_busy_lane span.forth ≡ false → is_busy_lane span.back ≡ false → is_busy span ≡ false
    idle span q f b = ap (λ x. (x || is_busy_lane span.forth) || is_busy_lane span.back) q ∙ (ap (λ x. x || is_busy_lane span.back) f ∙ b)

-- ---- with its plan

pub always_finishes : AlwaysFinishes
always_finishes capacity places links w tables o quiet = record {
  wired = subst (λ some. IsWired some links) (sym same) o.wired;
  closed = always_closes capacity places links w tables o quiet;
  planned = always_planned capacity places links w o.reached;
}
  where
    same : w.places ≡ places
    same = ap (λ (v : World). v.places) (sym o.reached.is) ∙ (run_keeps capacity o.reached.steps (new_world o.reached.room places links)).places
