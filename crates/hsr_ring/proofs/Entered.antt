-- What an entry makes of the nodes and spans of the code.
use Rattle.std.proofs.Common.{◌≡◌, ◌⊎◌, inl, inr, ℕ, ◌<◌, ◌+◌, List, [], ◌∷◌, ◌++◌, map, max, reverse, set, get_or, length, None, Result, Ok, Err, refl, sym, ap, ap₂, ◌∙◌, subst, arith}
use Rattle.std.proofs.lemmas.List.FromFn.{get_or-range_with_len}
use Rattle.std.proofs.lemmas.List.{map-set, get_or-map, length-map, length-set, length-append, length-reverse, reverse-append, get_or-set_same, get_or_push}
use Rattle.std.specs.List.{range_with_len}
use Rattle.hsr_run_laws.specs.Run.{owner_in, record_in}
use Rattle.hsr_topology.specs.declared.end.End.{End}
use Rattle.hsr_node.specs.Kept.{Record, answer_to, owner_of, past_of}
use Rattle.hsr_node.specs.Record.{Owner, answer, now}
use Rattle.hsr_node.specs.declared.kept.Answer.{Answer}
use Rattle.hsr_node.specs.declared.entry.Entry.{Entry}
use Rattle.hsr_node.specs.declared.entry.Receipt.{Receipt}
use Rattle.hsr_node.specs.declared.event.Event.{Event}
use Rattle.hsr_node.specs.declared.event.Outcome.{Outcome}
use Rattle.hsr_node.specs.declared.event.StepFault.{StepFault}
use Rattle.hsr_node.specs.declared.event.StepFault.TheVariants as refused
use Rattle.hsr_node.specs.declared.place.Place.{Place}
use Rattle.hsr_node.specs.declared.place.Place.TheVariants.{QuadBox}
use Rattle.hsr_ring.specs.Entering.{IsEntered, IsNotEntered, IsRefusal, IsStepped, IsThere, IsUnplanned, answer_in, past_in}
use Rattle.hsr_world_links.specs.Ports.{places_of}
use Rattle.hsr_world_links.specs.Giving.{given_lane, given_span, receipt_of}
use Rattle.hsr_world_laws.specs.Spans.{Span, emptied, held_in, lanes_of, on_lanes, spread}
use Rattle.hsr_ring.specs.Views.{AreNumbered, world_of}
use Rattle.hsr_world_links.specs.Views.{span_view}
use Rattle.hsr_world_laws.specs.World.{World, added, and_added, cleared, entered, judged_at, planned}
use Rattle.hsr_world_links.specs.declared.span.Span as code
use Rattle.hsr_world_steps.specs.Refused.{world_fault}
use Rattle.hsr_world_steps.specs.declared.step.WorldFault.{WorldFault}
use Rattle.hsr_world_steps.specs.declared.step.WorldFault.TheVariants.{NoMemory, Node, Nothing}
use Rattle.hsr_world_links.proofs.Places.{or_map}
use Rattle.hsr_world_links.proofs.Touched.{map_given}
use Rattle.hsr_world_laws.proofs.Counts.{map_set_same}

-- ---- numbers

number_from_0 : (m n : ℕ) → n < m → get_or (range_with_len 0 m) n 0 ≡ n
number_from_0 m n h = let is = get_or-range_with_len 0 m n 0 h in omega (arith, is)

pub number_at : (nodes : List Record) (n : ℕ) (d : Record) → AreNumbered nodes → n < length nodes → (get_or nodes n d).number ≡ n
number_at nodes n d numbered below =
    sym (get_or-map (λ (r : Record). r.number) nodes n d 0 below) ∙ ap (λ ns. get_or ns n 0) numbered.numbered ∙ number_from_0 (length nodes) n below

pub still_numbered : (nodes : List Record) (n : ℕ) (r d : Record) → AreNumbered nodes → r.number ≡ (get_or nodes n d).number → AreNumbered (set nodes n r)
still_numbered nodes n r d numbered same =
    let long = length-set nodes n r in
    record {
      few = rw long numbered.few;
      numbered = map_set_same (λ (r : Record). r.number) nodes n r d same ∙ (numbered.numbered ∙ ap (range_with_len 0) (sym long));
    }

-- ---- one node

owner_is : (nodes : List Record) (n : ℕ) (d : Record) → AreNumbered nodes → n < length nodes → owner_in (places_of nodes) n ≡ owner_of (get_or nodes n d)
owner_is nodes n d numbered below =
    let number = sym (number_at nodes n d numbered below) in
    let place = get_or-map (λ (r : Record). r.place) nodes n d QuadBox below in
    λ i. record { number = number i; place = place i }

past_is : (nodes : List Record) (n : ℕ) (d : Record) → n < length nodes → past_in nodes n ≡ past_of (get_or nodes n d)
past_is nodes n d below = get_or-map past_of nodes n d [] below

answer_is : (capacity : ℕ) (nodes : List Record) (n at : ℕ) (event : Event) (d : Record) → AreNumbered nodes → n < length nodes →
    answer_in capacity nodes n at event ≡ answer_to capacity (get_or nodes n d) at event
answer_is capacity nodes n at event d numbered below =
    ap₂ (λ (o : Owner) (p : List Entry). answer capacity o p (max (now p) at) event) (owner_is nodes n d numbered below) (past_is nodes n d below)

reverse_push : (xs : List Entry) (x : Entry) → reverse (xs ++ x ∷ []) ≡ x ∷ reverse xs
reverse_push xs x = reverse-append xs (x ∷ [])

pub stepped : (capacity worker n at : ℕ) (event : Event) (nodes : List Record) (r d : Record) (a : Answer) → AreNumbered nodes → n < length nodes →
    r ≡ record (get_or nodes n d) { entries = (get_or nodes n d).entries ++ record { worker = worker; at = at; event = event; outcome = a.outcome } ∷ [] } →
    a.place ≡ length (get_or nodes n d).entries → answer_to capacity (get_or nodes n d) at event ≡ Ok a.outcome →
    IsStepped capacity worker n at event nodes (set nodes n r) (receipt_of (record { node = n; place = a.place }) (record { worker = worker; at = at; event = event; outcome = a.outcome }))
stepped capacity worker n at event nodes r d a numbered below kept place answered =
    let x : Entry = record { worker = worker; at = at; event = event; outcome = a.outcome } in
    let past = past_is nodes n d below in
    let place_is = place ∙ sym (length-reverse (get_or nodes n d).entries) ∙ ap length (sym past) in
    record {
      told = λ i. record { node = n; place = place_is i; entry = x };
      answered = answer_is capacity nodes n at event d numbered below ∙ answered;
      places = map_set_same (λ (r : Record). r.place) nodes n r d (ap (λ (r : Record). r.place) kept);
      records = map-set past_of nodes n r
          ∙ ap (set (map past_of nodes) n) (ap past_of kept ∙ (reverse_push (get_or nodes n d).entries x ∙ ap (λ (p : List Entry). x ∷ p) (sym past)));
    }

-- the new entry stands at its place
pub there : (n place : ℕ) (x : Entry) (nodes : List Record) (r d : Record) → n < length nodes → r ≡ record (get_or nodes n d) { entries = (get_or nodes n d).entries ++ x ∷ [] } →
    place ≡ length (get_or nodes n d).entries → IsThere (set nodes n r) n place x
there n place x nodes r d below kept at = λ d2 e.
    let is : (get_or (set nodes n r) n d2).entries ≡ (get_or nodes n d).entries ++ x ∷ [] = ap (λ (r : Record). r.entries) (get_or-set_same nodes n r d2 below ∙ kept) in
    let long : length ((get_or nodes n d).entries ++ x ∷ []) ≡ length (get_or nodes n d).entries + 1 = length-append (get_or nodes n d).entries (x ∷ []) in (
      subst (λ (es : List Entry). place < length es) (sym is) (omega (arith, at, long)),
      ap (λ (es : List Entry). get_or es place e) is ∙ get_or_push (get_or nodes n d).entries x e place (sym at),
    )

not_both : (answer : Result Outcome StepFault) (fault : StepFault) → (fault ≡ refused.NoMemory) ⊎ (answer ≡ Err fault) →
    (world_fault fault ≡ NoMemory) ⊎ ((x : StepFault) × (answer ≡ Err x) × (world_fault fault ≡ Node x))
not_both answer fault (inl no_memory) = inl (ap world_fault no_memory)
not_both answer refused.NoMemory (inr is) = inl refl
not_both answer refused.WrongEvent (inr is) = inr (refused.WrongEvent, is, refl)
not_both answer (refused.Send fault) (inr is) = inr (refused.Send fault, is, refl)
not_both answer refused.NotProxied (inr is) = inr (refused.NotProxied, is, refl)
not_both answer refused.Spent (inr is) = inr (refused.Spent, is, refl)

pub refused_at : (capacity : ℕ) (nodes : List Record) (n at : ℕ) (event : Event) (d : Record) (fault : StepFault) (f : WorldFault) → AreNumbered nodes → n < length nodes → f ≡ world_fault fault →
    (fault ≡ refused.NoMemory) ⊎ (answer_to capacity (get_or nodes n d) at event ≡ Err fault) → (f ≡ NoMemory) ⊎ IsRefusal capacity nodes n at event f
refused_at capacity nodes n at event d fault f numbered below is told =
    subst (λ (w : WorldFault). (w ≡ NoMemory) ⊎ IsRefusal capacity nodes n at event w) (sym is)
    (not_both (answer_in capacity nodes n at event) fault (or_map (λ e. answer_is capacity nodes n at event d numbered below ∙ e) told))

pub same_place : (old new : List Record) (n : ℕ) (d : Record) → n < length old → places_of new ≡ places_of old → (get_or new n d).place ≡ (owner_in (places_of old) n).place
same_place old new n d below places =
    let long : length new ≡ length old = sym (length-map new (λ (r : Record). r.place)) ∙ ap length places ∙ length-map old (λ (r : Record). r.place) in
    let within : n < length new = omega (arith, long) in
    sym (get_or-map (λ (r : Record). r.place) new n d QuadBox within) ∙ ap (λ ps. get_or ps n QuadBox) places

-- ---- the world

pub entered_ok : (capacity worker n at : ℕ) (event : Event) (old new : List Record) (receipt : Receipt) (place : Place) (before : List Span) (spans : List code.Span) →
    IsStepped capacity worker n at event old new receipt → place ≡ (owner_in (places_of old) n).place → map span_view spans ≡ before →
    IsEntered capacity worker n at event old new before (map (given_span place receipt) spans)
entered_ok capacity worker n at event old new receipt place before spans s same seen = λ plan.
    let w : World = world_of at old before plan in
    let x : Entry = record { worker = worker; at = at; event = event; outcome = receipt.entry.outcome } in
    let past : List Entry = past_in old n in
    let records : set (map past_of old) n (x ∷ past) ≡ map past_of new =
    ap (λ (r : Receipt). set (map past_of old) n (r.entry ∷ past)) (sym s.told) ∙ sym s.records in
    let spread_out : map (on_lanes (spread (owner_in (places_of old) n) x past)) before ≡ map (given_span place receipt) spans =
    ap (map (on_lanes (spread (owner_in (places_of old) n) x past))) (sym seen)
    ∙ (ap₂ (λ (p : Place) (r : Receipt). map (on_lanes (given_lane p r)) (map span_view spans)) (sym same) (sym s.told)
    ∙ sym (map_given place receipt spans)) in
    ap (and_added w worker n event) s.answered
    ∙ ap Ok (λ i. record { moment = at; places = sym s.places i; records = records i; spans = spread_out i; plan = plan })

pub not_entered : (capacity worker n at : ℕ) (event : Event) (nodes : List Record) (spans : List Span) (fault : WorldFault) →
    IsRefusal capacity nodes n at event fault → IsNotEntered capacity worker n at event nodes spans fault
not_entered capacity worker n at event nodes spans fault r = λ plan.
    ap (and_added (world_of at nodes spans plan) worker n event) r.1 ∙ ap Err (sym r.2)

-- ---- what is planned

pub unplanned : (w planned_w refused_w after : World) (n : ℕ) (event : Event) → planned_w ≡ planned w n event → refused_w ≡ planned_w → IsUnplanned refused_w after → after ≡ w
unplanned w planned_w refused_w after n event is same undo =
    let all = same ∙ is in
    undo w.plan (record { node = n; at = w.moment; event = event }) (ap (λ (v : World). v.plan) all)
    ∙ ap (λ (v : World). record v { plan = w.plan }) all

-- ---- what is held

spread_emptied : (end : End) (owner : Owner) (x : Entry) (past : List Entry) (spans : List Span) →
    map (on_lanes (spread owner x past)) (map (on_lanes (emptied end)) spans) ≡ map (on_lanes (emptied end)) (map (on_lanes (spread owner x past)) spans)
spread_emptied end owner x past [] = refl
spread_emptied end owner x past (span ∷ spans) = ap (λ (ls : List Span). on_lanes (spread owner x past) (on_lanes (emptied end) span) ∷ ls) (spread_emptied end owner x past spans)

abbrev pub cleared_result : End → Result World WorldFault → Result World WorldFault
cleared_result end (Ok w) = Ok (cleared w end)
cleared_result end (Err fault) = Err fault

cleared_added : (w : World) (end : End) (worker n : ℕ) (event : Event) (answer : Result Outcome StepFault) →
    and_added (cleared w end) worker n event answer ≡ cleared_result end (and_added w worker n event answer)
cleared_added w end worker n event (Ok outcome) =
    let x : Entry = record { worker = worker; at = w.moment; event = event; outcome = outcome } in
    ap (λ (ls : List Span). Ok (record (added w n x) { spans = ls })) (spread_emptied end (owner_in w.places n) x (record_in w.records n) w.spans)
cleared_added w end worker n event (Err fault) = refl

pub cleared_entered : (capacity : ℕ) (w : World) (end : End) (worker n : ℕ) (event : Event) →
    entered capacity (cleared w end) worker n event ≡ cleared_result end (entered capacity w worker n event)
cleared_entered capacity w end worker n event =
    cleared_added w end worker n event (answer capacity (owner_in w.places n) (record_in w.records n) (max (now (record_in w.records n)) w.moment) event)

pub judged_none : (capacity : ℕ) (w : World) (end : End) → None ≡ held_in end (lanes_of w.spans) → judged_at capacity w end (held_in end (lanes_of w.spans)) ≡ Err Nothing
judged_none capacity w end held = ap (judged_at capacity w end) (sym held)
