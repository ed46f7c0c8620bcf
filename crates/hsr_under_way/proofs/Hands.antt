-- What was taken was judged, or is held.
use Rattle.std.proofs.Common.{◌≡◌, ℕ, ◌+◌, ◌<◌, Bool, true, false, cond, if◌then◌else◌, List, [], ◌∷◌, ◌++◌, length, map, set, get_or, count_by, Option, Some, None, refl, sym, ap, ◌∙◌, subst, arith, zero, suc}
use Rattle.std.specs.Prelude.{is_some, sum_by}
use Rattle.std.specs.List.{AllByRecursion}
use Rattle.std.proofs.lemmas.Bool.{cases_Bool, false≢true}
use Rattle.std.proofs.lemmas.List.{length-append}
use Rattle.std.proofs.lemmas.List.Elements.{recursion_from_All}
use Rattle.std.proofs.lemmas.List.Sums.{sum_by-append, sum_by-cons}
use Rattle.hsr_link.proofs.Order.{put_not_taken}
use Rattle.hsr_link.specs.Link.{Link, fate_of, put_step, take_step}
use Rattle.hsr_link.specs.Rows.{first_copy, is_taken, lost, turned, waits, with_fate}
use Rattle.hsr_link.specs.declared.row.Dir.{Dir}
use Rattle.hsr_link.specs.declared.row.Dir.TheVariants.{Forth, Back}
use Rattle.hsr_link.specs.declared.row.Fate.TheVariants.{Taken}
use Rattle.hsr_link.specs.declared.row.Row.{Row}
use Rattle.hsr_node.specs.declared.entry.Entry.{Entry}
use Rattle.hsr_node.specs.declared.event.Carried.{Carried}
use Rattle.hsr_topology.proofs.Ends.{end_is}
use Rattle.hsr_topology.specs.Links.{is_same_end}
use Rattle.hsr_topology.specs.Wired.{AreDistinct}
use Rattle.hsr_topology.specs.declared.end.End.{End}
use Rattle.hsr_run_laws.proofs.Lists.{zero_if}
use Rattle.hsr_world_laws.specs.Law.{IsSound, receiving}
use Rattle.hsr_world_laws.specs.Spans.{Lane, Span, emptied, held_in, lane_of, lanes_of, on_lanes, spread, with_lane, with_link}
use Rattle.hsr_node.specs.declared.event.Event.TheVariants as event
use Rattle.hsr_topology.specs.Workers.{port_worker}
use Rattle.hsr_world_laws.specs.World.{World, added, cleared, owner_at, record_at, span_at}
use Rattle.hsr_world_laws.proofs.Keeps.{entry_of}
use Rattle.hsr_under_way.proofs.Places.{cut_span, mend_span, no_span, put_span, take_span}
use Rattle.hsr_world_steps.specs.declared.step.Step.{Step}
use Rattle.hsr_under_way.specs.StepsOn.{IsBalanced, hand_count, hands_of, is_arrival, judged_in, taken_of}
use Rattle.hsr_under_way.proofs.Counting.{asks_none, box_below, cut_same, entry_sum, one_more, one_taken, sum_set, taken_row}
use Rattle.hsr_under_way.proofs.Shapes.{Shape, brings, cuts, judges, mends, puts, takes, ticks}

-- ---- lanes

mapped_taken : (f : Lane → Lane) (spans : List Span) → sum_by taken_of (map (on_lanes f) spans) ≡ sum_by taken_of spans
mapped_taken f [] = refl
mapped_taken f (x ∷ xs) =
    let a = sum_by-cons taken_of (on_lanes f x) (map (on_lanes f) xs) in
    let b = sum_by-cons taken_of x xs in
    let rest = mapped_taken f xs in
    omega (arith, a, b, rest)

-- outboxes hold nothing in a hand
spread_hands : (f : Lane → Lane) → ((lane : Lane) → (f lane).hand ≡ lane.hand) → (spans : List Span) → sum_by hands_of (map (on_lanes f) spans) ≡ sum_by hands_of spans
spread_hands f same [] = refl
spread_hands f same (x ∷ xs) =
    let a = sum_by-cons hands_of (on_lanes f x) (map (on_lanes f) xs) in
    let b = sum_by-cons hands_of x xs in
    let forth : hand_count (f x.forth) ≡ hand_count x.forth = ap (λ (o : Option Carried). if is_some o then 1 else 0) (same x.forth) in
    let back : hand_count (f x.back) ≡ hand_count x.back = ap (λ (o : Option Carried). if is_some o then 1 else 0) (same x.back) in
    let rest = spread_hands f same xs in
    omega (arith, a, b, forth, back, rest)

other_hand : (end : End) (lane : Lane) → is_same_end lane.to end ≡ false → hand_count (emptied end lane) ≡ hand_count lane
other_hand end lane other = ap (λ b. let o : Option Carried = (if b then None else lane.hand) in if is_some o then 1 else 0) other

this_hand : (end : End) (lane : Lane) (copy : Carried) → is_same_end lane.to end ≡ true → lane.hand ≡ Some copy → hand_count (emptied end lane) + 1 ≡ hand_count lane
this_hand end lane copy same held =
    let a : hand_count (emptied end lane) ≡ 0 = ap (λ b. let o : Option Carried = (if b then None else lane.hand) in if is_some o then 1 else 0) same in
    let b : hand_count lane ≡ 1 = ap (λ (o : Option Carried). if is_some o then 1 else 0) held in
    omega (arith, a, b)

-- where no lane ends there nothing is let go
others_hands : (end : End) (spans : List Span) → AllByRecursion (λ y. is_same_end y end ≡ false) (receiving (lanes_of spans)) → sum_by hands_of (map (on_lanes (emptied end)) spans) ≡ sum_by hands_of spans
others_hands end [] apart = refl
others_hands end (x ∷ xs) apart =
    let a = sum_by-cons hands_of (on_lanes (emptied end) x) (map (on_lanes (emptied end)) xs) in
    let b = sum_by-cons hands_of x xs in
    let forth = other_hand end x.forth apart.0 in
    let back = other_hand end x.back apart.1.0 in
    let rest = others_hands end xs apart.1.1 in
    omega (arith, a, b, forth, back, rest)

-- another end than one that is this end
apart_from : (x end : End) (ends : List End) → is_same_end x end ≡ true → AllByRecursion (λ y. is_same_end y x ≡ false) ends → AllByRecursion (λ y. is_same_end y end ≡ false) ends
apart_from x end ends same apart = subst (λ (e : End). AllByRecursion (λ y. is_same_end y e ≡ false) ends) (end_is x end same) apart

-- one hand is emptied
emptied_hands : (end : End) (copy : Carried) (spans : List Span) → AreDistinct (receiving (lanes_of spans)) → held_in end (lanes_of spans) ≡ Some copy →
    sum_by hands_of (map (on_lanes (emptied end)) spans) + 1 ≡ sum_by hands_of spans
emptied_hands end copy [] distinct held = absurd cc
emptied_hands end copy (x ∷ xs) distinct held =
    by_forth (is_same_end x.forth.to end) refl held (emptied_hands end copy xs distinct.1.1)
  where
    a : sum_by hands_of (map (on_lanes (emptied end)) (x ∷ xs)) ≡ hands_of (on_lanes (emptied end) x) + sum_by hands_of (map (on_lanes (emptied end)) xs)
    a = sum_by-cons hands_of (on_lanes (emptied end) x) (map (on_lanes (emptied end)) xs)

    b : sum_by hands_of (x ∷ xs) ≡ hands_of x + sum_by hands_of xs
    b = sum_by-cons hands_of x xs

    by_back : is_same_end x.forth.to end ≡ false → (t : Bool) → is_same_end x.back.to end ≡ t → (if t then x.back.hand else held_in end (lanes_of xs)) ≡ Some copy →
        (held_in end (lanes_of xs) ≡ Some copy → sum_by hands_of (map (on_lanes (emptied end)) xs) + 1 ≡ sum_by hands_of xs) →
        sum_by hands_of (map (on_lanes (emptied end)) (x ∷ xs)) + 1 ≡ sum_by hands_of (x ∷ xs)
    by_back not_forth true same held rest =
        let forth = other_hand end x.forth not_forth in
        let back = this_hand end x.back copy same held in
        let others = others_hands end xs (apart_from x.back.to end (receiving (lanes_of xs)) same (recursion_from_All (λ y. is_same_end y x.back.to ≡ false) (receiving (lanes_of xs)) distinct.1.0)) in
        omega (arith, a, b, forth, back, others)
    by_back not_forth false other held rest =
        let forth = other_hand end x.forth not_forth in
        let back = other_hand end x.back other in
        let later = rest held in
        omega (arith, a, b, forth, back, later)

    by_forth : (t : Bool) → is_same_end x.forth.to end ≡ t → (if t then x.forth.hand else (if is_same_end x.back.to end then x.back.hand else held_in end (lanes_of xs))) ≡ Some copy →
        (held_in end (lanes_of xs) ≡ Some copy → sum_by hands_of (map (on_lanes (emptied end)) xs) + 1 ≡ sum_by hands_of xs) →
        sum_by hands_of (map (on_lanes (emptied end)) (x ∷ xs)) + 1 ≡ sum_by hands_of (x ∷ xs)
    by_forth true same held rest =
        let apart = apart_from x.forth.to end (x.back.to ∷ receiving (lanes_of xs)) same (recursion_from_All (λ y. is_same_end y x.forth.to ≡ false) (x.back.to ∷ receiving (lanes_of xs)) distinct.0) in
        let forth = this_hand end x.forth copy same held in
        let back = other_hand end x.back apart.0 in
        let others = others_hands end xs apart.1 in
        omega (arith, a, b, forth, back, others)
    by_forth false other held rest = by_back other (is_same_end x.back.to end) refl held rest

-- ---- one span

span_taken : (w : World) (l more : ℕ) (span : Span) → l < length w.spans → taken_of span ≡ taken_of (span_at w l) + more → sum_by taken_of (set w.spans l span) ≡ sum_by taken_of w.spans + more
span_taken w l more span below is = let a = sum_set taken_of w.spans l span no_span below in omega (arith, a, is)

span_hands : (w : World) (l more : ℕ) (span : Span) → l < length w.spans → hands_of span ≡ hands_of (span_at w l) + more → sum_by hands_of (set w.spans l span) ≡ sum_by hands_of w.spans + more
span_hands w l more span below is = let a = sum_set hands_of w.spans l span no_span below in omega (arith, a, is)

turned_length : (dir : Dir) (rows : List Row) → length (turned Taken dir rows) ≡ length rows
turned_length dir [] = refl
turned_length dir (row ∷ rows) = by_test (waits dir row) (turned_length dir rows)
  where
    by_test : (b : Bool) → length (turned Taken dir rows) ≡ length rows → length (if b then with_fate Taken row ∷ rows else row ∷ turned Taken dir rows) ≡ length (row ∷ rows)
    by_test true rest = refl
    by_test false rest = omega (arith, rest)

-- a lane with another outbox holds the same
boxed_hands : (dir : Dir) (box : List Carried) (link : Link) (span : Span) → hands_of (with_link link (with_lane dir (record (lane_of dir span) { outbox = box }) span)) ≡ hands_of span
boxed_hands Forth box link span = refl
boxed_hands Back box link span = refl

taken_hands : (dir : Dir) (copy : Carried) (link : Link) (span : Span) → (lane_of dir span).hand ≡ None →
    hands_of (with_link link (with_lane dir (record (lane_of dir span) { hand = Some copy }) span)) ≡ hands_of span + 1
taken_hands Forth copy link span free = let none : hand_count span.forth ≡ 0 = ap (λ (o : Option Carried). if is_some o then 1 else 0) free in omega (arith, none)
taken_hands Back copy link span free = let none : hand_count span.back ≡ 0 = ap (λ (o : Option Carried). if is_some o then 1 else 0) free in omega (arith, none)

-- ---- a step

pub balanced_step : (capacity : ℕ) (w : World) (step : Step) (after : World) → IsSound capacity w → Shape capacity w step after → IsBalanced w → IsBalanced after
balanced_step capacity w step after sound (ticks t) even = subst IsBalanced (sym t.is) even
balanced_step capacity w step after sound (brings b) even = subst IsBalanced (sym b.is) made
  where
    made : sum_by judged_in (set w.records b.node (entry_of w 0 b.event b.outcome ∷ record_at w b.node))
        + sum_by hands_of (map (on_lanes (spread (owner_at w b.node) (entry_of w 0 b.event b.outcome) (record_at w b.node))) w.spans)
        ≡ sum_by taken_of (map (on_lanes (spread (owner_at w b.node) (entry_of w 0 b.event b.outcome) (record_at w b.node))) w.spans)
    made =
        let counted = sound.counted in
        let low = b.below in
        let asks = asks_none step b.node b.event b.asks in
        let entry = entry_sum w b.node (entry_of w 0 b.event b.outcome) (omega (arith, counted, low)) in
        let none = zero_if (is_arrival b.event) asks.1 in
        let hands = spread_hands (spread (owner_at w b.node) (entry_of w 0 b.event b.outcome) (record_at w b.node)) (λ lane. refl) w.spans in
        let taken = mapped_taken (spread (owner_at w b.node) (entry_of w 0 b.event b.outcome) (record_at w b.node)) w.spans in
        omega (arith, even, entry, none, hands, taken)
balanced_step capacity w step after sound (judges j) even = subst IsBalanced (sym j.is) made
  where
    made : IsBalanced (added (cleared w j.end) j.end.node
        (entry_of w (port_worker j.end) (event.Arrive j.end.port j.copy) j.outcome))
    made =
        let counted = sound.counted in
        let low = j.below in
        let entry = entry_sum w j.end.node (entry_of w (port_worker j.end) (event.Arrive j.end.port j.copy) j.outcome) (omega (arith, counted, low)) in
        let give = spread (owner_at w j.end.node) (entry_of w (port_worker j.end) (event.Arrive j.end.port j.copy) j.outcome) (record_at w j.end.node) in
        let hands = spread_hands give (λ lane. refl) (map (on_lanes (emptied j.end)) w.spans) in
        let one_less = emptied_hands j.end j.copy w.spans sound.distinct j.held in
        let taken = mapped_taken give (map (on_lanes (emptied j.end)) w.spans) in
        let same = mapped_taken (emptied j.end) w.spans in
        omega (arith, even, entry, hands, one_less, taken, same)
balanced_step capacity w step after sound (puts p) even =
    let span = span_at w p.spot.link in
    let rows = span.link.rows in
    let low = box_below w.spans p.spot.link p.spot.dir p.copy p.box p.waits in
    let same_records = ap (λ (v : World). sum_by judged_in v.records) p.is in
    let same_hands = ap (λ (v : World). sum_by hands_of v.spans) p.is in
    let same_taken = ap (λ (v : World). sum_by taken_of v.spans) p.is in
    let one = one_more rows (record { dir = p.spot.dir; carried = p.copy; injected = false; fate = fate_of (span_at w p.spot.link).link p.spot.dir }) (put_not_taken (span_at w p.spot.link).link p.spot.dir) in
    let long = length-append rows ((record { dir = p.spot.dir; carried = p.copy; injected = false; fate = fate_of (span_at w p.spot.link).link p.spot.dir }) ∷ []) in
    let taken = span_taken w p.spot.link 0 (put_span p.spot.dir p.copy p.box (span_at w p.spot.link)) low (omega (arith, one, long)) in
    let hands = span_hands w p.spot.link 0 (put_span p.spot.dir p.copy p.box (span_at w p.spot.link)) low (let same = boxed_hands p.spot.dir p.box (put_step (span_at w p.spot.link).link p.spot.dir p.copy).1 (span_at w p.spot.link) in omega (arith, same)) in
    omega (arith, even, same_records, same_hands, same_taken, taken, hands)
balanced_step capacity w step after sound (takes t) even =
    let rows = (span_at w t.link).link.rows in
    let same_records = ap (λ (v : World). sum_by judged_in v.records) t.is in
    let same_hands = ap (λ (v : World). sum_by hands_of v.spans) t.is in
    let same_taken = ap (λ (v : World). sum_by taken_of v.spans) t.is in
    let one = one_taken t.dir (span_at w t.link).link.rows t.copy t.first in
    let long = turned_length t.dir (span_at w t.link).link.rows in
    let taken = span_taken w t.link 1 (take_span t.dir t.copy (span_at w t.link)) t.below (omega (arith, one, long)) in
    let hands = span_hands w t.link 1 (take_span t.dir t.copy (span_at w t.link)) t.below (taken_hands t.dir t.copy (take_step (span_at w t.link).link t.dir).1 (span_at w t.link) t.free) in
    omega (arith, even, same_records, same_hands, same_taken, taken, hands)
balanced_step capacity w step after sound (cuts c) even =
    let same_records = ap (λ (v : World). sum_by judged_in v.records) c.is in
    let same_hands = ap (λ (v : World). sum_by hands_of v.spans) c.is in
    let same_taken = ap (λ (v : World). sum_by taken_of v.spans) c.is in
    let rows = cut_same (span_at w c.link).link.rows in
    let taken = span_taken w c.link 0 (cut_span (span_at w c.link)) c.below (omega (arith, rows)) in
    let hands = span_hands w c.link 0 (cut_span (span_at w c.link)) c.below (omega arith) in
    omega (arith, even, same_records, same_hands, same_taken, taken, hands)
balanced_step capacity w step after sound (mends m) even =
    let same_records = ap (λ (v : World). sum_by judged_in v.records) m.is in
    let same_hands = ap (λ (v : World). sum_by hands_of v.spans) m.is in
    let same_taken = ap (λ (v : World). sum_by taken_of v.spans) m.is in
    let taken = span_taken w m.link 0 (mend_span (span_at w m.link)) m.below (omega arith) in
    let hands = span_hands w m.link 0 (mend_span (span_at w m.link)) m.below (omega arith) in
    omega (arith, even, same_records, same_hands, same_taken, taken, hands)
