-- How many moves were done behind a step.
use Rattle.std.proofs.Common.{◌≡◌, ℕ, ◌+◌, ◌<◌, ◌&&◌, Bool, true, false, cond, if◌then◌else◌, List, [], ◌∷◌, ◌++◌, length, map, set, get_or, count_by, Option, Some, None, option_map, slice_get, refl, sym, ap, ◌∙◌, subst, arith, zero, suc}
use Rattle.std.specs.Prelude.{sum_by}
use Rattle.std.proofs.lemmas.Bool.{and_parts, false≢true}
use Rattle.std.proofs.lemmas.List.{length-map, length-append}
use Rattle.std.proofs.lemmas.List.Sums.{sum_by-append, sum_by-cons}
use Rattle.hsr_link.proofs.Order.{put_not_taken}
use Rattle.hsr_link.specs.Link.{fate_of}
use Rattle.hsr_link.specs.Rows.{first_copy, goes, is_queued, is_taken, lost, queued, turned, waits, with_fate}
use Rattle.hsr_link.specs.declared.row.Dir.{Dir}
use Rattle.hsr_link.specs.declared.row.Dir.TheVariants.{Forth, Back}
use Rattle.hsr_link.specs.declared.row.Fate.{Fate}
use Rattle.hsr_link.specs.declared.row.Fate.TheVariants.{Queued, Taken, LostDown, LostCut, LostOverrun}
use Rattle.hsr_link.specs.declared.row.Row.{Row}
use Rattle.hsr_node.specs.declared.entry.Entry.{Entry}
use Rattle.hsr_node.specs.declared.event.Carried.{Carried}
use Rattle.hsr_node.specs.declared.event.Event.{Event}
use Rattle.hsr_run_laws.proofs.Lists.{count_more, zero_if}
use Rattle.hsr_world_laws.specs.Law.{IsSound}
use Rattle.hsr_node.specs.declared.event.Event.TheVariants as event
use Rattle.hsr_topology.specs.Workers.{port_worker}
use Rattle.hsr_world_laws.specs.Spans.{Lane, Span, emptied, lane_of, on_lanes, spread}
use Rattle.hsr_world_laws.specs.World.{World, owner_at, record_at, span_at, span_in}
use Rattle.hsr_world_laws.proofs.Keeps.{entry_of}
use Rattle.hsr_world_steps.specs.declared.step.Step.{Step}
use Rattle.hsr_world_steps.specs.declared.step.Step.TheVariants.{Clock, Send, Supervise, Age, Put, Take, Judge, Cut, Mend, Inject}
use Rattle.hsr_plays.specs.Setup.{is_move}
use Rattle.hsr_under_way.specs.StepsOn.{is_arrival, judged_in, moves_in, rows_moved}
use Rattle.hsr_under_way.proofs.Places.{cut_span, mend_span, no_span, put_span, take_span}
use Rattle.hsr_under_way.proofs.Shapes.{Asks, Shape, brings, cuts, judges, mends, puts, takes, ticks}

-- ---- sums

pub sum_set : {X : Type 0} (f : X → ℕ) (xs : List X) (i : ℕ) (y d : X) → i < length xs → sum_by f (set xs i y) + f (get_or xs i d) ≡ sum_by f xs + f y
sum_set f [] i y d below = absurd (omega (arith, below))
sum_set f (x ∷ xs) zero y d below = let a = sum_by-cons f y xs in let b = sum_by-cons f x xs in omega (arith, a, b)
sum_set f (x ∷ xs) (suc i) y d below =
    let a = sum_by-cons f x (set xs i y) in
    let b = sum_by-cons f x xs in
    let rest = sum_set f xs i y d (omega (arith, below)) in
    omega (arith, a, b, rest)

-- lanes move no row
mapped_sum : (f : Lane → Lane) (spans : List Span) → sum_by rows_moved (map (on_lanes f) spans) ≡ sum_by rows_moved spans
mapped_sum f [] = refl
mapped_sum f (x ∷ xs) =
    let a = sum_by-cons rows_moved (on_lanes f x) (map (on_lanes f) xs) in
    let b = sum_by-cons rows_moved x xs in
    let rest = mapped_sum f xs in
    omega (arith, a, b, rest)

-- a span in which something waits is one of those there are
pub box_below : (spans : List Span) (l : ℕ) (dir : Dir) (copy : Carried) (box : List Carried) → (lane_of dir (span_in spans l)).outbox ≡ copy ∷ box → l < length spans
box_below [] l Forth copy box is = absurd cc
box_below [] l Back copy box is = absurd cc
box_below (x ∷ xs) zero dir copy box is = omega arith
box_below (x ∷ xs) (suc l) dir copy box is = let rest = box_below xs l dir copy box is in omega (arith, rest)

-- ---- rows

abbrev pub taken_row : Row → Bool
taken_row = λ row. is_taken row.fate

queued_not_taken : (fate : Fate) → is_queued fate ≡ true → is_taken fate ≡ false
queued_not_taken Queued is = refl
queued_not_taken Taken is = absurd (false≢true is)
queued_not_taken LostDown is = absurd (false≢true is)
queued_not_taken LostCut is = absurd (false≢true is)
queued_not_taken LostOverrun is = absurd (false≢true is)

pub one_more : (rows : List Row) (row : Row) → is_taken row.fate ≡ false →
    length (rows ++ row ∷ []) + count_by taken_row (rows ++ row ∷ []) ≡ length rows + count_by taken_row rows + 1
one_more rows row not_taken =
    let a = length-append rows (row ∷ []) in
    let b = sum_by-append (λ r. cond (taken_row r) 1 0) rows (row ∷ []) in
    let c : count_by taken_row (row ∷ []) ≡ 0 = count_more taken_row row [] ∙ ap (λ q. cond {A = ℕ} q 1 0 + 0) not_taken in
    omega (arith, a, b, c)

pub one_taken : (dir : Dir) (rows : List Row) (copy : Carried) → first_copy dir rows ≡ Some copy →
    length (turned Taken dir rows) + count_by taken_row (turned Taken dir rows) ≡ length rows + count_by taken_row rows + 1
one_taken dir [] copy is = absurd cc
one_taken dir (row ∷ rows) copy is = by_test (waits dir row) refl is (one_taken dir rows copy)
  where
    by_test : (b : Bool) → waits dir row ≡ b → option_map (λ (r : Row). r.carried) (slice_get (if b then row ∷ queued dir rows else queued dir rows) 0) ≡ Some copy →
        (first_copy dir rows ≡ Some copy → length (turned Taken dir rows) + count_by taken_row (turned Taken dir rows) ≡ length rows + count_by taken_row rows + 1) →
        length (if b then with_fate Taken row ∷ rows else row ∷ turned Taken dir rows) + count_by taken_row (if b then with_fate Taken row ∷ rows else row ∷ turned Taken dir rows)
        ≡ length (row ∷ rows) + count_by taken_row (row ∷ rows) + 1
    by_test true is_so is rest =
        let not_taken = queued_not_taken row.fate (and_parts (goes dir row) (is_queued row.fate) is_so).1 in
        let a = count_more taken_row (with_fate Taken row) rows in
        let b : count_by taken_row (row ∷ rows) ≡ 0 + count_by taken_row rows = count_more taken_row row rows ∙ ap (λ q. cond {A = ℕ} q 1 0 + count_by taken_row rows) not_taken in
        omega (arith, a, b)
    by_test false is_not is rest =
        let a = count_more taken_row row (turned Taken dir rows) in
        let b = count_more taken_row row rows in
        let c = rest is in
        omega (arith, a, b, c)

pub cut_same : (rows : List Row) → count_by taken_row (map lost rows) ≡ count_by taken_row rows
cut_same [] = refl
cut_same (row ∷ rows) =
    let a = count_more taken_row (lost row) (map lost rows) in
    let b = count_more taken_row row rows in
    let same = ap (λ q. cond {A = ℕ} q 1 0) (by_test (is_queued row.fate) refl) in
    let rest = cut_same rows in
    omega (arith, a, b, same, rest)
  where
    by_test : (b : Bool) → is_queued row.fate ≡ b → taken_row (if b then with_fate LostCut row else row) ≡ taken_row row
    by_test true is = sym (queued_not_taken row.fate is)
    by_test false is = refl

-- ---- a step

-- what is asked of a node is no move, and no arrival
pub asks_none : (step : Step) (k : ℕ) (e : Event) → Asks step k e → (is_move step ≡ false) × (is_arrival e ≡ false)
asks_none (Clock at) k e asks = absurd asks
asks_none (Send n from dst vlan ethertype payload) k e asks = (refl, ap is_arrival asks.1)
asks_none (Supervise n about) k e asks = (refl, ap is_arrival asks.1)
asks_none (Age n) k e asks = (refl, ap is_arrival asks.1)
asks_none (Put n port) k e asks = absurd asks
asks_none (Take l dir) k e asks = absurd asks
asks_none (Judge n port) k e asks = absurd asks
asks_none (Cut l) k e asks = absurd asks
asks_none (Mend l) k e asks = absurd asks
asks_none (Inject l dir octets) k e asks = absurd asks

abbrev moved : Step → ℕ
moved step = if is_move step then 1 else 0

moved_is : (step other : Step) → step ≡ other → moved step ≡ moved other
moved_is step other same = ap moved same

-- one record has one entry more
pub entry_sum : (w : World) (n : ℕ) (x : Entry) → n < length w.records →
    sum_by judged_in (set w.records n (x ∷ record_at w n)) ≡ sum_by judged_in w.records + cond {A = ℕ} (is_arrival x.event) 1 0
entry_sum w n x below =
    let a = sum_set judged_in w.records n (x ∷ record_at w n) [] below in
    let b = count_more (λ (y : Entry). is_arrival y.event) x (record_at w n) in
    omega (arith, a, b)

-- one span is changed
span_sum : (w : World) (l more : ℕ) (span : Span) → l < length w.spans → rows_moved span ≡ rows_moved (span_at w l) + more → sum_by rows_moved (set w.spans l span) ≡ sum_by rows_moved w.spans + more
span_sum w l more span below is = let a = sum_set rows_moved w.spans l span no_span below in omega (arith, a, is)

pub moves_step : (capacity : ℕ) (w : World) (step : Step) (after : World) → IsSound capacity w → Shape capacity w step after → moves_in after ≡ moves_in w + moved step
moves_step capacity w step after sound (ticks t) =
    let same = ap moves_in t.is in
    let none = ap moved t.step_is in
    omega (arith, same, none)
moves_step capacity w step after sound (brings b) =
    let counted = sound.counted in
    let low = b.below in
    let asks = asks_none step b.node b.event b.asks in
    let same = ap moves_in b.is in
    let rows = mapped_sum (spread (owner_at w b.node) (entry_of w 0 b.event b.outcome) (record_at w b.node)) w.spans in
    let entry = entry_sum w b.node (entry_of w 0 b.event b.outcome) (omega (arith, counted, low)) in
    let none : moved step ≡ 0 = zero_if (is_move step) asks.0 in
    let zero_more = ap (λ q. cond {A = ℕ} q 1 0) asks.1 in
    omega (arith, same, rows, entry, none, zero_more)
moves_step capacity w step after sound (judges j) =
    let counted = sound.counted in
    let low = j.below in
    let same = ap moves_in j.is in
    let rows = mapped_sum (spread (owner_at w j.end.node) (entry_of w (port_worker j.end) (event.Arrive j.end.port j.copy) j.outcome) (record_at w j.end.node)) (map (on_lanes (emptied j.end)) w.spans) in
    let hands = mapped_sum (emptied j.end) w.spans in
    let entry = entry_sum w j.end.node (entry_of w (port_worker j.end) (event.Arrive j.end.port j.copy) j.outcome) (omega (arith, counted, low)) in
    let one = ap moved j.step_is in
    omega (arith, same, rows, hands, entry, one)
moves_step capacity w step after sound (puts p) =
    let rows = (span_at w p.spot.link).link.rows in
    let same = ap moves_in p.is in
    let low = box_below w.spans p.spot.link p.spot.dir p.copy p.box p.waits in
    let more = span_sum w p.spot.link 1 (put_span p.spot.dir p.copy p.box (span_at w p.spot.link)) low (one_more rows (record { dir = p.spot.dir; carried = p.copy; injected = false; fate = fate_of (span_at w p.spot.link).link p.spot.dir }) (put_not_taken (span_at w p.spot.link).link p.spot.dir)) in
    let one = ap moved p.step_is in
    omega (arith, same, more, one)
moves_step capacity w step after sound (takes t) =
    let same = ap moves_in t.is in
    let more = span_sum w t.link 1 (take_span t.dir t.copy (span_at w t.link)) t.below (one_taken t.dir (span_at w t.link).link.rows t.copy t.first) in
    let one = ap moved t.step_is in
    omega (arith, same, more, one)
moves_step capacity w step after sound (cuts c) =
    let rows = (span_at w c.link).link.rows in
    let same = ap moves_in c.is in
    let a = length-map rows lost in
    let b = cut_same rows in
    let more = span_sum w c.link 0 (cut_span (span_at w c.link)) c.below (omega (arith, a, b)) in
    let none = ap moved c.step_is in
    omega (arith, same, more, none)
moves_step capacity w step after sound (mends m) =
    let same = ap moves_in m.is in
    let more = span_sum w m.link 0 (mend_span (span_at w m.link)) m.below (omega arith) in
    let none = ap moved m.step_is in
    omega (arith, same, more, none)
