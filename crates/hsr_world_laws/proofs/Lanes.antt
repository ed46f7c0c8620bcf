-- Lanes and spans go on agreeing with the records.
use Rattle.std.proofs.Common.{◌≡◌, ◌≢◌, ℕ, ◌+◌, ◌<◌, ◌==◌, Bool, true, false, List, [], ◌∷◌, ◌++◌, set, length, count_by, option_to_list, Option, Some, None, refl, sym, ap, ◌∙◌, arith, eqb-true, eq-eqb, ⊎_elim}
use Rattle.std.specs.Prelude.{◌&&◌, if◌then◌else◌}
use Rattle.std.proofs.lemmas.Bool.{false≢true, cases_Bool}
use Rattle.std.proofs.lemmas.List.{get_or-set_same, get_or-set_other}
use Rattle.hsr_topology.specs.Links.{is_same_end}
use Rattle.hsr_run_laws.specs.Run.{owner_in, record_in}
use Rattle.hsr_topology.specs.declared.end.End.{End}
use Rattle.hsr_link.proofs.Order.{put_not_taken, taken_lost, taken_turned_other}
use Rattle.hsr_link.specs.Link.{cut_step, inject_step, mended, put_step, take_step}
use Rattle.hsr_link.specs.Rows.{first_copy, is_same_dir, put_copies, put_copy, taken_copies, taken_copy, turned}
use Rattle.hsr_link.specs.declared.row.Dir.{Dir}
use Rattle.hsr_link.specs.declared.row.Dir.TheVariants.{Forth, Back}
use Rattle.hsr_link.specs.declared.row.Fate.TheVariants.{Taken}
use Rattle.hsr_link.specs.declared.row.Row.{Row}
use Rattle.hsr_node.specs.Flow.{arrivals, copy_at, pass_of, passes}
use Rattle.hsr_node.specs.declared.entry.Entry.{Entry}
use Rattle.hsr_node.specs.declared.event.Carried.{Carried}
use Rattle.hsr_node.specs.declared.event.Event.{Event}
use Rattle.hsr_node.specs.declared.event.Event.TheVariants as event
use Rattle.hsr_node.specs.declared.place.Place.{Place}
use Rattle.hsr_world_laws.specs.Law.{LaneAgrees, SpanAgrees}
use Rattle.hsr_world_laws.specs.Spans.{Lane, Span, gift, lane_of, spread, with_lane, with_link}
use Rattle.hsr_world_laws.proofs.Counts.{by_counts, count_append, count_cons, count_option, counts_of, oldest_taken, put_cut, put_more, put_taken, taken_more}

-- ---- one lane

-- other rows with the same copies
pub same_rows : (places : List Place) (records : List (List Entry)) (dir : Dir) (rows more : List Row) (lane : Lane) →
    put_copies dir more ≡ put_copies dir rows → taken_copies dir more ≡ taken_copies dir rows → LaneAgrees places records dir rows lane → LaneAgrees places records dir more lane
same_rows places records dir rows more lane put taken h = record {
  sent = by_counts _ _ (λ p. counts_of _ _ h.sent p ∙ ap (λ (xs : List Carried). count_by p (xs ++ lane.outbox)) (sym put));
  came = by_counts _ _ (λ p. ap (count_by p) taken ∙ counts_of _ _ h.came p);
}

-- one more row that is neither put nor taken in this direction
pub more_rows : (places : List Place) (records : List (List Entry)) (dir : Dir) (rows : List Row) (r : Row) (lane : Lane) →
    put_copy dir r ≡ None → taken_copy dir r ≡ None → LaneAgrees places records dir rows lane → LaneAgrees places records dir (rows ++ r ∷ []) lane
more_rows places records dir rows r lane put taken h = record {
  sent = by_counts _ _ (λ p.
      let a = put_more p dir rows r in
      let b = ap (λ o. count_by p (option_to_list o)) put in
      let c = count_append p (put_copies dir (rows ++ r ∷ [])) lane.outbox in
      let d = count_append p (put_copies dir rows) lane.outbox in
      let e = counts_of _ _ h.sent p in
      omega (arith, a, b, c, d, e));
  came = by_counts _ _ (λ p.
      let a = taken_more p dir rows r in
      let b = ap (λ o. count_by p (option_to_list o)) taken in
      let e = counts_of _ _ h.came p in
      omega (arith, a, b, e));
}

-- the oldest of the outbox becomes a row
pub row_put : (places : List Place) (records : List (List Entry)) (dir : Dir) (rows : List Row) (lane : Lane) (c : Carried) (cs : List Carried) (r : Row) →
    lane.outbox ≡ c ∷ cs → put_copy dir r ≡ Some c → taken_copy dir r ≡ None → LaneAgrees places records dir rows lane →
    LaneAgrees places records dir (rows ++ r ∷ []) (record lane { outbox = cs })
row_put places records dir rows lane c cs r box put taken h = record {
  sent = by_counts _ _ (λ p.
      let a = put_more p dir rows r in
      let b = ap (λ o. count_by p (option_to_list o)) put in
      let u = count_append p (put_copies dir (rows ++ r ∷ [])) cs in
      let d = count_append p (put_copies dir rows) lane.outbox in
      let v = ap (count_by p) box in
      let w = count_cons p c cs in
      let e = counts_of _ _ h.sent p in
      omega (arith, a, b, u, d, v, w, e));
  came = by_counts _ _ (λ p.
      let a = taken_more p dir rows r in
      let b = ap (λ o. count_by p (option_to_list o)) taken in
      let e = counts_of _ _ h.came p in
      omega (arith, a, b, e));
}

-- the oldest row that waits comes into the hand
pub hand_taken : (places : List Place) (records : List (List Entry)) (dir : Dir) (rows : List Row) (lane : Lane) (c : Carried) →
    lane.hand ≡ None → first_copy dir rows ≡ Some c → LaneAgrees places records dir rows lane →
    LaneAgrees places records dir (turned Taken dir rows) (record lane { hand = Some c })
hand_taken places records dir rows lane c free old h = record {
  sent = by_counts _ _ (λ p. counts_of _ _ h.sent p ∙ ap (λ (xs : List Carried). count_by p (xs ++ lane.outbox)) (sym (put_taken dir dir rows)));
  came = by_counts _ _ (λ p.
      let a = oldest_taken p dir rows c old in
      let b = count_append p (arrivals lane.to.port (record_in records lane.to.node)) (option_to_list lane.hand) in
      let d = count_append p (arrivals lane.to.port (record_in records lane.to.node)) (c ∷ []) in
      let f = ap (λ o. count_by p (option_to_list o)) free in
      let e = counts_of _ _ h.came p in
      omega (arith, a, b, d, f, e));
}

-- what comes to the lane's port with an event of a node, and the hand then, are what the hand was
abbrev pub Handed : ℕ → Event → Lane → Option Carried → Type 0
Handed n event lane hand = (p : Carried → Bool) →
    count_by p (option_to_list (if lane.to.node == n then copy_at lane.to.port event else None)) + count_by p (option_to_list hand) ≡ count_by p (option_to_list lane.hand)

-- one more entry of node n
pub lane_added : (places : List Place) (records : List (List Entry)) (n : ℕ) (x : Entry) (dir : Dir) (rows : List Row) (lane : Lane) (hand : Option Carried) →
    n < length records → Handed n x.event lane hand → LaneAgrees places records dir rows lane →
    LaneAgrees places (set records n (x ∷ record_in records n)) dir rows (spread (owner_in places n) x (record_in records n) (record lane { hand = hand }))
lane_added places records n x dir rows lane hand below handed h = record {
  sent = by_counts _ _ (λ p. ⊎_elim
      (λ here. let same = eqb-true lane.from.node n here in
      let a = sent_same p same in
      let g = ap (λ b. count_by p (if b then option_to_list (pass_of (owner_in places n) lane.from.port x (record_in records n)) else [])) here in
      let e = counts_of _ _ h.sent p in
      let u = count_append p (put_copies dir rows) lane.outbox in
      let v = count_append p (put_copies dir rows) (lane.outbox ++ gift (owner_in places n) x (record_in records n) lane) in
      let w = count_append p lane.outbox (gift (owner_in places n) x (record_in records n) lane) in
      omega (arith, a, g, e, u, v, w))
      (λ other.
      let a = ap (λ past. count_by p (passes (owner_in places lane.from.node) lane.from.port past)) (get_or-set_other records n lane.from.node (x ∷ record_in records n) [] (apart lane.from.node n other)) in
      let g = ap (λ b. count_by p (if b then option_to_list (pass_of (owner_in places n) lane.from.port x (record_in records n)) else [])) other in
      let e = counts_of _ _ h.sent p in
      let u = count_append p (put_copies dir rows) lane.outbox in
      let v = count_append p (put_copies dir rows) (lane.outbox ++ gift (owner_in places n) x (record_in records n) lane) in
      let w = count_append p lane.outbox (gift (owner_in places n) x (record_in records n) lane) in
      omega (arith, a, g, e, u, v, w))
      (cases_Bool (lane.from.node == n)));
  came = by_counts _ _ (λ p. ⊎_elim
      (λ here. let same = eqb-true lane.to.node n here in
      let a = came_same p same in
      let g = ap (λ b. count_by p (option_to_list (if b then copy_at lane.to.port x.event else None))) here in
      let e = counts_of _ _ h.came p in
      let k = handed p in
      let u = count_append p (arrivals lane.to.port (record_in records lane.to.node)) (option_to_list lane.hand) in
      let v = count_append p (arrivals lane.to.port (record_in (set records n (x ∷ record_in records n)) lane.to.node)) (option_to_list hand) in
      omega (arith, a, g, e, k, u, v))
      (λ other.
      let a = ap (λ past. count_by p (arrivals lane.to.port past)) (get_or-set_other records n lane.to.node (x ∷ record_in records n) [] (apart lane.to.node n other)) in
      let g = ap (λ b. count_by p (option_to_list (if b then copy_at lane.to.port x.event else None))) other in
      let e = counts_of _ _ h.came p in
      let k = handed p in
      let u = count_append p (arrivals lane.to.port (record_in records lane.to.node)) (option_to_list lane.hand) in
      let v = count_append p (arrivals lane.to.port (record_in (set records n (x ∷ record_in records n)) lane.to.node)) (option_to_list hand) in
      omega (arith, a, g, e, k, u, v))
      (cases_Bool (lane.to.node == n)));
}
  where
    apart : (m k : ℕ) → (m == k) ≡ false → m ≢ k
    apart m k e s = false≢true (sym e ∙ eq-eqb m k s)

    sent_same : (p : Carried → Bool) → lane.from.node ≡ n →
        count_by p (passes (owner_in places lane.from.node) lane.from.port (record_in (set records n (x ∷ record_in records n)) lane.from.node))
        ≡ count_by p (option_to_list (pass_of (owner_in places n) lane.from.port x (record_in records n))) + count_by p (passes (owner_in places lane.from.node) lane.from.port (record_in records lane.from.node))
    sent_same p same =
        let at = λ (m : ℕ). count_by p (passes (owner_in places m) lane.from.port (record_in (set records n (x ∷ record_in records n)) m)) in
        let was = λ (m : ℕ). count_by p (passes (owner_in places m) lane.from.port (record_in records m)) in
        let a = ap at same in
        let b = ap (λ past. count_by p (passes (owner_in places n) lane.from.port past)) (get_or-set_same records n (x ∷ record_in records n) [] below) in
        let d = count_option p (pass_of (owner_in places n) lane.from.port x (record_in records n)) (passes (owner_in places n) lane.from.port (record_in records n)) in
        let e = ap was same in
        omega (arith, a, b, d, e)

    came_same : (p : Carried → Bool) → lane.to.node ≡ n →
        count_by p (arrivals lane.to.port (record_in (set records n (x ∷ record_in records n)) lane.to.node))
        ≡ count_by p (option_to_list (copy_at lane.to.port x.event)) + count_by p (arrivals lane.to.port (record_in records lane.to.node))
    came_same p same =
        let at = λ (m : ℕ). count_by p (arrivals lane.to.port (record_in (set records n (x ∷ record_in records n)) m)) in
        let was = λ (m : ℕ). count_by p (arrivals lane.to.port (record_in records m)) in
        let a = ap at same in
        let b = ap (λ past. count_by p (arrivals lane.to.port past)) (get_or-set_same records n (x ∷ record_in records n) [] below) in
        let d = count_option p (copy_at lane.to.port x.event) (arrivals lane.to.port (record_in records n)) in
        let e = ap was same in
        omega (arith, a, b, d, e)

-- ---- one span

no_copy : (b f : Bool) (c : Carried) → f ≡ false → (if b && f then Some c else None) ≡ None
no_copy true true c e = absurd (false≢true (sym e))
no_copy true false c e = refl
no_copy false f c e = refl

pub span_put : (places : List Place) (records : List (List Entry)) (span : Span) (dir : Dir) (c : Carried) (cs : List Carried) → (lane_of dir span).outbox ≡ c ∷ cs → SpanAgrees places records span →
    SpanAgrees places records (with_link (put_step span.link dir c).1 (with_lane dir (record (lane_of dir span) { outbox = cs }) span))
span_put places records span Forth c cs box h = record {
  forth = row_put places records Forth span.link.rows span.forth c cs _ box refl (no_copy true _ c (put_not_taken span.link Forth)) h.forth;
  back = more_rows places records Back span.link.rows _ span.back refl refl h.back;
}
span_put places records span Back c cs box h = record {
  forth = more_rows places records Forth span.link.rows _ span.forth refl refl h.forth;
  back = row_put places records Back span.link.rows span.back c cs _ box refl (no_copy true _ c (put_not_taken span.link Back)) h.back;
}

pub span_taken : (places : List Place) (records : List (List Entry)) (span : Span) (dir : Dir) (c : Carried) → (lane_of dir span).hand ≡ None → first_copy dir span.link.rows ≡ Some c →
    SpanAgrees places records span → SpanAgrees places records (with_link (take_step span.link dir).1 (with_lane dir (record (lane_of dir span) { hand = Some c }) span))
span_taken places records span Forth c free old h = record {
  forth = hand_taken places records Forth span.link.rows span.forth c free old h.forth;
  back = same_rows places records Back span.link.rows _ span.back (put_taken Back Forth span.link.rows) (taken_turned_other Forth Back span.link.rows refl) h.back;
}
span_taken places records span Back c free old h = record {
  forth = same_rows places records Forth span.link.rows _ span.forth (put_taken Forth Back span.link.rows) (taken_turned_other Back Forth span.link.rows refl) h.forth;
  back = hand_taken places records Back span.link.rows span.back c free old h.back;
}

pub span_cut : (places : List Place) (records : List (List Entry)) (span : Span) → SpanAgrees places records span → SpanAgrees places records (with_link (cut_step span.link).1 span)
span_cut places records span h = record {
  forth = same_rows places records Forth span.link.rows _ span.forth (put_cut Forth span.link.rows) (taken_lost Forth span.link.rows) h.forth;
  back = same_rows places records Back span.link.rows _ span.back (put_cut Back span.link.rows) (taken_lost Back span.link.rows) h.back;
}

pub span_mended : (places : List Place) (records : List (List Entry)) (span : Span) → SpanAgrees places records span → SpanAgrees places records (with_link (mended span.link) span)
span_mended places records span h = record { forth = h.forth; back = h.back }

pub span_injected : (places : List Place) (records : List (List Entry)) (span : Span) (dir : Dir) (c : Carried) → SpanAgrees places records span →
    SpanAgrees places records (with_link (inject_step span.link dir c).1 span)
span_injected places records span dir c h = record {
  forth = more_rows places records Forth span.link.rows _ span.forth (no_copy (is_same_dir Forth dir) false c refl) (no_copy (is_same_dir Forth dir) _ c (put_not_taken span.link dir)) h.forth;
  back = more_rows places records Back span.link.rows _ span.back (no_copy (is_same_dir Back dir) false c refl) (no_copy (is_same_dir Back dir) _ c (put_not_taken span.link dir)) h.back;
}

-- ---- a hand that is judged

abbrev hand_after : End → Lane → Option Carried
hand_after end lane = if is_same_end lane.to end then None else lane.hand

pub handed_over : (end : End) (c : Carried) (lane : Lane) → (is_same_end lane.to end ≡ true → lane.hand ≡ Some c) →
    Handed end.node (event.Arrive end.port c) lane (hand_after end lane)
handed_over end c lane h = λ p. by_case p (lane.to.node == end.node) (lane.to.port == end.port) (end.port == lane.to.port) (turned_round end.port lane.to.port) h
  where
    turned_round : (m k : ℕ) → (m == k) ≡ (k == m)
    turned_round m k = grind arith

    by_case : (p : Carried → Bool) (a b d : Bool) → d ≡ b → ((a && b) ≡ true → lane.hand ≡ Some c) →
        count_by p (option_to_list (if a then (if d then Some c else None) else None)) + count_by p (option_to_list (if a && b then None else lane.hand)) ≡ count_by p (option_to_list lane.hand)
    by_case p true true true s h = let e = ap (λ o. count_by p (option_to_list o)) (h refl) in omega (arith, e)
    by_case p true true false s h = absurd (false≢true s)
    by_case p true false true s h = absurd (false≢true (sym s))
    by_case p true false false s h = omega arith
    by_case p false b d s h = omega arith

pub nothing_came : (n : ℕ) (event : Event) (lane : Lane) → copy_at lane.to.port event ≡ None → Handed n event lane lane.hand
nothing_came n event lane h = λ p. by_case p (lane.to.node == n)
  where
    by_case : (p : Carried → Bool) (b : Bool) → count_by p (option_to_list (if b then copy_at lane.to.port event else None)) + count_by p (option_to_list lane.hand) ≡ count_by p (option_to_list lane.hand)
    by_case p true = let e = ap (λ o. count_by p (option_to_list o)) h in omega (arith, e)
    by_case p false = omega arith
