-- How many frames a table has to hold, one copy after the other.
use Rattle.std.proofs.Common.{◌≡◌, ℕ, zero, suc, ◌+◌, ◌-◌, ◌<◌, ◌≤◌, ◌^◌, max, min, Bool, true, false, cond, ◌&&◌, ◌||◌, List, [], ◌∷◌, length, reverse, set, get_or, ◌⊎◌, inl, inr, refl, sym, ap, subst, ◌∙◌, arith, Option, Some, None}
use Rattle.std.specs.Prelude.{nat_eq, nat_le, nat_lt, not, slice_get, slice_index}
use Rattle.std.proofs.lemmas.Bool.{and_from, and_left, and_right, cases_eq, cases_lt, cases_order, cond-false, cond-true, eq-eqb, eqb-true, le-leb, le-ltb, lt-leb, lt-ltb, ne_eqb, or_left}
use Rattle.std.proofs.lemmas.List.{length-set, take_all}
use Rattle.std.proofs.lemmas.Option.{get_or_from_slice_get, same_Some, slice_get-get_or, slice_get_within}
use Rattle.hsr_frame_groups.specs.Frames.{CaughtFields, past_of}
use Rattle.hsr_sightings.specs.Copies.{after, begins_there, begun_at, count_from, first_of_past, first_there, is_late, needed}
use Rattle.hsr_sightings.specs.Demand.{IsDemand, at_least, begun_with, needed_with, one_more}
use Rattle.hsr_sightings.specs.Frames.{frame_of}
use Rattle.hsr_sightings.specs.Read.{AreNeeded, AreSightings, HaveOwnNumbers, IsBegun, IsSameSighting, IsSightingOf, most_in}
use Rattle.hsr_sightings.specs.Ring.{Ring, forget_time, is_at, point_of}
use Rattle.hsr_sightings.specs.Sightings.{sighting}
use Rattle.hsr_sightings.specs.Fields.{Sighting}
use Rattle.hsr_sightings.proofs.Gathering.{few_begun, gather, has_seen, long_past, more_begun, same_begin, seen_to, slice_get_set, still_begun}
use Rattle.hsr_sightings.proofs.Indexes.{none_there, past_more}

-- ---- counts

pub set_past : {X : Type 0} (xs : List X) (i : ℕ) (y : X) → length xs ≤ i → xs ≡ set xs i y
set_past [] i y past = refl
set_past (x ∷ xs) zero y past = absurd (omega (arith, past))
set_past (x ∷ xs) (suc i) y past = ap (λ l. x ∷ l) (set_past xs i y (omega (arith, past)))

-- ---- the first copy of a sighting

empty_list : {X : Type 0} (xs : List X) → length xs ≡ 0 → xs ≡ []
empty_list [] none = refl
empty_list (x ∷ xs) none = absurd (omega (arith, none))

pub first_is : (ring : Ring) (copies : List CaughtFields) (m n : ℕ) (b d : CaughtFields) → slice_get copies m ≡ Some b → begins_there ring (past_of copies m) b ≡ true → m < n → n ≤ length copies
    → first_of_past d (seen_to ring copies (frame_of (past_of copies m) b) (point_of ring b) n) ≡ b
first_is ring copies m zero b d here begins before inside = absurd (omega (arith, before))
first_is ring copies m (suc n) b d here begins before inside = by_place (λ earlier x. first_is ring copies m n b x here begins earlier (omega (arith, inside))) (cases_eq m n)
  where
    frame : ℕ
    frame = frame_of (past_of copies m) b

    point : ℕ
    point = point_of ring b

    next : suc n ≡ n + 1
    next = omega arith

    grown : (x : CaughtFields) → slice_get copies n ≡ Some x
        → seen_to ring copies frame point (suc n) ≡ cond (nat_eq (frame_of (past_of copies n) x) frame && is_at ring point x) (x ∷ seen_to ring copies frame point n) (seen_to ring copies frame point n)
    grown x at_n = ap (seen_to ring copies frame point) next ∙ ap (λ l. sighting ring l frame point) (past_more copies n x at_n) ∙ gather (is_at ring point) frame x (past_of copies n)

    by_test : ((x : CaughtFields) → first_of_past x (seen_to ring copies frame point n) ≡ b) → (x : CaughtFields) (t : Bool)
        → first_of_past d (cond t (x ∷ seen_to ring copies frame point n) (seen_to ring copies frame point n)) ≡ b
    by_test rest x true = rest x
    by_test rest x false = rest d

    by_copy : ((x : CaughtFields) → first_of_past x (seen_to ring copies frame point n) ≡ b) → (o : Option CaughtFields) → slice_get copies n ≡ o → first_of_past d (seen_to ring copies frame point (suc n)) ≡ b
    by_copy rest None none = absurd (none_there copies n (omega (arith, inside)) none)
    by_copy rest (Some x) at_n = ap (first_of_past d) (grown x at_n) ∙ by_test rest x (nat_eq (frame_of (past_of copies n) x) frame && is_at ring point x)

    by_place : (m < n → (x : CaughtFields) → first_of_past x (seen_to ring copies frame point n) ≡ b) → (m ≡ n) ⊎ (m ≡ n → ⊥) → first_of_past d (seen_to ring copies frame point (suc n)) ≡ b
    by_place rest (inl same) =
        let at_n : slice_get copies n ≡ Some b = ap (slice_get copies) (sym same) ∙ here in
        let empty : seen_to ring copies frame point n ≡ []
        = ap (seen_to ring copies frame point) (sym same) ∙ empty_list (seen_to ring copies frame point m) (eqb-true (length (seen_to ring copies frame point m)) 0 begins) in
        ap (first_of_past d) (grown b at_n
        ∙ cond-true _ (b ∷ seen_to ring copies frame point n) (seen_to ring copies frame point n)
        (and_from (nat_eq (frame_of (past_of copies n) b) frame) (is_at ring point b) (eq-eqb (frame_of (past_of copies n) b) frame (ap (λ k. frame_of (past_of copies k) b) (sym same))) (eq-eqb point point refl))
        ∙ ap (λ l. b ∷ l) empty)
    by_place rest (inr other) = by_copy (rest (omega (arith, before, other))) (slice_get copies n) refl

-- ---- how many began since a copy

begun_step : (ring : Ring) (copies : List CaughtFields) (point n : ℕ) (x : CaughtFields) → slice_get copies n ≡ Some x
    → begun_at ring point (past_of copies (suc n)) ≡ cond (is_at ring point x && begins_there ring (past_of copies n) x) (x ∷ begun_at ring point (past_of copies n)) (begun_at ring point (past_of copies n))
begun_step ring copies point n x at_n = ap (λ k. begun_at ring point (past_of copies k)) (let next : suc n ≡ n + 1 = omega arith in next) ∙ ap (begun_at ring point) (past_more copies n x at_n)

counted_from : (ring : Ring) (copies : List CaughtFields) (m n : ℕ) (b : CaughtFields) → HaveOwnNumbers copies → slice_get copies m ≡ Some b → begins_there ring (past_of copies m) b ≡ true → m < n
    → n ≤ length copies
    → count_from b.packet (begun_at ring (point_of ring b) (past_of copies n)) + length (begun_at ring (point_of ring b) (past_of copies m)) ≡ length (begun_at ring (point_of ring b) (past_of copies n))
counted_from ring copies m zero b own here begins before inside = absurd (omega (arith, before))
counted_from ring copies m (suc n) b own here begins before inside = by_place (λ earlier. counted_from ring copies m n b own here begins earlier (omega (arith, inside))) (cases_eq m n)
  where
    point : ℕ
    point = point_of ring b

    start : ℕ
    start = length (begun_at ring point (past_of copies m))

    old : List CaughtFields
    old = begun_at ring point (past_of copies n)

    by_test : count_from b.packet old + start ≡ length old → (x : CaughtFields) → (x.packet ≡ b.packet → ⊥) → (t : Bool) → count_from b.packet (cond t (x ∷ old) old) + start ≡ length (cond t (x ∷ old) old)
    by_test rest x other true = let more : count_from b.packet (x ∷ old) ≡ count_from b.packet old + 1 = cond-false (nat_eq x.packet b.packet) 1 (count_from b.packet old + 1) (ne_eqb x.packet b.packet other) in
        omega (arith, rest, more)
    by_test rest x other false = rest

    by_copy : count_from b.packet old + start ≡ length old → (m ≡ n → ⊥) → (o : Option CaughtFields) → slice_get copies n ≡ o
        → count_from b.packet (begun_at ring point (past_of copies (suc n))) + start ≡ length (begun_at ring point (past_of copies (suc n)))
    by_copy rest apart None none = absurd (none_there copies n (omega (arith, inside)) none)
    by_copy rest apart (Some x) at_n =
        subst (λ l. count_from b.packet l + start ≡ length l) (sym (begun_step ring copies point n x at_n))
        (by_test rest x (λ same. apart (own m n b x here at_n (sym same))) (is_at ring point x && begins_there ring (past_of copies n) x))

    by_place : (m < n → count_from b.packet old + start ≡ length old) → (m ≡ n) ⊎ (m ≡ n → ⊥)
        → count_from b.packet (begun_at ring point (past_of copies (suc n))) + start ≡ length (begun_at ring point (past_of copies (suc n)))
    by_place rest (inl same) =
        let at_n : slice_get copies n ≡ Some b = ap (slice_get copies) (sym same) ∙ here in
        let begun : begun_at ring point (past_of copies (suc n)) ≡ b ∷ old
        = begun_step ring copies point n b at_n
        ∙ cond-true _ (b ∷ old) old (and_from (is_at ring point b) (begins_there ring (past_of copies n) b) (eq-eqb point point refl) (ap (λ k. begins_there ring (past_of copies k) b) (sym same) ∙ begins)) in
        let one : count_from b.packet (b ∷ old) ≡ 1 = cond-true (nat_eq b.packet b.packet) 1 (count_from b.packet old + 1) (eq-eqb b.packet b.packet refl) in
        let starts : start ≡ length old = ap (λ k. length (begun_at ring point (past_of copies k))) same in
        subst (λ l. count_from b.packet l + start ≡ length l) (sym begun) (omega (arith, one, starts))
    by_place rest (inr other) = by_copy (rest (omega (arith, before, other))) other (slice_get copies n) refl

-- ---- what a copy needs

-- nothing where it begins a sighting or comes late
needs_none : (ring : Ring) (past : List CaughtFields) (c : CaughtFields) → (begins_there ring past c || is_late ring past c) ≡ true → needed ring past c ≡ 0
needs_none ring past c is = cond-true (begins_there ring past c || is_late ring past c) 0 (count_from (first_there ring past c).packet (begun_at ring (point_of ring c) past)) is

late_same : (a b : ℕ) → not (nat_lt a b) ≡ nat_le b a
late_same a b = by_case (cases_lt a b)
  where
    by_case : (a < b) ⊎ (b ≤ a) → not (nat_lt a b) ≡ nat_le b a
    by_case (inl below) = ap not (lt-ltb a b below) ∙ sym (lt-leb b a below)
    by_case (inr past) = ap not (le-ltb a b past) ∙ sym (le-leb b a past)

-- so many as began at its point since the first copy of its sighting, with that
needs : (ring : Ring) (copies : List CaughtFields) (i m : ℕ) (b c : CaughtFields) (at order begun : ℕ) → HaveOwnNumbers copies → slice_get copies i ≡ Some c → slice_get copies m ≡ Some b
    → begins_there ring (past_of copies m) b ≡ true → m < i → IsSameSighting ring copies m i b c → at ≡ b.at → order ≡ length (begun_at ring (point_of ring b) (past_of copies m))
    → begun ≡ length (begun_at ring (point_of ring c) (past_of copies i)) → needed ring (past_of copies i) c ≡ cond (nat_le forget_time (c.at - at)) 0 (begun - order)
needs ring copies i m b c at order begun own here there begins before same at_is order_is begun_is =
    ap (λ t. cond (t || is_late ring (past_of copies i) c) 0 count) not_first ∙ ap (λ t. cond t 0 count) late ∙ ap (cond (nat_le forget_time (c.at - at)) 0) count_is
  where
    past : List CaughtFields
    past = past_of copies i

    inside : i < length copies
    inside = slice_get_within copies i c here

    count : ℕ
    count = count_from (first_there ring past c).packet (begun_at ring (point_of ring c) past)

    not_first : begins_there ring past c ≡ false
    not_first =
        let has = has_seen ring copies (frame_of past c) (point_of ring c) m i b before (omega (arith, inside)) there same.frame same.point in
        ne_eqb (length (seen_to ring copies (frame_of past c) (point_of ring c) i)) 0 (λ e. omega (arith, e, has))

    first : first_there ring past c ≡ b
    first =
        ap (λ f. first_of_past c (seen_to ring copies f (point_of ring c) i)) (sym same.frame)
        ∙ ap (λ p. first_of_past c (seen_to ring copies (frame_of (past_of copies m) b) p i)) (sym same.point) ∙ first_is ring copies m i b c there begins before (omega (arith, inside))

    late : is_late ring past c ≡ nat_le forget_time (c.at - at)
    late =
        ap (λ (f : CaughtFields). not (nat_lt (c.at - f.at) forget_time)) first ∙ late_same (c.at - b.at) forget_time ∙ ap (λ n. nat_le forget_time (c.at - n)) (sym at_is)

    count_is : count ≡ begun - order
    count_is =
        let of_first : count ≡ count_from b.packet (begun_at ring (point_of ring b) past)
        = ap (λ (f : CaughtFields). count_from f.packet (begun_at ring (point_of ring c) past)) first ∙ ap (λ p. count_from b.packet (begun_at ring p past)) (sym same.point) in
        let sum = counted_from ring copies m i b own there begins before (omega (arith, inside)) in
        let long : begun ≡ length (begun_at ring (point_of ring b) past) = begun_is ∙ ap (λ p. length (begun_at ring p past)) (sym same.point) in
        omega (arith, of_first, sum, long, order_is)

-- ---- the most, with one more copy

most_more : (ring : Ring) (copies : List CaughtFields) (point i : ℕ) (c : CaughtFields) → slice_get copies i ≡ Some c
    → most_in ring point (needed ring) (past_of copies (i + 1)) ≡ max (cond (is_at ring point c) (needed ring (past_of copies i) c) 0) (most_in ring point (needed ring) (past_of copies i))
most_more ring copies point i c here = ap (most_in ring point (needed ring)) (past_more copies i c here)

most_same : (ring : Ring) (copies : List CaughtFields) (point i : ℕ) (c : CaughtFields) → slice_get copies i ≡ Some c → (is_at ring point c ≡ false) ⊎ (needed ring (past_of copies i) c ≡ 0)
    → most_in ring point (needed ring) (past_of copies (i + 1)) ≡ most_in ring point (needed ring) (past_of copies i)
most_same ring copies point i c here none = most_more ring copies point i c here ∙ by_none none
  where
    old : ℕ
    old = most_in ring point (needed ring) (past_of copies i)

    nothing : (n : ℕ) (b : Bool) → cond b n n ≡ n
    nothing n true = refl
    nothing n false = refl

    by_none : (is_at ring point c ≡ false) ⊎ (needed ring (past_of copies i) c ≡ 0) → max (cond (is_at ring point c) (needed ring (past_of copies i) c) 0) old ≡ old
    by_none (inl other) = ap (λ b. max (cond b (needed ring (past_of copies i) c) 0) old) other ∙ omega arith
    by_none (inr zero_is) = ap (λ n. max (cond (is_at ring point c) n 0) old) zero_is ∙ ap (λ n. max n old) (nothing 0 (is_at ring point c)) ∙ omega arith

-- ---- the step

-- the sighting of a copy, and the copy that began it
pub record IsOwn (ring : Ring) (copies : List CaughtFields) (i : ℕ) (c : CaughtFields) (seen : Sighting) : Type 0 where
  pub begun : IsBegun ring copies (reverse copies) seen
  pub same : IsSameSighting ring copies seen.first i begun.copy c

own_sighting : (ring : Ring) (copies : List CaughtFields) (all : List Sighting) (of_copy : List ℕ) (i k : ℕ) (c : CaughtFields) (seen : Sighting) → AreSightings ring copies all of_copy
    → slice_get copies i ≡ Some c → slice_get of_copy i ≡ Some k → slice_get all k ≡ Some seen → IsOwn ring copies i c seen
own_sighting ring copies all of_copy i k c seen are here number at_k = record {
  begun = begun;
  same = subst (λ x. IsSameSighting ring copies seen.first i x c) copy_is (subst (λ (s : Sighting). IsSameSighting ring copies s.first i of_c.2.copy c) seen_is of_c.2.same);
}
  where
    begun : IsBegun ring copies (reverse copies) seen
    begun = are.each k seen at_k

    of_c : (n : ℕ) × (slice_get of_copy i ≡ Some n) × IsSightingOf ring copies all i c n
    of_c = are.own i c here

    seen_is : of_c.2.seen ≡ seen
    seen_is = same_Some _ _ (sym of_c.2.numbered ∙ ap (slice_get all) (same_Some _ _ (sym of_c.1 ∙ number)) ∙ at_k)

    copy_is : of_c.2.copy ≡ begun.copy
    copy_is = same_Some _ _ (sym of_c.2.there ∙ ap (λ (s : Sighting). slice_get copies s.first) seen_is ∙ begun.there)

-- the number of a copy's sighting
pub number_within : (ring : Ring) (copies : List CaughtFields) (all : List Sighting) (of_copy : List ℕ) (i : ℕ) → AreSightings ring copies all of_copy → i < length copies
    → slice_index of_copy i < length all
number_within ring copies all of_copy i are inside = by_copy (slice_get copies i) refl
  where
    by_copy : (o : Option CaughtFields) → slice_get copies i ≡ o → slice_index of_copy i < length all
    by_copy None none = absurd (none_there copies i inside none)
    by_copy (Some c) here =
        let own = are.own i c here in
        subst (λ k. k < length all) (sym (get_or_from_slice_get of_copy i own.0 0 own.1)) (slice_get_within all own.0 own.2.seen own.2.numbered)

pub numbered_at : (ring : Ring) (copies : List CaughtFields) (all : List Sighting) (of_copy : List ℕ) (i : ℕ) → AreSightings ring copies all of_copy → i < length copies
    → slice_get of_copy i ≡ Some (slice_index of_copy i)
numbered_at ring copies all of_copy i are inside = slice_get-get_or of_copy i 0 (omega (arith, inside, are.long))

-- a copy begins its sighting exactly where it is the first of it
pub begins_by : (ring : Ring) (copies : List CaughtFields) (all : List Sighting) (of_copy : List ℕ) (i k : ℕ) (c : CaughtFields) (seen : Sighting) → AreSightings ring copies all of_copy
    → slice_get copies i ≡ Some c → slice_get of_copy i ≡ Some k → slice_get all k ≡ Some seen → nat_eq seen.first i ≡ begins_there ring (past_of copies i) c
begins_by ring copies all of_copy i k c seen are here number at_k = by_order (cases_order seen.first i)
  where
    of_c : IsOwn ring copies i c seen
    of_c = own_sighting ring copies all of_copy i k c seen are here number at_k

    inside : i < length copies
    inside = slice_get_within copies i c here

    by_order : (seen.first ≡ i) ⊎ ((seen.first < i) ⊎ (i < seen.first)) → nat_eq seen.first i ≡ begins_there ring (past_of copies i) c
    by_order (inl first) =
        let copy_is : of_c.begun.copy ≡ c = same_Some _ _ (sym of_c.begun.there ∙ ap (slice_get copies) first ∙ here) in
        eq-eqb seen.first i first
        ∙ sym (ap (begins_there ring (past_of copies i)) (sym copy_is) ∙ ap (λ m. begins_there ring (past_of copies m) of_c.begun.copy) (sym first) ∙ of_c.begun.begins)
    by_order (inr (inl before)) =
        let has = has_seen ring copies (frame_of (past_of copies i) c) (point_of ring c) seen.first i of_c.begun.copy before (omega (arith, inside)) of_c.begun.there of_c.same.frame of_c.same.point in
        ne_eqb seen.first i (λ e. omega (arith, e, before)) ∙ sym (ne_eqb (length (seen_to ring copies (frame_of (past_of copies i) c) (point_of ring c) i)) 0 (λ e. omega (arith, e, has)))
    by_order (inr (inr after)) =
        absurd (same_begin ring copies i seen.first c of_c.begun.copy here of_c.begun.there of_c.begun.begins after (record { frame = sym of_c.same.frame; point = sym of_c.same.point }))

-- how long after its frame's first copy at its point it came is told by the first copy of its sighting
pub after_by : (ring : Ring) (copies : List CaughtFields) (all : List Sighting) (of_copy : List ℕ) (i k : ℕ) (c : CaughtFields) (seen : Sighting) → AreSightings ring copies all of_copy
    → slice_get copies i ≡ Some c → slice_get of_copy i ≡ Some k → slice_get all k ≡ Some seen → after (first_there ring (past_of copies i) c) c ≡ c.at - seen.at
after_by ring copies all of_copy i k c seen are here number at_k = ap (λ (f : CaughtFields). c.at - f.at) (first (cases_order seen.first i)) ∙ ap (λ n. c.at - n) (sym of_c.begun.is.at)
  where
    of_c : IsOwn ring copies i c seen
    of_c = own_sighting ring copies all of_copy i k c seen are here number at_k

    inside : i < length copies
    inside = slice_get_within copies i c here

    first : (seen.first ≡ i) ⊎ ((seen.first < i) ⊎ (i < seen.first)) → first_there ring (past_of copies i) c ≡ of_c.begun.copy
    first (inl place) =
        let copy_is : of_c.begun.copy ≡ c = same_Some _ _ (sym of_c.begun.there ∙ ap (slice_get copies) place ∙ here) in
        let begins : begins_there ring (past_of copies i) c ≡ true = sym (begins_by ring copies all of_copy i k c seen are here number at_k) ∙ eq-eqb seen.first i place in
        ap (first_of_past c) (empty_list (seen_to ring copies (frame_of (past_of copies i) c) (point_of ring c) i) (eqb-true _ 0 begins)) ∙ sym copy_is
    first (inr (inl before)) =
        ap (λ f. first_of_past c (seen_to ring copies f (point_of ring c) i)) (sym of_c.same.frame)
        ∙ ap (λ p. first_of_past c (seen_to ring copies (frame_of (past_of copies seen.first) of_c.begun.copy) p i)) (sym of_c.same.point)
        ∙ first_is ring copies seen.first i of_c.begun.copy c of_c.begun.there of_c.begun.begins before (omega (arith, inside))
    first (inr (inr after)) =
        absurd (same_begin ring copies i seen.first c of_c.begun.copy here of_c.begun.there of_c.begun.begins after (record { frame = sym of_c.same.frame; point = sym of_c.same.point }))

-- whether it is late, too
pub late_by : (ring : Ring) (copies : List CaughtFields) (all : List Sighting) (of_copy : List ℕ) (i k : ℕ) (c : CaughtFields) (seen : Sighting) → AreSightings ring copies all of_copy
    → slice_get copies i ≡ Some c → slice_get of_copy i ≡ Some k → slice_get all k ≡ Some seen → is_late ring (past_of copies i) c ≡ nat_le forget_time (c.at - seen.at)
late_by ring copies all of_copy i k c seen are here number at_k =
    ap (λ n. not (nat_lt n forget_time)) (after_by ring copies all of_copy i k c seen are here number at_k) ∙ late_same (c.at - seen.at) forget_time

-- the same, by the indexes
pub begins_at_is : (ring : Ring) (copies : List CaughtFields) (all : List Sighting) (of_copy : List ℕ) (i point : ℕ) (c : CaughtFields) (d : Sighting) → AreSightings ring copies all of_copy
    → slice_get copies i ≡ Some c → point_of ring c ≡ point → nat_eq (get_or all (slice_index of_copy i) d).first i ≡ (is_at ring point c && begins_there ring (past_of copies i) c)
begins_at_is ring copies all of_copy i point c d are here place =
    let inside : i < length copies = slice_get_within copies i c here in
    let at_k = slice_get-get_or all (slice_index of_copy i) d (number_within ring copies all of_copy i are inside) in
    begins_by ring copies all of_copy i (slice_index of_copy i) c (get_or all (slice_index of_copy i) d) are here (numbered_at ring copies all of_copy i are inside) at_k
    ∙ sym (ap (λ b. b && begins_there ring (past_of copies i) c) (eq-eqb (point_of ring c) point place))

begins_step : (ring : Ring) (copies : List CaughtFields) (i : ℕ) (c : CaughtFields) (seen : Sighting) (begun most : List ℕ) → slice_get copies i ≡ Some c → i + 1 < 2 ^ 64
    → begins_there ring (past_of copies i) c ≡ true → seen.point ≡ point_of ring c → IsDemand ring copies i begun most → IsDemand ring copies (i + 1) (one_more begun seen.point) most
begins_step ring copies i c seen begun most here few begins place is = record {
  counts = λ point n at_point. by_case point n (slice_get_set begun seen.point point _ n at_point) (slice_get_within (one_more begun seen.point) point n at_point);
  needs = λ point n at_point. is.needs point n at_point
      ∙ sym (most_same ring copies point i c here (inr (needs_none ring (past_of copies i) c (or_left (begins_there ring (past_of copies i) c) (is_late ring (past_of copies i) c) begins))));
  long = is.long ∙ sym (length-set begun seen.point _);
}
  where
    inside : i < length copies
    inside = slice_get_within copies i c here

    by_case : (point n : ℕ) → ((point ≡ seen.point) × (n ≡ min (slice_index begun seen.point + 1) (2 ^ 64 - 1))) ⊎ ((seen.point ≡ point → ⊥) × (slice_get begun point ≡ Some n))
        → point < length (one_more begun seen.point) → n ≡ length (begun_at ring point (past_of copies (i + 1)))
    by_case point n (inl own) below =
        let within : seen.point < length begun = omega (arith, below, own.0, length-set begun seen.point (min (slice_index begun seen.point + 1) (2 ^ 64 - 1))) in
        let old = is.counts seen.point (slice_index begun seen.point) (slice_get-get_or begun seen.point 0 within) ∙ ap (λ p. length (begun_at ring p (past_of copies i))) place in
        let few_old = few_begun ring (point_of ring c) (past_of copies i) in
        let long = long_past copies i (omega (arith, inside)) in
        let more = more_begun ring copies i c here begins in
        let value : n ≡ length (begun_at ring (point_of ring c) (past_of copies (i + 1))) = omega (arith, own.1, old, few_old, long, more, few) in
        value ∙ ap (λ p. length (begun_at ring p (past_of copies (i + 1)))) (sym (own.0 ∙ place))
    by_case point n (inr other) below =
        is.counts point n other.1
        ∙ sym (still_begun ring copies point i c here (and_left (is_at ring point c) (begins_there ring (past_of copies i) c) (ne_eqb (point_of ring c) point (λ e. other.0 (place ∙ e)))))

joins_step : (ring : Ring) (copies : List CaughtFields) (i : ℕ) (c : CaughtFields) (seen : Sighting) (begun most : List ℕ) → slice_get copies i ≡ Some c → begins_there ring (past_of copies i) c ≡ false
    → seen.point ≡ point_of ring c
    → ((n : ℕ) → n ≡ length (begun_at ring (point_of ring c) (past_of copies i)) → needed ring (past_of copies i) c ≡ cond (nat_le forget_time (c.at - seen.at)) 0 (n - seen.order))
    → IsDemand ring copies i begun most → (t : Bool) → nat_le forget_time (c.at - seen.at) ≡ t
    → IsDemand ring copies (i + 1) begun (cond t most (at_least most seen.point (slice_index begun seen.point - seen.order)))
joins_step ring copies i c seen begun most here joins place need is true late = record {
  counts = λ point n at_point. is.counts point n at_point ∙ sym (still_begun ring copies point i c here (and_right (is_at ring point c) (begins_there ring (past_of copies i) c) joins));
  needs = λ point n at_point. is.needs point n at_point
      ∙ sym (most_same ring copies point i c here (inr (need (length (begun_at ring (point_of ring c) (past_of copies i))) refl ∙ cond-true (nat_le forget_time (c.at - seen.at)) 0 _ late)));
  long = is.long;
}
joins_step ring copies i c seen begun most here joins place need is false soon = record {
  counts = λ point n at_point. is.counts point n at_point ∙ sym (still_begun ring copies point i c here (and_right (is_at ring point c) (begins_there ring (past_of copies i) c) joins));
  needs = λ point n at_point. by_case point n (slice_get_set most seen.point point _ n at_point) (slice_get_within (at_least most seen.point (slice_index begun seen.point - seen.order)) point n at_point);
  long = length-set most seen.point _ ∙ is.long;
}
  where
    by_case : (point n : ℕ)
        → ((point ≡ seen.point) × (n ≡ max (slice_index most seen.point) (slice_index begun seen.point - seen.order))) ⊎ ((seen.point ≡ point → ⊥) × (slice_get most point ≡ Some n))
        → point < length (at_least most seen.point (slice_index begun seen.point - seen.order)) → n ≡ most_in ring point (needed ring) (past_of copies (i + 1))
    by_case point n (inl own) below =
        let within : seen.point < length most
        = omega (arith, below, own.0, length-set most seen.point (max (slice_index most seen.point) (slice_index begun seen.point - seen.order))) in
        let old = is.needs seen.point (slice_index most seen.point) (slice_get-get_or most seen.point 0 within) in
        let count = is.counts seen.point (slice_index begun seen.point) (slice_get-get_or begun seen.point 0 (omega (arith, within, is.long)))
        ∙ ap (λ p. length (begun_at ring p (past_of copies i))) place in
        let needed_is : needed ring (past_of copies i) c ≡ slice_index begun seen.point - seen.order
        = need (slice_index begun seen.point) count ∙ cond-false (nat_le forget_time (c.at - seen.at)) 0 (slice_index begun seen.point - seen.order) soon in
        let more = most_more ring copies seen.point i c here
        ∙ ap (λ b. max (cond b (needed ring (past_of copies i) c) 0) (most_in ring seen.point (needed ring) (past_of copies i))) (eq-eqb (point_of ring c) seen.point (sym place)) in
        let value : n ≡ most_in ring seen.point (needed ring) (past_of copies (i + 1)) = omega (arith, own.1, old, needed_is, more) in
        value ∙ ap (λ p. most_in ring p (needed ring) (past_of copies (i + 1))) (sym own.0)
    by_case point n (inr other) below =
        is.needs point n other.1 ∙ sym (most_same ring copies point i c here (inl (ne_eqb (point_of ring c) point (λ e. other.0 (place ∙ e)))))

pub demand_step : (ring : Ring) (copies : List CaughtFields) (all : List Sighting) (of_copy : List ℕ) (i k : ℕ) (c : CaughtFields) (seen : Sighting) (begun most : List ℕ) → HaveOwnNumbers copies
    → AreSightings ring copies all of_copy → i + 1 < 2 ^ 64 → slice_get copies i ≡ Some c → slice_get of_copy i ≡ Some k → slice_get all k ≡ Some seen → IsDemand ring copies i begun most
    → IsDemand ring copies (i + 1) (begun_with begun seen i) (needed_with begun most seen c.at i)
demand_step ring copies all of_copy i k c seen begun most own are few here number at_k is = by_order (cases_order seen.first i)
  where
    of_c : IsOwn ring copies i c seen
    of_c = own_sighting ring copies all of_copy i k c seen are here number at_k

    place : seen.point ≡ point_of ring c
    place = of_c.begun.is.point ∙ of_c.same.point

    inside : i < length copies
    inside = slice_get_within copies i c here

    by_order : (seen.first ≡ i) ⊎ ((seen.first < i) ⊎ (i < seen.first)) → IsDemand ring copies (i + 1) (begun_with begun seen i) (needed_with begun most seen c.at i)
    by_order (inl first) =
        let copy_is : of_c.begun.copy ≡ c = same_Some _ _ (sym of_c.begun.there ∙ ap (slice_get copies) first ∙ here) in
        let begins : begins_there ring (past_of copies i) c ≡ true
        = ap (begins_there ring (past_of copies i)) (sym copy_is) ∙ ap (λ m. begins_there ring (past_of copies m) of_c.begun.copy) (sym first) ∙ of_c.begun.begins in
        let at_first = eq-eqb seen.first i first in
        subst (λ l. IsDemand ring copies (i + 1) (begun_with begun seen i) l) (sym (cond-true _ most _ (or_left (nat_eq seen.first i) (nat_le forget_time (c.at - seen.at)) at_first)))
        (subst (λ l. IsDemand ring copies (i + 1) l most) (sym (cond-true (nat_eq seen.first i) (one_more begun seen.point) begun at_first)) (begins_step ring copies i c seen begun most here few begins place is))
    by_order (inr (inl before)) =
        let apart = ne_eqb seen.first i (λ e. omega (arith, e, before)) in
        let has = has_seen ring copies (frame_of (past_of copies i) c) (point_of ring c) seen.first i of_c.begun.copy before (omega (arith, inside)) of_c.begun.there of_c.same.frame of_c.same.point in
        let joins : begins_there ring (past_of copies i) c ≡ false = ne_eqb (length (seen_to ring copies (frame_of (past_of copies i) c) (point_of ring c) i)) 0 (λ e. omega (arith, e, has)) in
        let order_is = of_c.begun.is.order in
        let joined = joins_step ring copies i c seen begun most here joins place
        (λ n n_is. needs ring copies i seen.first of_c.begun.copy c seen.at seen.order n own here of_c.begun.there of_c.begun.begins before of_c.same of_c.begun.is.at order_is n_is)
        is (nat_le forget_time (c.at - seen.at)) refl in
        subst (λ l. IsDemand ring copies (i + 1) l (needed_with begun most seen c.at i)) (sym (cond-false (nat_eq seen.first i) (one_more begun seen.point) begun apart))
        (subst (λ t. IsDemand ring copies (i + 1) begun (cond (t || nat_le forget_time (c.at - seen.at)) most (at_least most seen.point (slice_index begun seen.point - seen.order)))) (sym apart) joined)
    by_order (inr (inr after)) =
        absurd (same_begin ring copies i seen.first c of_c.begun.copy here of_c.begun.there of_c.begun.begins after (record { frame = sym of_c.same.frame; point = sym of_c.same.point }))

pub no_demand : (ring : Ring) (copies : List CaughtFields) (begun most : List ℕ) → ((point n : ℕ) → slice_get begun point ≡ Some n → n ≡ 0) → ((point n : ℕ) → slice_get most point ≡ Some n → n ≡ 0)
    → length most ≡ length begun → IsDemand ring copies 0 begun most
no_demand ring copies begun most none nothing long = record { counts = none; needs = nothing; long = long }

pub all_needed : (ring : Ring) (copies : List CaughtFields) (begun most : List ℕ) (n : ℕ) → n ≡ length copies → IsDemand ring copies n begun most → AreNeeded ring copies most
all_needed ring copies begun most n all_read is point m at_point = is.needs point m at_point ∙ ap (most_in ring point (needed ring)) (ap reverse (take_all n copies (omega (arith, all_read))))
