-- Sightings, one copy after the other.
use Rattle.std.proofs.Common.{◌≡◌, ℕ, zero, suc, ◌+◌, ◌-◌, ◌<◌, ◌≤◌, ◌^◌, min, Bool, true, false, cond, ◌&&◌, ◌||◌, List, [], ◌∷◌, ◌++◌, length, reverse, set, take, get_or, ◌⊎◌, inl, inr, refl, sym, ap, subst, ◌∙◌, arith, Option, Some, None}
use Rattle.std.specs.List.{list_any}
use Rattle.std.specs.Prelude.{nat_eq, nat_lt, filter, option_map, slice_get, slice_index}
use Rattle.std.proofs.lemmas.Bool.{and_from, and_left, and_parts, and_right, both_ways, cases_eq, cases_lt, cases_order, cond-false, cond-true, eq-eqb, eqb-true, false_from_ne_true, lt-ltb, ne_eqb, or_left}
use Rattle.std.proofs.lemmas.List.{length-reverse, length-set, length-take, length_push, take_all}
use Rattle.std.proofs.lemmas.Option.{get_or_from_slice_get, same_Some, slice_get-get_or, slice_get_within}
use Rattle.hsr_frame_groups.specs.Frames.{CaughtFields, frame_time, past_of}
use Rattle.hsr_recent_table.specs.declared.previous.Keyed.{Keyed}
use Rattle.hsr_recent_table.specs.Previous.{AreInTime, IsPreviousOf}
use Rattle.hsr_sightings.specs.Copies.{begins_there, begun_at, carried_before, times_before}
use Rattle.hsr_sightings.specs.Finding.{AreFound, IsPreviousSighting}
use Rattle.hsr_sightings.specs.Frames.{copies_of, frame_of}
use Rattle.hsr_sightings.specs.Read.{AreRead, AreSightings, HasPlaces, IsBegun, IsSameSighting, IsSighting, IsSightingOf, Rise, first_by}
use Rattle.hsr_sightings.specs.Ring.{Ring, goes, is_at, is_in, point_of, way_of}
use Rattle.hsr_sightings.specs.Seen.{IsSoonAfter, begun, first_of, joined, key_by, sighting_keyed}
use Rattle.hsr_sightings.specs.Sightings.{first_seen, is_more, sighting}
use Rattle.hsr_sightings.specs.Fields.{Sighting}
use Rattle.hsr_sightings.proofs.Counting.{slice_get_end, slice_get_left}
use Rattle.hsr_sightings.proofs.Indexes.{keys_from, keys_from_at, keys_from_long, keys_rise, none_there, not_before, past_more, past_same, same_first, same_frame, within_frame}
use Rattle.hsr_sightings.proofs.Times.{some_same}

-- ---- the copies of a frame that pass a test

pub gather : (test : CaughtFields → Bool) (frame : ℕ) (c : CaughtFields) (past : List CaughtFields)
    → filter test (copies_of frame (c ∷ past)) ≡ cond (nat_eq (frame_of past c) frame && test c) (c ∷ filter test (copies_of frame past)) (filter test (copies_of frame past))
gather test frame c past = by_case (nat_eq (frame_of past c) frame)
  where
    by_case : (b : Bool) → filter test (cond b (c ∷ copies_of frame past) (copies_of frame past)) ≡ cond (b && test c) (c ∷ filter test (copies_of frame past)) (filter test (copies_of frame past))
    by_case true = refl
    by_case false = refl

sighting_own : (ring : Ring) (past : List CaughtFields) (c : CaughtFields) (frame point : ℕ) → frame_of past c ≡ frame → point_of ring c ≡ point
    → sighting ring (c ∷ past) frame point ≡ c ∷ sighting ring past frame point
sighting_own ring past c frame point of_frame at_point =
    gather (is_at ring point) frame c past
    ∙ cond-true _ (c ∷ sighting ring past frame point) (sighting ring past frame point)
    (and_from (nat_eq (frame_of past c) frame) (is_at ring point c) (eq-eqb (frame_of past c) frame of_frame) (eq-eqb (point_of ring c) point at_point))

sighting_other : (ring : Ring) (past : List CaughtFields) (c : CaughtFields) (frame point : ℕ) → (frame_of past c ≡ frame → point_of ring c ≡ point → ⊥)
    → sighting ring (c ∷ past) frame point ≡ sighting ring past frame point
sighting_other ring past c frame point other =
    gather (is_at ring point) frame c past
    ∙ cond-false _ (c ∷ sighting ring past frame point) (sighting ring past frame point) (false_from_ne_true _ (λ both.
    let parts = and_parts (nat_eq (frame_of past c) frame) (is_at ring point c) both in
    other (eqb-true (frame_of past c) frame parts.0) (eqb-true (point_of ring c) point parts.1)))

-- those before a place
abbrev pub seen_to : Ring → List CaughtFields → ℕ → ℕ → ℕ → List CaughtFields
seen_to ring copies frame point i = sighting ring (past_of copies i) frame point

pub seen_grows : (ring : Ring) (copies : List CaughtFields) (frame point i : ℕ) (c : CaughtFields) → slice_get copies i ≡ Some c
    → length (seen_to ring copies frame point i) ≤ length (seen_to ring copies frame point (i + 1))
seen_grows ring copies frame point i c here =
    let past = past_of copies i in
    let more = ap (λ l. length (sighting ring l frame point)) (past_more copies i c here) ∙ ap length (gather (is_at ring point) frame c past) in
    by_case (nat_eq (frame_of past c) frame && is_at ring point c) more
  where
    by_case : (b : Bool) → length (seen_to ring copies frame point (i + 1)) ≡ length (cond b (c ∷ seen_to ring copies frame point i) (seen_to ring copies frame point i))
        → length (seen_to ring copies frame point i) ≤ length (seen_to ring copies frame point (i + 1))
    by_case true more = omega (arith, more)
    by_case false more = omega (arith, more)

-- a copy of the frame at the point is among them
pub has_seen : (ring : Ring) (copies : List CaughtFields) (frame point m n : ℕ) (b : CaughtFields) → m < n → n ≤ length copies → slice_get copies m ≡ Some b → frame_of (past_of copies m) b ≡ frame
    → point_of ring b ≡ point → 0 < length (seen_to ring copies frame point n)
has_seen ring copies frame point m zero b before inside here of_frame at_point = absurd (omega (arith, before))
has_seen ring copies frame point m (suc n) b before inside here of_frame at_point =
    by_place (λ earlier. has_seen ring copies frame point m n b earlier (omega (arith, inside)) here of_frame at_point) (cases_eq m n)
  where
    next : suc n ≡ n + 1
    next = omega arith

    by_copy : 0 < length (seen_to ring copies frame point n) → (o : Option CaughtFields) → slice_get copies n ≡ o → 0 < length (seen_to ring copies frame point (suc n))
    by_copy rest None none = absurd (none_there copies n (omega (arith, inside)) none)
    by_copy rest (Some c) at_n =
        let grows = seen_grows ring copies frame point n c at_n in
        omega (arith, rest, grows, ap (λ k. length (seen_to ring copies frame point k)) next)

    by_place : (m < n → 0 < length (seen_to ring copies frame point n)) → (m ≡ n) ⊎ (m ≡ n → ⊥) → 0 < length (seen_to ring copies frame point (suc n))
    by_place rest (inl same) =
        let at_n : slice_get copies n ≡ Some b = ap (slice_get copies) (sym same) ∙ here in
        let grown : seen_to ring copies frame point (suc n) ≡ b ∷ seen_to ring copies frame point n
        = ap (seen_to ring copies frame point) next ∙ ap (λ l. sighting ring l frame point) (past_more copies n b at_n)
        ∙ sighting_own ring (past_of copies n) b frame point (ap (λ k. frame_of (past_of copies k) b) (sym same) ∙ of_frame) at_point in
        omega (arith, ap length grown)
    by_place rest (inr other) = by_copy (rest (omega (arith, before, other))) (slice_get copies n) refl

-- ---- who begins a sighting

-- no two copies begin the same one
pub same_begin : (ring : Ring) (copies : List CaughtFields) (m n : ℕ) (b d : CaughtFields) → slice_get copies m ≡ Some b → slice_get copies n ≡ Some d → begins_there ring (past_of copies n) d ≡ true → m < n
    → IsSameSighting ring copies m n b d → ⊥
same_begin ring copies m n b d here there begins before same =
    let inside : n < length copies = slice_get_within copies n d there in
    let has = has_seen ring copies (frame_of (past_of copies n) d) (point_of ring d) m n b before (omega (arith, inside)) here same.frame same.point in
    let none = eqb-true (length (seen_to ring copies (frame_of (past_of copies n) d) (point_of ring d) n)) 0 begins in
    omega (arith, has, none)

-- where no copy before is of its frame at its point, a copy begins one
begins_here : (ring : Ring) (copies : List CaughtFields) (i : ℕ) (c : CaughtFields) → slice_get copies i ≡ Some c → IsPreviousSighting ring copies i None
    → seen_to ring copies (frame_of (past_of copies i) c) (point_of ring c) i ≡ []
begins_here ring copies i c here none =
    let frame = frame_of (past_of copies i) c in
    let point = point_of ring c in
    let inside : i < length copies = slice_get_within copies i c here in
    let from_0 : i ≡ 0 + i = omega arith in
    ap (seen_to ring copies frame point) from_0
    ∙ past_same (λ past. sighting ring past frame point) copies 0 i (omega (arith, inside))
    (λ k b from until at_k. sighting_other ring (past_of copies k) b frame point
    (λ of_frame at_point. none k b c (omega (arith, until)) at_k here (record { frame = of_frame; point = at_point })))

-- ---- what a copy adds to a sighting

first_more : (ring : Ring) (way : ℕ) (c : CaughtFields) (seen : List CaughtFields)
    → first_by ring way (c ∷ seen) ≡ cond (nat_eq (way_of ring c) way) (first_of (first_by ring way seen) c.at) (first_by ring way seen)
first_more ring way c seen = by_case (nat_eq (way_of ring c) way)
  where
    with_first : (xs : List CaughtFields) → option_map (λ (x : CaughtFields). x.at) (first_seen (c ∷ xs)) ≡ first_of (option_map (λ (x : CaughtFields). x.at) (first_seen xs)) c.at
    with_first [] = refl
    with_first (x ∷ xs) = refl

    by_case : (b : Bool) → option_map (λ (x : CaughtFields). x.at) (first_seen (cond b (c ∷ filter (goes ring way) seen) (filter (goes ring way) seen)))
        ≡ cond b (first_of (first_by ring way seen) c.at) (first_by ring way seen)
    by_case true = with_first (filter (goes ring way) seen)
    by_case false = refl

-- a direction is at one point
any_again : (ring : Ring) (direction point : ℕ) (xs : List CaughtFields) → slice_index ring.points direction ≡ point
    → list_any (is_in direction) (filter (is_at ring point) xs) ≡ nat_lt 0 (length (filter (is_in direction) xs))
any_again ring direction point [] is = refl
any_again ring direction point (x ∷ xs) is = by_case (any_again ring direction point xs is) (nat_eq x.direction direction) refl (nat_eq (point_of ring x) point) refl
  where
    by_case : list_any (is_in direction) (filter (is_at ring point) xs) ≡ nat_lt 0 (length (filter (is_in direction) xs)) → (b : Bool) → nat_eq x.direction direction ≡ b → (a : Bool)
        → nat_eq (point_of ring x) point ≡ a
        → list_any (is_in direction) (cond a (x ∷ filter (is_at ring point) xs) (filter (is_at ring point) xs)) ≡ nat_lt 0 (length (cond b (x ∷ filter (is_in direction) xs) (filter (is_in direction) xs)))
    by_case rest true own true at =
        or_left (is_in direction x) (list_any (is_in direction) (filter (is_at ring point) xs)) own ∙ sym (lt-ltb 0 (suc (length (filter (is_in direction) xs))) (omega arith))
    by_case rest true own false at = absurd (both_ways _ at (eq-eqb (point_of ring x) point (ap (slice_index ring.points) (eqb-true x.direction direction own) ∙ is)))
    by_case rest false other true at = ap (λ t. t || list_any (is_in direction) (filter (is_at ring point) xs)) other ∙ rest
    by_case rest false other false at = rest

or_swap : (a b : Bool) → (a || b) ≡ (b || a)
or_swap true true = refl
or_swap true false = refl
or_swap false true = refl
or_swap false false = refl

is_joined : (ring : Ring) (copies : List CaughtFields) (m i carried : ℕ) (b c : CaughtFields) (s : Sighting) → slice_get copies i ≡ Some c → IsSighting ring copies (past_of copies i) m b s
    → IsSameSighting ring copies m i b c → carried ≡ times_before (past_of copies i) c → IsSighting ring copies (past_of copies (i + 1)) m b (joined ring c carried s)
is_joined ring copies m i carried b c s here is same carried_is = record {
  first = is.first;
  at = is.at;
  point = is.point;
  order = is.order;
  by_0 = ap (λ o. cond (nat_eq (way_of ring c) 0) (first_of o c.at) o) is.by_0 ∙ sym (first_more ring 0 c seen) ∙ ap (first_by ring 0) (sym grown);
  by_1 = ap (λ o. cond (nat_eq (way_of ring c) 1) (first_of o c.at) o) is.by_1 ∙ sym (first_more ring 1 c seen) ∙ ap (first_by ring 1) (sym grown);
  is_more = ap (λ t. t || nat_lt 0 carried) is.is_more ∙ ap (λ n. is_more seen || nat_lt 0 n) carried_is
      ∙ ap (λ t. is_more seen || t) (some_same (carried_before (past_of copies i) c) ∙ sym again)
      ∙ or_swap (is_more seen) (list_any (is_in c.direction) seen) ∙ ap is_more (sym grown);
}
  where
    frame : ℕ
    frame = frame_of (past_of copies m) b

    point : ℕ
    point = point_of ring b

    seen : List CaughtFields
    seen = seen_to ring copies frame point i

    grown : seen_to ring copies frame point (i + 1) ≡ c ∷ seen
    grown = ap (λ l. sighting ring l frame point) (past_more copies i c here) ∙ sighting_own ring (past_of copies i) c frame point (sym same.frame) (sym same.point)

    again : list_any (is_in c.direction) seen ≡ nat_lt 0 (carried_before (past_of copies i) c)
    again = any_again ring c.direction point (copies_of frame (past_of copies i)) (sym same.point)
        ∙ ap (λ f. nat_lt 0 (length (filter (is_in c.direction) (copies_of f (past_of copies i))))) same.frame

is_still : (ring : Ring) (copies : List CaughtFields) (m i : ℕ) (b c : CaughtFields) (s : Sighting) → slice_get copies i ≡ Some c → IsSighting ring copies (past_of copies i) m b s
    → (IsSameSighting ring copies m i b c → ⊥) → IsSighting ring copies (past_of copies (i + 1)) m b s
is_still ring copies m i b c s here is other = record {
  first = is.first;
  at = is.at;
  point = is.point;
  order = is.order;
  by_0 = is.by_0 ∙ ap (first_by ring 0) (sym still);
  by_1 = is.by_1 ∙ ap (first_by ring 1) (sym still);
  is_more = is.is_more ∙ ap is_more (sym still);
}
  where
    still : seen_to ring copies (frame_of (past_of copies m) b) (point_of ring b) (i + 1) ≡ seen_to ring copies (frame_of (past_of copies m) b) (point_of ring b) i
    still = ap (λ l. sighting ring l (frame_of (past_of copies m) b) (point_of ring b)) (past_more copies i c here)
        ∙ sighting_other ring (past_of copies i) c (frame_of (past_of copies m) b) (point_of ring b) (λ of_frame at_point. other (record { frame = sym of_frame; point = sym at_point }))

-- a sighting that no copy is in yet
is_begun : (ring : Ring) (copies : List CaughtFields) (i order : ℕ) (c : CaughtFields) → slice_get copies i ≡ Some c → order ≡ length (begun_at ring (point_of ring c) (past_of copies i)) → seen_to ring copies (frame_of (past_of copies i) c) (point_of ring c) i ≡ []
    → IsSighting ring copies (past_of copies i) i c (begun c i (point_of ring c) order)
is_begun ring copies i order c here order_is none = record {
  first = refl;
  at = refl;
  point = refl;
  order = order_is;
  by_0 = ap (first_by ring 0) (sym none);
  by_1 = ap (first_by ring 1) (sym none);
  is_more = ap is_more (sym none);
}

-- ---- lists of sightings

pub slice_get_set : {X : Type 0} (xs : List X) (i j : ℕ) (y own : X) → slice_get (set xs i y) j ≡ Some own → ((j ≡ i) × (own ≡ y)) ⊎ ((i ≡ j → ⊥) × (slice_get xs j ≡ Some own))
slice_get_set [] i j y own h = absurd cc
slice_get_set (x ∷ xs) zero zero y own h = inl (refl, cc)
slice_get_set (x ∷ xs) zero (suc j) y own h = inr ((λ e. omega (arith, e)), h)
slice_get_set (x ∷ xs) (suc i) zero y own h = inr ((λ e. omega (arith, e)), h)
slice_get_set (x ∷ xs) (suc i) (suc j) y own h = by_case (slice_get_set xs i j y own h)
  where
    by_case : ((j ≡ i) × (own ≡ y)) ⊎ ((i ≡ j → ⊥) × (slice_get xs j ≡ Some own)) → ((suc j ≡ suc i) × (own ≡ y)) ⊎ ((suc i ≡ suc j → ⊥) × (slice_get xs j ≡ Some own))
    by_case (inl same) = inl (ap suc same.0, same.1)
    by_case (inr other) = inr ((λ e. other.0 (omega (arith, e))), other.1)

slice_get_set_own : {X : Type 0} (xs : List X) (i : ℕ) (y : X) → i < length xs → slice_get (set xs i y) i ≡ Some y
slice_get_set_own [] i y below = absurd (omega (arith, below))
slice_get_set_own (x ∷ xs) zero y below = refl
slice_get_set_own (x ∷ xs) (suc i) y below = slice_get_set_own xs i y (omega (arith, below))

slice_get_set_other : {X : Type 0} (xs : List X) (i j : ℕ) (y : X) → (i ≡ j → ⊥) → slice_get (set xs i y) j ≡ slice_get xs j
slice_get_set_other [] i j y other = refl
slice_get_set_other (x ∷ xs) zero zero y other = absurd (other refl)
slice_get_set_other (x ∷ xs) zero (suc j) y other = refl
slice_get_set_other (x ∷ xs) (suc i) zero y other = refl
slice_get_set_other (x ∷ xs) (suc i) (suc j) y other = slice_get_set_other xs i j y (λ e. other (ap suc e))

-- places behind one that is set
pub left_set : {X : Type 0} (xs : List X) (i k : ℕ) (y : X) → i < k → slice_get (set xs i y) k ≡ slice_get xs k
left_set xs i k y before = slice_get_set_other xs i k y (λ e. omega (arith, before, e))

pub slice_get_push : {X : Type 0} (xs : List X) (y x : X) (k : ℕ) → slice_get (xs ++ y ∷ []) k ≡ Some x → (slice_get xs k ≡ Some x) ⊎ ((k ≡ length xs) × (x ≡ y))
slice_get_push xs y x k here = by_case (cases_lt k (length xs))
  where
    by_case : (k < length xs) ⊎ (length xs ≤ k) → (slice_get xs k ≡ Some x) ⊎ ((k ≡ length xs) × (x ≡ y))
    by_case (inl below) = inl (sym (slice_get_left xs (y ∷ []) k below) ∙ here)
    by_case (inr past) =
        let inside : k < length (xs ++ y ∷ []) = slice_get_within (xs ++ y ∷ []) k x here in
        let more : length (xs ++ y ∷ []) ≡ length xs + 1 = length_push xs y in
        let place : k ≡ length xs = omega (arith, past, inside, more) in
        inr (place, same_Some x y (sym here ∙ ap (slice_get (xs ++ y ∷ [])) place ∙ slice_get_end xs y (length xs) refl))

-- each sighting is there still, begun by the same copy
abbrev pub Keeps : List Sighting → List Sighting → Type 0
Keeps all new = (k : ℕ) (s : Sighting) → slice_get all k ≡ Some s → (t : Sighting) × (slice_get new k ≡ Some t) × (t.first ≡ s.first)

of_kept : (ring : Ring) (copies : List CaughtFields) (all new : List Sighting) (j k : ℕ) (c : CaughtFields) → Keeps all new → IsSightingOf ring copies all j c k → IsSightingOf ring copies new j c k
of_kept ring copies all new j k c keeps is =
    let kept = keeps k is.seen is.numbered in
    record {
      seen = kept.0;
      numbered = kept.1;
      copy = is.copy;
      there = ap (slice_get copies) kept.2 ∙ is.there;
      same = subst (λ m. IsSameSighting ring copies m j is.copy c) (sym kept.2) is.same;
    }

keeps_set : (all : List Sighting) (k : ℕ) (seen new : Sighting) → slice_get all k ≡ Some seen → new.first ≡ seen.first → Keeps all (set all k new)
keeps_set all k seen new numbered same n s at_n = by_case (cases_eq k n)
  where
    by_case : (k ≡ n) ⊎ (k ≡ n → ⊥) → (t : Sighting) × (slice_get (set all k new) n ≡ Some t) × (t.first ≡ s.first)
    by_case (inl place) =
        let own : seen ≡ s = same_Some seen s (sym numbered ∙ ap (slice_get all) place ∙ at_n) in
        (new, ap (slice_get (set all k new)) (sym place) ∙ slice_get_set_own all k new (slice_get_within all k seen numbered), same ∙ ap (λ (x : Sighting). x.first) own)
    by_case (inr other) = (s, slice_get_set_other all k n new other ∙ at_n, refl)

keeps_push : (all : List Sighting) (new : Sighting) → Keeps all (all ++ new ∷ [])
keeps_push all new k s at_k = (s, slice_get_left all (new ∷ []) k (slice_get_within all k s at_k) ∙ at_k, refl)

-- what was there, begun by the same copy
was_set : (all : List Sighting) (k n : ℕ) (seen new s : Sighting) → slice_get all k ≡ Some seen → new.first ≡ seen.first → slice_get (set all k new) n ≡ Some s
    → (t : Sighting) × (slice_get all n ≡ Some t) × (t.first ≡ s.first)
was_set all k n seen new s numbered same at_n = by_case (slice_get_set all k n new s at_n)
  where
    by_case : ((n ≡ k) × (s ≡ new)) ⊎ ((k ≡ n → ⊥) × (slice_get all n ≡ Some s)) → (t : Sighting) × (slice_get all n ≡ Some t) × (t.first ≡ s.first)
    by_case (inl own) = (seen, ap (slice_get all) own.0 ∙ numbered, sym (ap (λ (x : Sighting). x.first) own.1 ∙ same))
    by_case (inr other) = (s, other.1, refl)

rise_set : (all : List Sighting) (k : ℕ) (seen new : Sighting) → slice_get all k ≡ Some seen → new.first ≡ seen.first → Rise all → Rise (set all k new)
rise_set all k seen new numbered same rise i j s t before at_i at_j =
    let was_i = was_set all k i seen new s numbered same at_i in
    let was_j = was_set all k j seen new t numbered same at_j in
    let less = rise i j was_i.0 was_j.0 before was_i.1 was_j.1 in
    omega (arith, less, was_i.2, was_j.2)

same_number : (all : List Sighting) (n k : ℕ) (t s : Sighting) → Rise all → slice_get all n ≡ Some t → slice_get all k ≡ Some s → t.first ≡ s.first → n ≡ k
same_number all n k t s rise at_n at_k same = by_case (cases_order n k)
  where
    by_case : (n ≡ k) ⊎ ((n < k) ⊎ (k < n)) → n ≡ k
    by_case (inl place) = place
    by_case (inr (inl before)) = let less = rise n k t s before at_n at_k in absurd (omega (arith, less, same))
    by_case (inr (inr before)) = let less = rise k n s t before at_k at_n in absurd (omega (arith, less, same))

-- two sightings of one frame at one point were begun by one copy
one_sighting : (ring : Ring) (copies : List CaughtFields) (m n : ℕ) (b d : CaughtFields) → slice_get copies m ≡ Some b → slice_get copies n ≡ Some d → begins_there ring (past_of copies m) b ≡ true
    → begins_there ring (past_of copies n) d ≡ true → IsSameSighting ring copies m n b d → m ≡ n
one_sighting ring copies m n b d here there first second same = by_case (cases_order m n)
  where
    by_case : (m ≡ n) ⊎ ((m < n) ⊎ (n < m)) → m ≡ n
    by_case (inl place) = place
    by_case (inr (inl before)) = absurd (same_begin ring copies m n b d here there second before same)
    by_case (inr (inr before)) = absurd (same_begin ring copies n m d b there here first before (record { frame = sym same.frame; point = sym same.point }))

-- ---- how many began at a point

pub few_begun : (ring : Ring) (point : ℕ) (past : List CaughtFields) → length (begun_at ring point past) ≤ length past
few_begun ring point [] = omega arith
few_begun ring point (c ∷ past) = by_case (few_begun ring point past) (is_at ring point c && begins_there ring past c)
  where
    by_case : length (begun_at ring point past) ≤ length past → (b : Bool) → length (cond b (c ∷ begun_at ring point past) (begun_at ring point past)) ≤ suc (length past)
    by_case few true = omega (arith, few)
    by_case few false = omega (arith, few)

pub long_past : (copies : List CaughtFields) (i : ℕ) → i ≤ length copies → length (past_of copies i) ≡ i
long_past copies i le = length-reverse (take i copies) ∙ length-take i copies ∙ omega (arith, le)

pub still_begun : (ring : Ring) (copies : List CaughtFields) (point i : ℕ) (c : CaughtFields) → slice_get copies i ≡ Some c → (is_at ring point c && begins_there ring (past_of copies i) c) ≡ false
    → length (begun_at ring point (past_of copies (i + 1))) ≡ length (begun_at ring point (past_of copies i))
still_begun ring copies point i c here other =
    ap (λ l. length (begun_at ring point l)) (past_more copies i c here)
    ∙ ap length (cond-false _ (c ∷ begun_at ring point (past_of copies i)) (begun_at ring point (past_of copies i)) other)

pub more_begun : (ring : Ring) (copies : List CaughtFields) (i : ℕ) (c : CaughtFields) → slice_get copies i ≡ Some c → begins_there ring (past_of copies i) c ≡ true
    → length (begun_at ring (point_of ring c) (past_of copies (i + 1))) ≡ suc (length (begun_at ring (point_of ring c) (past_of copies i)))
more_begun ring copies i c here begins =
    ap (λ l. length (begun_at ring (point_of ring c) l)) (past_more copies i c here)
    ∙ ap length (cond-true _ (c ∷ begun_at ring (point_of ring c) (past_of copies i)) (begun_at ring (point_of ring c) (past_of copies i))
    (and_from (is_at ring (point_of ring c) c) (begins_there ring (past_of copies i) c) (eq-eqb (point_of ring c) (point_of ring c) refl) begins))

-- one more began at a point
counts_more : (ring : Ring) (copies : List CaughtFields) (i : ℕ) (c : CaughtFields) (counts_old new : List ℕ) → slice_get copies i ≡ Some c → i < 2 ^ 32 - 1 → begins_there ring (past_of copies i) c ≡ true
    → new ≡ set counts_old (point_of ring c) (min (slice_index counts_old (point_of ring c) + 1) (2 ^ 32 - 1)) → point_of ring c < length counts_old
    → ((point n : ℕ) → slice_get counts_old point ≡ Some n → n ≡ length (begun_at ring point (past_of copies i)))
    → (point n : ℕ) → slice_get new point ≡ Some n → n ≡ length (begun_at ring point (past_of copies (i + 1)))
counts_more ring copies i c counts_old new here few begins new_is inside counts point n at_point =
    by_case (slice_get_set counts_old (point_of ring c) point _ n (ap (λ l. slice_get l point) (sym new_is) ∙ at_point))
  where
    by_case : ((point ≡ point_of ring c) × (n ≡ min (slice_index counts_old (point_of ring c) + 1) (2 ^ 32 - 1))) ⊎ ((point_of ring c ≡ point → ⊥) × (slice_get counts_old point ≡ Some n))
        → n ≡ length (begun_at ring point (past_of copies (i + 1)))
    by_case (inl own) =
        let below : i < length copies = slice_get_within copies i c here in
        let old = counts (point_of ring c) (slice_index counts_old (point_of ring c)) (slice_get-get_or counts_old (point_of ring c) 0 inside) in
        let most = few_begun ring (point_of ring c) (past_of copies i) in
        let long = long_past copies i (omega (arith, below)) in
        let more = more_begun ring copies i c here begins in
        let value : n ≡ length (begun_at ring (point_of ring c) (past_of copies (i + 1))) = omega (arith, own.1, old, most, long, more, few) in
        value ∙ ap (λ p. length (begun_at ring p (past_of copies (i + 1)))) (sym own.0)
    by_case (inr other) =
        counts point n other.1
        ∙ sym (still_begun ring copies point i c here (and_left (is_at ring point c) (begins_there ring (past_of copies i) c) (ne_eqb (point_of ring c) point other.0)))

-- none began
pub counts_still : (ring : Ring) (copies : List CaughtFields) (i : ℕ) (c : CaughtFields) (old : List ℕ) → slice_get copies i ≡ Some c → begins_there ring (past_of copies i) c ≡ false
    → ((point n : ℕ) → slice_get old point ≡ Some n → n ≡ length (begun_at ring point (past_of copies i)))
    → (point n : ℕ) → slice_get old point ≡ Some n → n ≡ length (begun_at ring point (past_of copies (i + 1)))
counts_still ring copies i c old here none counts point n at_point =
    counts point n at_point ∙ sym (still_begun ring copies point i c here (and_right (is_at ring point c) (begins_there ring (past_of copies i) c) none))

-- ---- of each copy its sighting, with one more

own_more : (ring : Ring) (copies : List CaughtFields) (i k : ℕ) (c : CaughtFields) (all new : List Sighting) (of_copy : List ℕ) → slice_get copies i ≡ Some c → i < length of_copy → Keeps all new
    → IsSightingOf ring copies new i c k
    → ((j : ℕ) (d : CaughtFields) → j < i → slice_get copies j ≡ Some d → (n : ℕ) × (slice_get of_copy j ≡ Some n) × IsSightingOf ring copies all j d n)
    → (j : ℕ) (d : CaughtFields) → j < i + 1 → slice_get copies j ≡ Some d → (n : ℕ) × (slice_get (set of_copy i k) j ≡ Some n) × IsSightingOf ring copies new j d n
own_more ring copies i k c all new of_copy here room keeps of_c own j d below at_j = by_case (cases_lt j i)
  where
    by_case : (j < i) ⊎ (i ≤ j) → (n : ℕ) × (slice_get (set of_copy i k) j ≡ Some n) × IsSightingOf ring copies new j d n
    by_case (inl before) =
        let was = own j d before at_j in
        (was.0, slice_get_set_other of_copy i j k (λ e. omega (arith, before, e)) ∙ was.1, of_kept ring copies all new j was.0 d keeps was.2)
    by_case (inr past) =
        let place : i ≡ j = omega (arith, past, below) in
        let same : c ≡ d = same_Some c d (sym here ∙ ap (slice_get copies) place ∙ at_j) in (
          k,
          ap (slice_get (set of_copy i k)) (sym place) ∙ slice_get_set_own of_copy i k room,
          subst (λ n. IsSightingOf ring copies new n d k) place (subst (λ x. IsSightingOf ring copies new i x k) same of_c),
        )

-- ---- a copy that begins a sighting

pub begin_step : (ring : Ring) (copies : List CaughtFields) (firsts : List ℕ) (i carried : ℕ) (c : CaughtFields) (all : List Sighting) (of_copy begun_old begun_new : List ℕ) → AreRead copies firsts
    → slice_get copies i ≡ Some c → carried ≡ times_before (past_of copies i) c → AreFound ring copies i all of_copy begun_old → IsPreviousSighting ring copies i None → point_of ring c < 64
    → begun_new ≡ set begun_old (point_of ring c) (min (slice_index begun_old (point_of ring c) + 1) (2 ^ 32 - 1))
    → AreFound ring copies (i + 1) (all ++ joined ring c carried (begun c i (point_of ring c) (slice_index begun_old (point_of ring c))) ∷ []) (set of_copy i (length all)) begun_new
begin_step ring copies firsts i carried c all of_copy begun_old begun_new read here carried_is found none place begun_is = record {
  each = λ k s at_k. by_old k s (slice_get_push all own s k at_k);
  order = λ j k s t before at_j at_k. by_order j k s t before (slice_get_push all own s j at_j) (slice_get_push all own t k at_k) at_k;
  own = own_more ring copies i (length all) c all (all ++ own ∷ []) of_copy here (omega (arith, inside, found.long)) (keeps_push all own) of_own found.own;
  long = length-set of_copy i (length all) ∙ found.long;
  few = omega (arith, length_push all own, found.few);
  counts = counts_more ring copies i c begun_old begun_new here (omega (arith, inside, read.few)) begins begun_is (omega (arith, place, found.points)) found.counts;
  points = ap length begun_is ∙ length-set begun_old (point_of ring c) _ ∙ found.points;
}
  where
    inside : i < length copies
    inside = slice_get_within copies i c here

    own : Sighting
    own = joined ring c carried (begun c i (point_of ring c) (slice_index begun_old (point_of ring c)))

    empty : seen_to ring copies (frame_of (past_of copies i) c) (point_of ring c) i ≡ []
    empty = begins_here ring copies i c here none

    begins : begins_there ring (past_of copies i) c ≡ true
    begins = ap (λ (l : List CaughtFields). nat_eq (length l) 0) empty

    order_is : slice_index begun_old (point_of ring c) ≡ length (begun_at ring (point_of ring c) (past_of copies i))
    order_is = found.counts (point_of ring c) _ (slice_get-get_or begun_old (point_of ring c) 0 (omega (arith, place, found.points)))

    is : IsSighting ring copies (past_of copies (i + 1)) i c own
    is = is_joined ring copies i i carried c c (begun c i (point_of ring c) (slice_index begun_old (point_of ring c))) here
        (is_begun ring copies i (slice_index begun_old (point_of ring c)) c here order_is empty)
        (record { frame = refl; point = refl }) carried_is

    of_own : IsSightingOf ring copies (all ++ own ∷ []) i c (length all)
    of_own = record {
      seen = own;
      numbered = slice_get_end all own (length all) refl;
      copy = c;
      there = here;
      same = record { frame = refl; point = refl };
    }

    by_old : (k : ℕ) (s : Sighting) → (slice_get all k ≡ Some s) ⊎ ((k ≡ length all) × (s ≡ own)) → (s.first < i + 1) × IsBegun ring copies (past_of copies (i + 1)) s
    by_old k s (inl old) =
        let was = found.each k s old in (
          omega (arith, was.0),
          record {
            copy = was.1.copy;
            there = was.1.there;
            begins = was.1.begins;
            is = is_still ring copies s.first i was.1.copy c s here was.1.is (none s.first was.1.copy c was.0 was.1.there here);
          },
        )
    by_old k s (inr new) = subst (λ x. (x.first < i + 1) × IsBegun ring copies (past_of copies (i + 1)) x) (sym new.1)
        (omega arith, record { copy = c; there = here; begins = begins; is = is })

    by_order : (j k : ℕ) (s t : Sighting) → j < k → (slice_get all j ≡ Some s) ⊎ ((j ≡ length all) × (s ≡ own)) → (slice_get all k ≡ Some t) ⊎ ((k ≡ length all) × (t ≡ own))
        → slice_get (all ++ own ∷ []) k ≡ Some t → s.first < t.first
    by_order j k s t before (inl old) (inl other) at_k = found.order j k s t before old other
    by_order j k s t before (inl old) (inr new) at_k =
        let was = found.each j s old in
        omega (arith, was.0, ap (λ (x : Sighting). x.first) new.1)
    by_order j k s t before (inr first) last at_k =
        let below : k < length (all ++ own ∷ []) = slice_get_within (all ++ own ∷ []) k t at_k in
        absurd (omega (arith, below, length_push all own, before, first.0))

-- ---- a copy of a sighting that is there

pub join_step : (ring : Ring) (copies : List CaughtFields) (i k carried : ℕ) (c : CaughtFields) (all new : List Sighting) (of_copy begun_old : List ℕ) → slice_get copies i ≡ Some c
    → carried ≡ times_before (past_of copies i) c → AreFound ring copies i all of_copy begun_old → (of_c : IsSightingOf ring copies all i c k) → new ≡ set all k (joined ring c carried of_c.seen)
    → AreFound ring copies (i + 1) new (set of_copy i k) begun_old
join_step ring copies i k carried c all new of_copy begun_old here carried_is found of_c new_is = subst (λ l. AreFound ring copies (i + 1) l (set of_copy i k) begun_old) (sym new_is) (record {
  each = λ n s at_n. by_old n s (slice_get_set all k n own s at_n);
  order = rise_set all k of_c.seen own of_c.numbered refl found.order;
  own = own_more ring copies i k c all (set all k own) of_copy here (omega (arith, inside, found.long)) keeps (of_kept ring copies all (set all k own) i k c keeps of_c) found.own;
  long = length-set of_copy i k ∙ found.long;
  few = omega (arith, length-set all k own, found.few);
  counts = counts_still ring copies i c begun_old here begins found.counts;
  points = found.points;
})
  where
    own : Sighting
    own = joined ring c carried of_c.seen

    keeps : Keeps all (set all k own)
    keeps = keeps_set all k of_c.seen own of_c.numbered refl

    was : (of_c.seen.first < i) × IsBegun ring copies (past_of copies i) of_c.seen
    was = found.each k of_c.seen of_c.numbered

    same_copy : of_c.copy ≡ was.1.copy
    same_copy = same_Some _ _ (sym of_c.there ∙ was.1.there)

    same : IsSameSighting ring copies of_c.seen.first i was.1.copy c
    same = subst (λ x. IsSameSighting ring copies of_c.seen.first i x c) same_copy of_c.same

    inside : i < length copies
    inside = slice_get_within copies i c here

    begins : begins_there ring (past_of copies i) c ≡ false
    begins =
        let has = has_seen ring copies (frame_of (past_of copies i) c) (point_of ring c) of_c.seen.first i was.1.copy was.0 (omega (arith, inside)) was.1.there same.frame same.point in
        ne_eqb (length (seen_to ring copies (frame_of (past_of copies i) c) (point_of ring c) i)) 0 (λ e. omega (arith, e, has))

    by_old : (n : ℕ) (s : Sighting) → ((n ≡ k) × (s ≡ own)) ⊎ ((k ≡ n → ⊥) × (slice_get all n ≡ Some s)) → (s.first < i + 1) × IsBegun ring copies (past_of copies (i + 1)) s
    by_old n s (inl new) = subst (λ x. (x.first < i + 1) × IsBegun ring copies (past_of copies (i + 1)) x) (sym new.1) (
      omega (arith, was.0),
      record {
        copy = was.1.copy;
        there = was.1.there;
        begins = was.1.begins;
        is = is_joined ring copies of_c.seen.first i carried was.1.copy c of_c.seen here was.1.is same carried_is;
      },
    )
    by_old n s (inr other) =
        let old = found.each n s other.1 in (
          omega (arith, old.0),
          record {
            copy = old.1.copy;
            there = old.1.there;
            begins = old.1.begins;
            is = is_still ring copies s.first i old.1.copy c s here old.1.is (λ alike.
                let one : s.first ≡ of_c.seen.first = one_sighting ring copies s.first of_c.seen.first old.1.copy was.1.copy old.1.there was.1.there old.1.begins was.1.begins
                (record { frame = alike.frame ∙ sym same.frame; point = alike.point ∙ sym same.point }) in
                other.0 (sym (same_number all n k s of_c.seen found.order other.1 of_c.numbered one)));
          },
        )

-- it comes within the time of a frame after the first copy of its sighting
pub soon_after : (ring : Ring) (copies : List CaughtFields) (firsts : List ℕ) (i k : ℕ) (c : CaughtFields) (all : List Sighting) (of_copy begun_old : List ℕ) → AreRead copies firsts
    → slice_get copies i ≡ Some c → AreFound ring copies i all of_copy begun_old → IsSightingOf ring copies all i c k → (s : Sighting) → slice_get all k ≡ Some s → IsSoonAfter s c.at
soon_after ring copies firsts i k c all of_copy begun_old read here found of_c s at_k =
    let was = found.each k s at_k in
    let own : s ≡ of_c.seen = same_Some _ _ (sym at_k ∙ of_c.numbered) in
    let place : s.first ≡ of_c.seen.first = ap (λ (x : Sighting). x.first) own in
    let same_copy : of_c.copy ≡ was.1.copy = same_Some _ _ (sym of_c.there ∙ ap (slice_get copies) (sym place) ∙ was.1.there) in
    let frame : frame_of (past_of copies s.first) was.1.copy ≡ frame_of (past_of copies i) c
    = ap (λ x. frame_of (past_of copies s.first) x) (sym same_copy) ∙ ap (λ m. frame_of (past_of copies m) of_c.copy) place ∙ of_c.same.frame in
    let no_sooner : was.1.copy.at ≤ c.at = not_before copies firsts read s.first i was.1.copy c (omega (arith, was.0)) was.1.there here in
    let near : c.at < was.1.copy.at + frame_time
    = within_frame copies firsts read s.first i was.1.copy c was.0 was.1.there here (same_first copies firsts read s.first i was.1.copy c was.1.there here frame) in
    record {
      later = omega (arith, no_sooner, was.1.is.at);
      soon = omega (arith, near, was.1.is.at);
    }

-- the sighting of an earlier copy is that of a copy of its frame at its point
pub sighting_of_same : (ring : Ring) (copies : List CaughtFields) (all : List Sighting) (j i k : ℕ) (b c : CaughtFields) → IsSightingOf ring copies all j b k → IsSameSighting ring copies j i b c
    → IsSightingOf ring copies all i c k
sighting_of_same ring copies all j i k b c is same = record {
  seen = is.seen;
  numbered = is.numbered;
  copy = is.copy;
  there = is.there;
  same = record { frame = is.same.frame ∙ same.frame; point = is.same.point ∙ same.point };
}

-- of a copy that is left the copy that began its frame is told still
pub left_read : (firsts left : List ℕ) (i entry : ℕ) → i < length firsts → ((k : ℕ) → i ≤ k → slice_get left k ≡ slice_get firsts k) → entry ≡ get_or left i entry → entry ≡ slice_index firsts i
left_read firsts left i entry inside same is =
    is ∙ get_or_from_slice_get left i (slice_index firsts i) entry (same i (omega arith) ∙ slice_get-get_or firsts i 0 inside)

-- ---- the whole

-- before the first copy nothing is found
pub none_found : (ring : Ring) (copies : List CaughtFields) (of_copy begun_old : List ℕ) → length of_copy ≡ length copies → length begun_old ≡ 64
    → ((point n : ℕ) → slice_get begun_old point ≡ Some n → n ≡ 0) → AreFound ring copies 0 [] of_copy begun_old
none_found ring copies of_copy begun_old room long zeros = record {
  each = λ k s at_k. absurd cc;
  order = λ j k s t before at_j at_k. absurd cc;
  own = λ j c below at_j. absurd (omega (arith, below));
  long = room;
  few = omega arith;
  counts = zeros;
  points = long;
}

pub all_found : (ring : Ring) (copies : List CaughtFields) (all : List Sighting) (of_copy begun_old : List ℕ) (n : ℕ) → n ≡ length copies → AreFound ring copies n all of_copy begun_old
    → AreSightings ring copies all of_copy
all_found ring copies all of_copy begun_old n all_read found = record {
  each = λ k s at_k. subst (λ past. IsBegun ring copies past s) whole (found.each k s at_k).1;
  order = found.order;
  own = λ j c at_j. let below : j < length copies = slice_get_within copies j c at_j in found.own j c (omega (arith, below, all_read)) at_j;
  long = found.long;
}
  where
    whole : past_of copies n ≡ reverse copies
    whole = ap reverse (take_all n copies (omega (arith, all_read)))

-- ---- keys

-- of each copy its moment, and its frame and its point
pub record AreSightingKeys (ring : Ring) (copies : List CaughtFields) (firsts : List ℕ) (keys : List Keyed) : Type 0 where
  pub each : (i : ℕ) (c : CaughtFields) → slice_get copies i ≡ Some c → slice_get keys i ≡ Some (sighting_keyed ring (slice_index firsts i) c)
  pub long : length keys ≡ length copies

abbrev pub sighting_keys : Ring → List CaughtFields → List ℕ → List Keyed
sighting_keys ring copies firsts = keys_from (λ i c. sighting_keyed ring (slice_index firsts i) c) 0 copies

pub are_keys : (ring : Ring) (copies : List CaughtFields) (firsts : List ℕ) → AreSightingKeys ring copies firsts (sighting_keys ring copies firsts)
are_keys ring copies firsts = record {
  each = λ i c here. keys_from_at (λ k x. sighting_keyed ring (slice_index firsts k) x) 0 copies i c here ∙ ap (λ k. Some (sighting_keyed ring (slice_index firsts k) c)) (omega arith);
  long = keys_from_long (λ k x. sighting_keyed ring (slice_index firsts k) x) 0 copies;
}

key_parts : (f p g q : ℕ) → p < 64 → q < 64 → key_by f p ≡ key_by g q → (f ≡ g) × (p ≡ q)
key_parts f p g q small few is = (omega (arith, small, few, is), omega (arith, small, few, is))

-- of copies with one key the frame and the point are the same
same_by_key : (ring : Ring) (copies : List CaughtFields) (firsts : List ℕ) → AreRead copies firsts → HasPlaces ring → (k i : ℕ) (b c : CaughtFields) → slice_get copies k ≡ Some b
    → slice_get copies i ≡ Some c → key_by (slice_index firsts k) (point_of ring b) ≡ key_by (slice_index firsts i) (point_of ring c) → IsSameSighting ring copies k i b c
same_by_key ring copies firsts read places k i b c here there same =
    let parts = key_parts (slice_index firsts k) (point_of ring b) (slice_index firsts i) (point_of ring c) (places b.direction) (places c.direction) same in
    record { frame = same_frame copies firsts read k i b c here there parts.0; point = parts.1 }

pub previous_is : (ring : Ring) (copies : List CaughtFields) (firsts : List ℕ) (keys : List Keyed) (i : ℕ) (c : CaughtFields) (found : Option ℕ) → AreRead copies firsts → HasPlaces ring
    → AreSightingKeys ring copies firsts keys → slice_get copies i ≡ Some c → IsPreviousOf frame_time keys i (sighting_keyed ring (slice_index firsts i) c) found
    → IsPreviousSighting ring copies i found
previous_is ring copies firsts keys i c None read places are here old = λ k b d before at_k at_i alike.
    let own : c ≡ d = same_Some c d (sym here ∙ at_i) in
    let frame = alike.frame ∙ ap (frame_of (past_of copies i)) (sym own) in
    let point = alike.point ∙ ap (point_of ring) (sym own) in
    let first = same_first copies firsts read k i b c at_k here frame in
    let far = old k _ before (are.each k b at_k) (ap (λ f. key_by f (point_of ring b)) first ∙ ap (key_by (slice_index firsts i)) point) in
    let near = within_frame copies firsts read k i b c before at_k here first in
    omega (arith, far, near)
previous_is ring copies firsts keys i c (Some j) read places are here latest = (
  latest.below,
  λ b d at_j at_i.
      let own : c ≡ d = same_Some c d (sym here ∙ at_i) in
      let thing = same_Some _ _ (sym (are.each j b at_j) ∙ latest.has.there) in
      subst (IsSameSighting ring copies j i b) own (same_by_key ring copies firsts read places j i b c at_j here (ap (λ (t : Keyed). t.key) thing ∙ latest.has.same)),
)

pub keys_in_time : (ring : Ring) (copies : List CaughtFields) (firsts : List ℕ) (keys : List Keyed) → AreRead copies firsts → AreSightingKeys ring copies firsts keys → AreInTime keys
keys_in_time ring copies firsts keys read are = keys_rise copies firsts keys read are.long (λ i c here. (_, are.each i c here, refl))

-- the number that was told of the previous copy is that of a copy's sighting
pub own_number : (ring : Ring) (copies : List CaughtFields) (i j number : ℕ) (c : CaughtFields) (all : List Sighting) (of_copy begun_old : List ℕ) → slice_get copies i ≡ Some c
    → AreFound ring copies i all of_copy begun_old → IsPreviousSighting ring copies i (Some j) → number ≡ get_or of_copy j number → IsSightingOf ring copies all i c number
own_number ring copies i j number c all of_copy begun_old here found previous number_is = subst (IsSightingOf ring copies all i c) (sym same) (sighting_of_same ring copies all j i was.0 b c was.2 alike)
  where
    b : CaughtFields
    b = get_or copies j c

    inside : i < length copies
    inside = slice_get_within copies i c here

    at_j : slice_get copies j ≡ Some b
    at_j = slice_get-get_or copies j c (omega (arith, inside, previous.0))

    was : (k : ℕ) × (slice_get of_copy j ≡ Some k) × IsSightingOf ring copies all j b k
    was = found.own j b previous.0 at_j

    alike : IsSameSighting ring copies j i b c
    alike = previous.1 b c at_j here

    same : number ≡ was.0
    same = number_is ∙ get_or_from_slice_get of_copy j was.0 number was.1
