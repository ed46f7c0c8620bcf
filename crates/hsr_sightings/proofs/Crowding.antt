-- How many frames began at a point in the last 400 ms, one copy after the other.
use Rattle.std.proofs.Common.{◌≡◌, ℕ, zero, suc, ◌+◌, ◌-◌, ◌<◌, ◌≤◌, max, Bool, true, false, cond, ◌&&◌, List, [], ◌∷◌, ◌++◌, length, map, reverse, get_or, ◌⊎◌, inl, inr, refl, sym, ap, subst, ◌∙◌, arith, Option, Some, None}
use Rattle.std.specs.List.{AllZip}
use Rattle.std.specs.Prelude.{nat_lt, filter, option_map, slice_get, slice_index}
use Rattle.std.proofs.lemmas.Bool.{and_parts, cases_lt, cond-false, cond-true, eq-eqb, eqb-true, le-ltb, lt-ltb}
use Rattle.std.proofs.lemmas.List.{append-nil, length_push, map-append, reverse-append, reverse-reverse, take_all}
use Rattle.std.proofs.lemmas.List.Elements.{filter-append}
use Rattle.std.proofs.lemmas.List.Sums.{length-filter, sum_by_push}
use Rattle.std.proofs.lemmas.Option.{same_Some, slice_get-get_or, slice_get-map, slice_get_within}
use Rattle.hsr_frame_groups.specs.Frames.{AreInTime, CaughtFields, past_of}
use Rattle.hsr_sightings.specs.Copies.{begins_there, begun_at, crowd, first_crowded, first_of_past, is_recent}
use Rattle.hsr_sightings.specs.Crowding.{Begun, IsCrowding, IsKeptOf, IsRecentFrom, begun_by, moment_in}
use Rattle.hsr_sightings.specs.Read.{IsCrowd, IsFull, most_in}
use Rattle.hsr_sightings.specs.Ring.{Ring, forget_time, is_at, point_of}
use Rattle.hsr_sightings.specs.declared.late.Crowd.{Crowd}
use Rattle.hsr_sightings.proofs.Gathering.{slice_get_push}
use Rattle.hsr_sightings.proofs.Counting.{slice_get_end}
use Rattle.hsr_sightings.proofs.Indexes.{in_order, none_there, past_more}

-- ---- counts

suffix_count : {X : Type 0} (test : X → Bool) (xs : List X) (r : ℕ) → r ≤ length xs → ((k : ℕ) (x : X) → k < r → slice_get xs k ≡ Some x → test x ≡ false)
    → ((k : ℕ) (x : X) → r ≤ k → slice_get xs k ≡ Some x → test x ≡ true) → length (filter test xs) + r ≡ length xs
suffix_count test [] zero le old recent = omega arith
suffix_count test [] (suc r) le old recent = absurd (omega (arith, le))
suffix_count test (x ∷ xs) zero le old recent =
    let rest = suffix_count test xs 0 (omega arith) (λ k y below at. absurd (omega (arith, below))) (λ k y from at. recent (suc k) y (omega arith) at) in
    let one : length (filter test (x ∷ xs)) ≡ suc (length (filter test xs)) = ap length (cond-true (test x) (x ∷ filter test xs) (filter test xs) (recent 0 x (omega arith) refl)) in
    omega (arith, rest, one)
suffix_count test (x ∷ xs) (suc r) le old recent =
    let rest = suffix_count test xs r (omega (arith, le)) (λ k y below at. old (suc k) y (omega (arith, below)) at) (λ k y from at. recent (suc k) y (omega (arith, from)) at) in
    let none : length (filter test (x ∷ xs)) ≡ length (filter test xs) = ap length (cond-false (test x) (x ∷ filter test xs) (filter test xs) (old 0 x (omega arith) refl)) in
    omega (arith, rest, none)

count_push : {X : Type 0} (test : X → Bool) (xs : List X) (y : X) → length (filter test (xs ++ y ∷ [])) ≡ length (filter test xs) + cond (test y) 1 0
count_push test xs y = length-filter test (xs ++ y ∷ []) ∙ sum_by_push (λ x. cond (test x) 1 0) xs y ∙ ap (λ n. n + cond (test y) 1 0) (sym (length-filter test xs))

count_cons : {X : Type 0} (test : X → Bool) (y : X) (xs : List X) → length (filter test (y ∷ xs)) ≡ length (filter test xs) + cond (test y) 1 0
count_cons {X} test y xs = by_case (test y)
  where
    by_case : (b : Bool) → length (cond b (y ∷ filter test xs) (filter test xs)) ≡ length (filter test xs) + cond b 1 0
    by_case true = omega arith
    by_case false = omega arith

-- ---- a copy that begins no frame there

nothing_new : (ring : Ring) (copies : List CaughtFields) (point i : ℕ) (c : CaughtFields) → slice_get copies i ≡ Some c → (is_at ring point c && begins_there ring (past_of copies i) c) ≡ false
    → begun_at ring point (past_of copies (i + 1)) ≡ begun_at ring point (past_of copies i)
nothing_new ring copies point i c here nothing =
    ap (begun_at ring point) (past_more copies i c here) ∙ cond-false _ (c ∷ begun_at ring point (past_of copies i)) (begun_at ring point (past_of copies i)) nothing

most_still : (ring : Ring) (copies : List CaughtFields) (point i : ℕ) (c : CaughtFields) → slice_get copies i ≡ Some c → (is_at ring point c && begins_there ring (past_of copies i) c) ≡ false
    → most_in ring point (crowd ring) (past_of copies (i + 1)) ≡ most_in ring point (crowd ring) (past_of copies i)
most_still ring copies point i c here nothing =
    ap (most_in ring point (crowd ring)) (past_more copies i c here) ∙ by_tests (is_at ring point c) (begins_there ring (past_of copies i) c) nothing _
  where
    old : ℕ
    old = most_in ring point (crowd ring) (past_of copies i)

    by_tests : (a b : Bool) → (a && b) ≡ false → (n : ℕ) → max (cond a (cond b n 0) 0) old ≡ old
    by_tests true true both n = absurd cc
    by_tests true false nothing n = omega arith
    by_tests false b nothing n = omega arith

pub still_crowding : (ring : Ring) (copies : List CaughtFields) (point i : ℕ) (c : CaughtFields) (things : List Begun) (from : ℕ) (most : Crowd) → slice_get copies i ≡ Some c
    → (is_at ring point c && begins_there ring (past_of copies i) c) ≡ false → IsCrowding ring copies point i things from most → IsCrowding ring copies point (i + 1) things from most
still_crowding ring copies point i c things from most here nothing is = record {
  counts = λ test. is.counts test ∙ ap (λ l. length (filter (λ (x : CaughtFields). test x.at) l)) (sym (nothing_new ring copies point i c here nothing));
  rises = is.rises;
  past = λ k n b d at_k le at_n. is.past k n b d at_k (omega (arith, le)) at_n;
  old = λ k n b d below at_k le at_n. is.old k n b d below at_k (omega (arith, le)) at_n;
  within = is.within;
  frames = is.frames ∙ sym (most_still ring copies point i c here nothing);
  begun = subst (λ l. AllZip (IsKeptOf copies) things (reverse l)) (sym (nothing_new ring copies point i c here nothing)) is.begun;
  full = is.full;
}

-- ---- the first of those that are recent

last_of : (d c : CaughtFields) (xs : List CaughtFields) → first_of_past d (xs ++ c ∷ []) ≡ c
last_of d c [] = refl
last_of d c (x ∷ xs) = last_of x c xs

first_recent : (copies : List CaughtFields) (test : ℕ → Bool) (things : List Begun) (begun : List CaughtFields) (found : ℕ) (own : Begun) (d : CaughtFields) → AllZip (IsKeptOf copies) things begun
    → slice_get things found ≡ Some own → test own.at ≡ true → ((k : ℕ) (b : Begun) → k < found → slice_get things k ≡ Some b → test b.at ≡ false)
    → slice_get copies own.copy ≡ Some (first_of_past d (filter (λ (x : CaughtFields). test x.at) (reverse begun)))
first_recent copies test [] begun found own d are here recent old = absurd cc
first_recent copies test (b ∷ things) [] found own d are here recent old = absurd are
first_recent copies test (b ∷ things) (c ∷ begun) zero own d are here recent old =
    let same : b ≡ own = same_Some b own here in
    let is : test c.at ≡ true = sym (ap test are.0.1) ∙ ap (λ (x : Begun). test x.at) same ∙ recent in
    ap (λ (x : Begun). slice_get copies x.copy) (sym same) ∙ are.0.0
    ∙ ap Some (sym (ap (λ l. first_of_past d (filter (λ (x : CaughtFields). test x.at) l)) (reverse-append (c ∷ []) begun)
    ∙ ap (first_of_past d) (filter-append (λ (x : CaughtFields). test x.at) (reverse begun) (c ∷ []) ∙ ap (λ t. filter (λ (x : CaughtFields). test x.at) (reverse begun) ++ cond t (c ∷ []) []) is)
    ∙ last_of d c (filter (λ (x : CaughtFields). test x.at) (reverse begun))))
first_recent copies test (b ∷ things) (c ∷ begun) (suc found) own d are here recent old =
    let is : test c.at ≡ false = sym (ap test are.0.1) ∙ old 0 b (omega arith) refl in
    first_recent copies test things begun found own d are.1 here recent (λ k x below at_k. old (suc k) x (omega (arith, below)) at_k)
    ∙ ap Some (sym (ap (λ l. first_of_past d (filter (λ (x : CaughtFields). test x.at) l)) (reverse-append (c ∷ []) begun)
    ∙ ap (first_of_past d) (filter-append (λ (x : CaughtFields). test x.at) (reverse begun) (c ∷ []) ∙ ap (λ t. filter (λ (x : CaughtFields). test x.at) (reverse begun) ++ cond t (c ∷ []) []) is
    ∙ append-nil (filter (λ (x : CaughtFields). test x.at) (reverse begun)))))

begun_push : (copies : List CaughtFields) (things : List Begun) (begun : List CaughtFields) (b : Begun) (c : CaughtFields) → AllZip (IsKeptOf copies) things begun → IsKeptOf copies b c
    → AllZip (IsKeptOf copies) (things ++ b ∷ []) (begun ++ c ∷ [])
begun_push copies [] [] b c are is = (is, tt)
begun_push copies [] (x ∷ begun) b c are is = absurd are
begun_push copies (t ∷ things) [] b c are is = absurd are
begun_push copies (t ∷ things) (x ∷ begun) b c are is = (are.0, begun_push copies things begun b c are.1 is)

-- no crowd was greater than the most
crowd_at_most : (ring : Ring) (copies : List CaughtFields) (point i k : ℕ) (c : CaughtFields) → k < i → i ≤ length copies → slice_get copies k ≡ Some c → is_at ring point c ≡ true
    → crowd ring (past_of copies k) c ≤ most_in ring point (crowd ring) (past_of copies i)
crowd_at_most ring copies point zero k c below le here place = absurd (omega (arith, below))
crowd_at_most ring copies point (suc i) k c below le here place = by_case (λ before. crowd_at_most ring copies point i k c before (omega (arith, le)) here place) (cases_lt k i)
  where
    next : suc i ≡ i + 1
    next = omega arith

    grown : (x : CaughtFields) → slice_get copies i ≡ Some x
        → most_in ring point (crowd ring) (past_of copies (suc i)) ≡ max (cond (is_at ring point x) (crowd ring (past_of copies i) x) 0) (most_in ring point (crowd ring) (past_of copies i))
    grown x at_i = ap (λ n. most_in ring point (crowd ring) (past_of copies n)) next ∙ ap (most_in ring point (crowd ring)) (past_more copies i x at_i)

    by_copy : crowd ring (past_of copies k) c ≤ most_in ring point (crowd ring) (past_of copies i) → (o : Option CaughtFields) → slice_get copies i ≡ o
        → crowd ring (past_of copies k) c ≤ most_in ring point (crowd ring) (past_of copies (suc i))
    by_copy rest None none = absurd (none_there copies i (omega (arith, le)) none)
    by_copy rest (Some x) at_i = let more = grown x at_i in at_most _ _ _ _ more rest
      where
        at_most : (n m old new : ℕ) → new ≡ max m old → n ≤ old → n ≤ new
        at_most n m old new is less = omega (arith, is, less)

    by_case : (k < i → crowd ring (past_of copies k) c ≤ most_in ring point (crowd ring) (past_of copies i)) → (k < i) ⊎ (i ≤ k)
        → crowd ring (past_of copies k) c ≤ most_in ring point (crowd ring) (past_of copies (suc i))
    by_case rest (inl before) = by_copy (rest before) (slice_get copies i) refl
    by_case rest (inr past) =
        let same : k ≡ i = omega (arith, past, below) in
        let more = grown c (sym (ap (slice_get copies) same) ∙ here) in
        own_most _ _ _ _ (more ∙ ap (λ b. max (cond b (crowd ring (past_of copies i) c) 0) (most_in ring point (crowd ring) (past_of copies i))) place) (ap (λ n. crowd ring (past_of copies n) c) same)
      where
        own_most : (n m old new : ℕ) → new ≡ max m old → n ≡ m → n ≤ new
        own_most n m old new is own = omega (arith, is, own)

-- ---- a copy that begins one

begins_new : (ring : Ring) (copies : List CaughtFields) (point i : ℕ) (c : CaughtFields) → slice_get copies i ≡ Some c → (is_at ring point c && begins_there ring (past_of copies i) c) ≡ true
    → begun_at ring point (past_of copies (i + 1)) ≡ c ∷ begun_at ring point (past_of copies i)
begins_new ring copies point i c here begins =
    ap (begun_at ring point) (past_more copies i c here) ∙ cond-true _ (c ∷ begun_at ring point (past_of copies i)) (begun_at ring point (past_of copies i)) begins

most_new : (ring : Ring) (copies : List CaughtFields) (point i n : ℕ) (c : CaughtFields) → slice_get copies i ≡ Some c → (is_at ring point c && begins_there ring (past_of copies i) c) ≡ true
    → n ≡ length (filter (λ b. is_recent b c) (begun_at ring point (past_of copies (i + 1))))
    → most_in ring point (crowd ring) (past_of copies (i + 1)) ≡ max n (most_in ring point (crowd ring) (past_of copies i))
most_new ring copies point i n c here begins n_is =
    ap (most_in ring point (crowd ring)) (past_more copies i c here)
    ∙ ap (λ a. max (cond a (crowd ring past c) 0) old) parts.0
    ∙ ap (λ b. max (cond b (length (filter (λ x. is_recent x c) (begun_at ring (point_of ring c) (c ∷ past)))) 0) old) parts.1
    ∙ ap (λ p. max (length (filter (λ x. is_recent x c) (begun_at ring p (c ∷ past)))) old) (eqb-true (point_of ring c) point parts.0)
    ∙ ap (λ l. max (length (filter (λ x. is_recent x c) (begun_at ring point l))) old) (sym (past_more copies i c here))
    ∙ ap (λ m. max m old) (sym n_is)
  where
    past : List CaughtFields
    past = past_of copies i

    old : ℕ
    old = most_in ring point (crowd ring) past

    parts : (is_at ring point c ≡ true) × (begins_there ring past c ≡ true)
    parts = and_parts (is_at ring point c) (begins_there ring past c) begins

pub more_crowding : (ring : Ring) (copies : List CaughtFields) (point i : ℕ) (c : CaughtFields) (things new : List Begun) (own : Begun) (from found : ℕ) (most after : Crowd) → AreInTime copies
    → slice_get copies i ≡ Some c → (is_at ring point c && begins_there ring (past_of copies i) c) ≡ true → IsCrowding ring copies point i things from most → own.at ≡ c.at → own.copy ≡ i → new ≡ things ++ own ∷ []
    → IsRecentFrom new from c.at found → after.frames ≡ max (length new - found) most.frames → (length new - found ≤ most.frames → after ≡ most)
    → (most.frames < length new - found → (b : Begun) → slice_get new found ≡ Some b → after.first ≡ b.copy) → IsCrowding ring copies point (i + 1) new found after
more_crowding ring copies point i c things new own from found most after time here begins is own_at own_copy new_is recent after_is kept first = record {
  counts = counts;
  rises = λ j k a b before at_j at_k. rises j k a b before (pushed j a at_j) (pushed k b at_k) at_k;
  past = λ k n b d at_k le at_n. past k n b d (pushed k b at_k) le at_n;
  old = λ k n b d below at_k le at_n. far k n b d (cases_lt k from) below at_k (omega (arith, le)) at_n;
  within = recent.within;
  frames = after_is ∙ ap (max (length new - found)) is.frames ∙ sym (most_new ring copies point i (length new - found) c here begins number);
  begun = begun;
  full = λ some. by_most some (cases_lt most.frames (length new - found));
}
  where
    pushed : (k : ℕ) (b : Begun) → slice_get new k ≡ Some b → (slice_get things k ≡ Some b) ⊎ ((k ≡ length things) × (b ≡ own))
    pushed k b at_k = slice_get_push things own b k (ap (λ l. slice_get l k) (sym new_is) ∙ at_k)

    long : length new ≡ length things + 1
    long = ap length new_is ∙ length_push things own

    counts : (test : ℕ → Bool) → length (filter (λ (b : Begun). test b.at) new) ≡ length (filter (λ (x : CaughtFields). test x.at) (begun_at ring point (past_of copies (i + 1))))
    counts test =
        ap (λ l. length (filter (λ (b : Begun). test b.at) l)) new_is ∙ count_push (λ (b : Begun). test b.at) things own
        ∙ ap (λ n. n + cond (test own.at) 1 0) (is.counts test)
        ∙ ap (λ at. length (filter (λ (x : CaughtFields). test x.at) (begun_at ring point (past_of copies i))) + cond (test at) 1 0) own_at
        ∙ sym (count_cons (λ (x : CaughtFields). test x.at) c (begun_at ring point (past_of copies i)))
        ∙ ap (λ l. length (filter (λ (x : CaughtFields). test x.at) l)) (sym (begins_new ring copies point i c here begins))

    rises : (j k : ℕ) (a b : Begun) → j < k → (slice_get things j ≡ Some a) ⊎ ((j ≡ length things) × (a ≡ own)) → (slice_get things k ≡ Some b) ⊎ ((k ≡ length things) × (b ≡ own))
        → slice_get new k ≡ Some b → a.at ≤ b.at
    rises j k a b before (inl old_a) (inl old_b) at_k = is.rises j k a b before old_a old_b
    rises j k a b before (inl old_a) (inr own_b) at_k =
        let le = is.past j i a c old_a (omega arith) here in
        omega (arith, le, own_at, ap (λ (x : Begun). x.at) own_b.1)
    rises j k a b before (inr own_a) last at_k =
        let below : k < length new = slice_get_within new k b at_k in
        absurd (omega (arith, below, long, before, own_a.0))

    past : (k n : ℕ) (b : Begun) (d : CaughtFields) → (slice_get things k ≡ Some b) ⊎ ((k ≡ length things) × (b ≡ own)) → i + 1 ≤ n → slice_get copies n ≡ Some d → b.at ≤ d.at
    past k n b d (inl old_b) le at_n = is.past k n b d old_b (omega (arith, le)) at_n
    past k n b d (inr own_b) le at_n =
        let no_later = in_order copies time i n c d (omega (arith, le)) here at_n in
        omega (arith, no_later, own_at, ap (λ (x : Begun). x.at) own_b.1)

    front : (k : ℕ) (b : Begun) → k < from → (slice_get things k ≡ Some b) ⊎ ((k ≡ length things) × (b ≡ own)) → slice_get things k ≡ Some b
    front k b before (inl was) = was
    front k b before (inr own_b) = absurd (omega (arith, own_b.0, before, is.within))

    far : (k n : ℕ) (b : Begun) (d : CaughtFields) → (k < from) ⊎ (from ≤ k) → k < found → slice_get new k ≡ Some b → i ≤ n → slice_get copies n ≡ Some d → b.at + forget_time ≤ d.at
    far k n b d (inl before) below at_k le at_n = is.old k n b d before (front k b before (pushed k b at_k)) le at_n
    far k n b d (inr from_k) below at_k le at_n =
        let old = recent.old k b from_k below at_k in
        let no_later = in_order copies time i n c d le here at_n in
        omega (arith, old, no_later)

    is_old : (k : ℕ) (b : Begun) → k < found → slice_get new k ≡ Some b → nat_lt (c.at - b.at) forget_time ≡ false
    is_old k b below at_k = let old = far k i b c (cases_lt k from) below at_k (omega arith) here in le-ltb (c.at - b.at) forget_time (omega (arith, old))

    near : (k : ℕ) (b first : Begun) → c.at < first.at + forget_time → slice_get new found ≡ Some first → slice_get new k ≡ Some b → found ≤ k → (found < k) ⊎ (k ≤ found)
        → nat_lt (c.at - b.at) forget_time ≡ true
    near k b first soon at_first at_k from_found (inl before) =
        let le = rises found k first b before (pushed found first at_first) (pushed k b at_k) at_k in
        lt-ltb (c.at - b.at) forget_time (omega (arith, soon, le))
    near k b first soon at_first at_k from_found (inr past_found) =
        let place : found ≡ k = omega (arith, past_found, from_found) in
        let same : first ≡ b = same_Some first b (sym at_first ∙ ap (slice_get new) place ∙ at_k) in
        lt-ltb (c.at - b.at) forget_time (omega (arith, soon, ap (λ (x : Begun). x.at) same))

    is_new : (k : ℕ) (b : Begun) → found ≤ k → slice_get new k ≡ Some b → nat_lt (c.at - b.at) forget_time ≡ true
    is_new k b from_found at_k =
        let below : k < length new = slice_get_within new k b at_k in
        let at_first : slice_get new found ≡ Some (get_or new found b) = slice_get-get_or new found b (omega (arith, below, from_found)) in
        near k b (get_or new found b) (recent.recent (get_or new found b) at_first) at_first at_k from_found (cases_lt found k)

    number : length new - found ≡ length (filter (λ b. is_recent b c) (begun_at ring point (past_of copies (i + 1))))
    number =
        let sum = suffix_count (λ (b : Begun). nat_lt (c.at - b.at) forget_time) new found recent.within is_old is_new in
        let same = counts (λ at. nat_lt (c.at - at) forget_time) in
        omega (arith, sum, same)

    begun : AllZip (IsKeptOf copies) new (reverse (begun_at ring point (past_of copies (i + 1))))
    begun =
        subst (λ l. AllZip (IsKeptOf copies) new (reverse l)) (sym (begins_new ring copies point i c here begins))
        (subst (AllZip (IsKeptOf copies) new) (sym (reverse-append (c ∷ []) (begun_at ring point (past_of copies i))))
        (subst (λ l. AllZip (IsKeptOf copies) l (reverse (begun_at ring point (past_of copies i)) ++ c ∷ [])) (sym new_is)
        (begun_push copies things (reverse (begun_at ring point (past_of copies i))) own c is.begun (ap (slice_get copies) own_copy ∙ here, own_at))))

    parts : (is_at ring point c ≡ true) × (begins_there ring (past_of copies i) c ≡ true)
    parts = and_parts (is_at ring point c) (begins_there ring (past_of copies i) c) begins

    place : point_of ring c ≡ point
    place = eqb-true (point_of ring c) point parts.0

    recents : filter (λ b. is_recent b c) (begun_at ring point (past_of copies (i + 1))) ≡ filter (λ b. is_recent b c) (begun_at ring (point_of ring c) (c ∷ past_of copies i))
    recents = ap (λ l. filter (λ b. is_recent b c) (begun_at ring point l)) (past_more copies i c here) ∙ ap (λ p. filter (λ b. is_recent b c) (begun_at ring p (c ∷ past_of copies i))) (sym place)

    crowd_is : crowd ring (past_of copies i) c ≡ length new - found
    crowd_is =
        ap (λ b. cond b (length (filter (λ x. is_recent x c) (begun_at ring (point_of ring c) (c ∷ past_of copies i)))) 0) parts.1
        ∙ sym (ap length recents) ∙ sym number

    first_is : most.frames < length new - found → slice_get copies after.first ≡ Some (first_crowded ring (past_of copies i) c)
    first_is less =
        let at_found : slice_get new found ≡ Some (get_or new found own) = slice_get-get_or new found own (omega (arith, less)) in
        ap (slice_get copies) (first less (get_or new found own) at_found)
        ∙ first_recent copies (λ at. nat_lt (c.at - at) forget_time) new (reverse (begun_at ring point (past_of copies (i + 1)))) found (get_or new found own) c begun at_found
        (is_new found (get_or new found own) (omega arith) at_found) is_old
        ∙ ap (λ l. Some (first_of_past c (filter (λ b. is_recent b c) l))) (reverse-reverse (begun_at ring point (past_of copies (i + 1)))) ∙ ap (λ l. Some (first_of_past c l)) recents

    by_most : 0 < after.frames → (most.frames < length new - found) ⊎ (length new - found ≤ most.frames) → IsFull ring copies point after
    by_most some (inl less) = record {
      last = i;
      copy = c;
      there = here;
      place = place;
      frames = omega (arith, crowd_is, after_is, less);
      sooner = λ k x before at_k at_point.
          let inside = slice_get_within copies i c here in
          let most_is = crowd_at_most ring copies point i k x before (omega (arith, inside)) at_k (eq-eqb (point_of ring x) point at_point) in
          omega (arith, most_is, is.frames, after_is, less);
      first = first_is less;
    }
    by_most some (inr no_more) = let same = kept no_more in subst (IsFull ring copies point) (sym same) (is.full (omega (arith, some, ap (λ (x : Crowd). x.frames) same)))

-- the end of the list is recent
pub recent_within : (things new : List Begun) (own : Begun) (from at found : ℕ) → new ≡ things ++ own ∷ [] → own.at ≡ at → from ≤ length things → IsRecentFrom new from at found → found < length new
recent_within things new own from at found new_is own_at within recent = by_case (cases_lt found (length new))
  where
    long : length new ≡ length things + 1
    long = ap length new_is ∙ length_push things own

    by_case : (found < length new) ⊎ (length new ≤ found) → found < length new
    by_case (inl below) = below
    by_case (inr past) =
        let last : slice_get new (length things) ≡ Some own = ap (λ l. slice_get l (length things)) new_is ∙ slice_get_end things own (length things) refl in
        let old = recent.old (length things) own within (omega (arith, past, long)) last in
        absurd (omega (arith, old, own_at))

-- a copy at an index that begins no frame there
pub still_at : (ring : Ring) (copies : List CaughtFields) (point i : ℕ) (begins : Bool) (things : List Begun) (from : ℕ) (most : Crowd) → i < length copies → begins ≡ false
    → ((c : CaughtFields) → slice_get copies i ≡ Some c → begins ≡ (is_at ring point c && begins_there ring (past_of copies i) c)) → IsCrowding ring copies point i things from most
    → IsCrowding ring copies point (i + 1) things from most
still_at ring copies point i begins things from most inside nothing begins_is is = by_copy (slice_get copies i) refl
  where
    by_copy : (o : Option CaughtFields) → slice_get copies i ≡ o → IsCrowding ring copies point (i + 1) things from most
    by_copy None none = absurd (none_there copies i inside none)
    by_copy (Some c) here = still_crowding ring copies point i c things from most here (sym (begins_is c here) ∙ nothing) is

-- ---- what is kept is told by copies

pub kept_at : (copies : List CaughtFields) (numbers : List ℕ) (k n : ℕ) (b : Begun) → slice_get numbers k ≡ Some n → slice_get (map (begun_by copies) numbers) k ≡ Some b
    → b ≡ begun_by copies n
kept_at copies numbers k n b here at_k = same_Some b (begun_by copies n) (sym at_k ∙ slice_get-map (begun_by copies) numbers k ∙ ap (option_map (begun_by copies)) here)

pub kept_copy : (copies : List CaughtFields) (numbers : List ℕ) (k : ℕ) (b : Begun) → slice_get (map (begun_by copies) numbers) k ≡ Some b → slice_get numbers k ≡ Some b.copy
kept_copy copies numbers k b at_k = by_number (slice_get numbers k) refl (sym (slice_get-map (begun_by copies) numbers k) ∙ at_k)
  where
    by_number : (o : Option ℕ) → slice_get numbers k ≡ o → option_map (begun_by copies) (slice_get numbers k) ≡ Some b → slice_get numbers k ≡ Some b.copy
    by_number None none is = absurd (let clash : option_map (begun_by copies) None ≡ Some b = ap (option_map (begun_by copies)) (sym none) ∙ is in cc)
    by_number (Some n) here is = here ∙ ap (λ (x : Begun). Some x.copy) (same_Some (begun_by copies n) b (ap (option_map (begun_by copies)) (sym here) ∙ is))

pub kept_push : (copies : List CaughtFields) (numbers new : List ℕ) (i : ℕ) → new ≡ numbers ++ i ∷ [] → map (begun_by copies) new ≡ map (begun_by copies) numbers ++ begun_by copies i ∷ []
kept_push copies numbers new i is = ap (map (begun_by copies)) is ∙ map-append (begun_by copies) numbers (i ∷ [])

-- one more that is old
pub old_more : (copies : List CaughtFields) (numbers : List ℕ) (from k at moment : ℕ) → k < length numbers → moment ≡ moment_in (slice_get copies (slice_index numbers k)) → forget_time ≤ at - moment
    → ((j : ℕ) (b : Begun) → from ≤ j → j < k → slice_get (map (begun_by copies) numbers) j ≡ Some b → b.at + forget_time ≤ at)
    → (j : ℕ) (b : Begun) → from ≤ j → j < k + 1 → slice_get (map (begun_by copies) numbers) j ≡ Some b → b.at + forget_time ≤ at
old_more copies numbers from k at moment inside is far old j b le below at_j = by_case (cases_lt j k)
  where
    by_case : (j < k) ⊎ (k ≤ j) → b.at + forget_time ≤ at
    by_case (inl before) = old j b le before at_j
    by_case (inr past) =
        let place : j ≡ k = omega (arith, past, below) in
        let own = kept_at copies numbers k (slice_index numbers k) b (slice_get-get_or numbers k 0 inside) (ap (slice_get (map (begun_by copies) numbers)) (sym place) ∙ at_j) in
        let same : b.at ≡ moment = ap (λ (x : Begun). x.at) own ∙ sym is in
        omega (arith, same, far)

-- ---- the whole

pub no_crowding : (ring : Ring) (copies : List CaughtFields) (point : ℕ) (most : Crowd) → most.frames ≡ 0 → IsCrowding ring copies point 0 [] 0 most
no_crowding ring copies point most none = record {
  counts = λ test. refl;
  rises = λ j k a b before at_j at_k. absurd cc;
  past = λ k n b c at_k le at_n. absurd cc;
  old = λ k n b c below at_k le at_n. absurd cc;
  within = omega arith;
  frames = none;
  begun = tt;
  full = λ some. absurd (omega (arith, none, some));
}

pub whole_crowd : (ring : Ring) (copies : List CaughtFields) (point n : ℕ) (things : List Begun) (from : ℕ) (most : Crowd) → n ≡ length copies → IsCrowding ring copies point n things from most
    → IsCrowd ring copies point most
whole_crowd ring copies point n things from most all_read is = record {
  frames = is.frames ∙ ap (most_in ring point (crowd ring)) (ap reverse (take_all n copies (omega (arith, all_read))));
  full = is.full;
}
