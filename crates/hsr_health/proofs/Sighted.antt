-- From the sightings that the code keeps to those of the definitions: they are the same, one by one.
use Rattle.std.proofs.Common.{◌≡◌, ℕ, zero, suc, ◌+◌, ◌<◌, ◌≤◌, ◌&&◌, ◌||◌, Bool, true, false, cond, List, [], ◌∷◌, ◌++◌, get_or, length, reverse, take, ◌⊎◌, inl, inr, refl, sym, ap, subst, ◌∙◌, arith, Option, Some, None}
use Rattle.std.specs.Prelude.{count_by, filter, is_some, option_map, slice_get}
use Rattle.std.proofs.lemmas.Bool.{cases_lt, eqb-true, cases_order}
use Rattle.std.proofs.lemmas.List.{reverse-append, take_all, take_more}
use Rattle.std.proofs.lemmas.List.Sorted.{IsPermutation-reverse, sum_by-IsPermutation}
use Rattle.std.proofs.lemmas.List.Sums.{sum_by-cons}
use Rattle.std.proofs.lemmas.Option.{get_or_from_slice_get, same_Some, slice_get-get_or, slice_get_within}
use Rattle.hsr_frame_groups.specs.Frames.{CaughtFields, past_of}
use Rattle.hsr_sightings.specs.Copies.{begins_there, first_of_past}
use Rattle.hsr_sightings.specs.Frames.{frame_of}
use Rattle.hsr_sightings.specs.Read.{AreSightings, IsBegun, IsSighting, first_by}
use Rattle.hsr_sightings.specs.Ring.{Ring, goes, point_of}
use Rattle.hsr_sightings.specs.Seen.{came_both, is_edge}
use Rattle.hsr_sightings.specs.Sightings.{Sighting as Seen, came_both_ways, came_by, first_seen, is_at_edge, is_first_at_edge, is_more, sighting, sightings, sightings_in}
use Rattle.hsr_sightings.specs.Fields.{Sighting}
use Rattle.hsr_sightings.proofs.Demanding.{begins_by, first_is}
use Rattle.hsr_sightings.proofs.Gathering.{has_seen}
use Rattle.hsr_sightings.proofs.Indexes.{none_there}
use Rattle.hsr_health.proofs.Pasts.{past_more}

-- ---- one sighting

pub record IsSeenAs (ring : Ring) (copies : List CaughtFields) (s : Sighting) (t : Seen) : Type 0 where
  pub first : slice_get copies s.first ≡ Some t.first
  pub at : s.at ≡ t.first.at
  pub point : s.point ≡ t.point
  pub by_0 : s.by_0 ≡ first_by ring 0 t.copies
  pub by_1 : s.by_1 ≡ first_by ring 1 t.copies
  pub more : s.is_more ≡ is_more t.copies
  pub some : 0 < length t.copies
  pub began : (d : CaughtFields) → first_of_past d t.copies ≡ t.first

-- the sighting that a copy begins
abbrev pub seen_from : Ring → List CaughtFields → ℕ → CaughtFields → Seen
seen_from ring copies i c = record { first = c; point = point_of ring c; copies = sighting ring (reverse copies) (frame_of (past_of copies i) c) (point_of ring c) }

seen_as : (ring : Ring) (copies : List CaughtFields) (i : ℕ) (c : CaughtFields) (s : Sighting) → slice_get copies i ≡ Some c → s.first ≡ i → IsBegun ring copies (reverse copies) s
    → IsSeenAs ring copies s (seen_from ring copies i c)
seen_as ring copies i c s here place begun = record {
  first = ap (slice_get copies) place ∙ here;
  at = is.at;
  point = is.point;
  by_0 = is.by_0;
  by_1 = is.by_1;
  more = is.is_more;
  some = subst (λ l. 0 < length (sighting ring l (frame_of (past_of copies i) c) (point_of ring c))) whole
      (has_seen ring copies (frame_of (past_of copies i) c) (point_of ring c) i (length copies) c inside (omega arith) here refl refl);
  began = λ d. subst (λ l. first_of_past d (sighting ring l (frame_of (past_of copies i) c) (point_of ring c)) ≡ c) whole (first_is ring copies i (length copies) c d here begins inside (omega arith));
}
  where
    inside : i < length copies
    inside = slice_get_within copies i c here

    whole : past_of copies (length copies) ≡ reverse copies
    whole = ap reverse (take_all (length copies) copies (omega arith))

    copy_is : begun.copy ≡ c
    copy_is = same_Some begun.copy c (sym begun.there ∙ ap (slice_get copies) place ∙ here)

    is : IsSighting ring copies (reverse copies) i c s
    is = subst (λ x. IsSighting ring copies (reverse copies) i x s) copy_is (subst (λ m. IsSighting ring copies (reverse copies) m begun.copy s) place begun.is)

    begins : begins_there ring (past_of copies i) c ≡ true
    begins = subst (λ x. begins_there ring (past_of copies i) x ≡ true) copy_is (subst (λ m. begins_there ring (past_of copies m) begun.copy ≡ true) place begun.begins)

-- ---- all of them

abbrev pub AreSeenAs : Ring → List CaughtFields → List Sighting → List Seen → Type 0
AreSeenAs ring copies [] [] = Unit {0}
AreSeenAs ring copies [] (t ∷ seen) = ⊥
AreSeenAs ring copies (s ∷ all) [] = ⊥
AreSeenAs ring copies (s ∷ all) (t ∷ seen) = IsSeenAs ring copies s t × AreSeenAs ring copies all seen

pub seen_push : (ring : Ring) (copies : List CaughtFields) (all : List Sighting) (seen : List Seen) (s : Sighting) (t : Seen) → AreSeenAs ring copies all seen → IsSeenAs ring copies s t
    → AreSeenAs ring copies (all ++ s ∷ []) (seen ++ t ∷ [])
seen_push ring copies [] [] s t are is = (is, tt)
seen_push ring copies [] (u ∷ seen) s t are is = absurd are
seen_push ring copies (r ∷ all) [] s t are is = absurd are
seen_push ring copies (r ∷ all) (u ∷ seen) s t are is = (are.0, seen_push ring copies all seen s t are.1 is)

-- those that copies before a place began
record IsSeenTo (ring : Ring) (copies : List CaughtFields) (all : List Sighting) (i : ℕ) : Type 0 where
  many : ℕ
  within : many ≤ length all
  seen : AreSeenAs ring copies (take many all) (reverse (sightings_in ring (reverse copies) (past_of copies i)))
  below : (k : ℕ) (s : Sighting) → k < many → slice_get all k ≡ Some s → s.first < i
  above : (k : ℕ) (s : Sighting) → many ≤ k → slice_get all k ≡ Some s → i ≤ s.first

-- the sighting of a copy, by its number
record IsFound (all : List Sighting) (of_copy : List ℕ) (i k : ℕ) : Type 0 where
  seen : Sighting
  number : slice_get of_copy i ≡ Some k
  numbered : slice_get all k ≡ Some seen

-- a copy that begins one
begun_step : (ring : Ring) (copies : List CaughtFields) (all : List Sighting) (of_copy : List ℕ) (i : ℕ) (c : CaughtFields) → AreSightings ring copies all of_copy → slice_get copies i ≡ Some c
    → begins_there ring (past_of copies i) c ≡ true → IsSeenTo ring copies all i → IsSeenTo ring copies all (i + 1)
begun_step ring copies all of_copy i c are here begins to = record {
  many = to.many + 1;
  within = omega (arith, inside, place);
  seen = subst (AreSeenAs ring copies (take (to.many + 1) all)) (sym grown) (subst (λ l. AreSeenAs ring copies l (reverse before ++ seen_from ring copies i c ∷ [])) (sym taken)
      (seen_push ring copies (take to.many all) (reverse before) own.1.seen (seen_from ring copies i c) to.seen (seen_as ring copies i c own.1.seen here first (are.each own.0 own.1.seen own.1.numbered))));
  below = λ k s less at_k. by_place k s at_k (cases_lt k to.many) less;
  above = λ k s from at_k. let rise = are.order own.0 k own.1.seen s (omega (arith, from, place)) own.1.numbered at_k in omega (arith, rise, first);
}
  where
    before : List Seen
    before = sightings_in ring (reverse copies) (past_of copies i)

    own : (k : ℕ) × IsFound all of_copy i k
    own = let of_c = are.own i c here in (of_c.0, record { seen = of_c.2.seen; number = of_c.1; numbered = of_c.2.numbered })

    first : own.1.seen.first ≡ i
    first = eqb-true own.1.seen.first i (begins_by ring copies all of_copy i own.0 c own.1.seen are here own.1.number own.1.numbered ∙ begins)

    inside : own.0 < length all
    inside = slice_get_within all own.0 own.1.seen own.1.numbered

    place : own.0 ≡ to.many
    place = by_order (cases_order own.0 to.many)
      where
        by_order : (own.0 ≡ to.many) ⊎ ((own.0 < to.many) ⊎ (to.many < own.0)) → own.0 ≡ to.many
        by_order (inl same) = same
        by_order (inr (inl less)) = let earlier = to.below own.0 own.1.seen less own.1.numbered in absurd (omega (arith, earlier, first))
        by_order (inr (inr more)) =
            let at_many = slice_get-get_or all to.many own.1.seen (omega (arith, more, inside)) in
            let rise = are.order to.many own.0 (get_or all to.many own.1.seen) own.1.seen more at_many own.1.numbered in
            let later = to.above to.many (get_or all to.many own.1.seen) (omega arith) at_many in
            absurd (omega (arith, rise, later, first))

    at_many : slice_get all to.many ≡ Some own.1.seen
    at_many = ap (slice_get all) (sym place) ∙ own.1.numbered

    taken : take (to.many + 1) all ≡ take to.many all ++ own.1.seen ∷ []
    taken = take_more all to.many own.1.seen (slice_get_within all to.many own.1.seen at_many) ∙ ap (λ x. take to.many all ++ x ∷ []) (get_or_from_slice_get all to.many own.1.seen own.1.seen at_many)

    grown : reverse (sightings_in ring (reverse copies) (past_of copies (i + 1))) ≡ reverse before ++ seen_from ring copies i c ∷ []
    grown =
        ap (λ past. reverse (sightings_in ring (reverse copies) past)) (past_more copies i c here)
        ∙ ap (λ b. reverse (cond b (seen_from ring copies i c ∷ before) before)) begins ∙ reverse-append (seen_from ring copies i c ∷ []) before

    by_place : (k : ℕ) (s : Sighting) → slice_get all k ≡ Some s → (k < to.many) ⊎ (to.many ≤ k) → k < to.many + 1 → s.first < i + 1
    by_place k s at_k (inl less) le = let earlier = to.below k s less at_k in omega (arith, earlier)
    by_place k s at_k (inr past) le =
        let same : k ≡ to.many = omega (arith, past, le) in
        let its : s ≡ own.1.seen = same_Some s own.1.seen (sym at_k ∙ ap (slice_get all) same ∙ at_many) in
        omega (arith, ap (λ (x : Sighting). x.first) its, first)

-- a copy that begins none
other_step : (ring : Ring) (copies : List CaughtFields) (all : List Sighting) (of_copy : List ℕ) (i : ℕ) (c : CaughtFields) → AreSightings ring copies all of_copy → slice_get copies i ≡ Some c
    → begins_there ring (past_of copies i) c ≡ false → IsSeenTo ring copies all i → IsSeenTo ring copies all (i + 1)
other_step ring copies all of_copy i c are here begins to = record {
  many = to.many;
  within = to.within;
  seen = subst (λ l. AreSeenAs ring copies (take to.many all) (reverse l)) (sym still) to.seen;
  below = λ k s less at_k. let earlier = to.below k s less at_k in omega (arith, earlier);
  above = λ k s from at_k. let later = to.above k s from at_k in let apart = other k s at_k in omega (arith, later, apart);
}
  where
    still : sightings_in ring (reverse copies) (past_of copies (i + 1)) ≡ sightings_in ring (reverse copies) (past_of copies i)
    still =
        ap (sightings_in ring (reverse copies)) (past_more copies i c here)
        ∙ ap (λ b. cond b (seen_from ring copies i c ∷ sightings_in ring (reverse copies) (past_of copies i)) (sightings_in ring (reverse copies) (past_of copies i))) begins

    other : (k : ℕ) (s : Sighting) → slice_get all k ≡ Some s → s.first ≡ i → ⊥
    other k s at_k same =
        let begun = are.each k s at_k in
        let copy_is : begun.copy ≡ c = same_Some begun.copy c (sym begun.there ∙ ap (slice_get copies) same ∙ here) in
        let clash : true ≡ false = sym begun.begins ∙ ap (λ m. begins_there ring (past_of copies m) begun.copy) same ∙ ap (begins_there ring (past_of copies i)) copy_is ∙ begins in
        absurd cc

seen_to : (ring : Ring) (copies : List CaughtFields) (all : List Sighting) (of_copy : List ℕ) → AreSightings ring copies all of_copy → (i : ℕ) → i ≤ length copies → IsSeenTo ring copies all i
seen_to ring copies all of_copy are zero le = record {
  many = 0;
  within = omega arith;
  seen = tt;
  below = λ k s less at_k. absurd (omega (arith, less));
  above = λ k s from at_k. omega arith;
}
seen_to ring copies all of_copy are (suc i) le = by_copy (seen_to ring copies all of_copy are i (omega (arith, le))) (slice_get copies i) refl
  where
    next : i + 1 ≡ suc i
    next = omega arith

    by_begins : IsSeenTo ring copies all i → (c : CaughtFields) → slice_get copies i ≡ Some c → (b : Bool) → begins_there ring (past_of copies i) c ≡ b → IsSeenTo ring copies all (i + 1)
    by_begins to c here true begins = begun_step ring copies all of_copy i c are here begins to
    by_begins to c here false begins = other_step ring copies all of_copy i c are here begins to

    by_copy : IsSeenTo ring copies all i → (o : Option CaughtFields) → slice_get copies i ≡ o → IsSeenTo ring copies all (suc i)
    by_copy to None none = absurd (none_there copies i (omega (arith, le)) none)
    by_copy to (Some c) here = subst (IsSeenTo ring copies all) next (by_begins to c here (begins_there ring (past_of copies i) c) refl)

gone : (all : List Sighting) (k : ℕ) → k < length all → slice_get all k ≡ None → ⊥
gone [] k below none = omega (arith, below)
gone (s ∷ all) zero below none = absurd cc
gone (s ∷ all) (suc k) below none = gone all k (omega (arith, below)) none

-- all sightings are those of the definitions, from the first to the latest
pub all_seen : (ring : Ring) (copies : List CaughtFields) (all : List Sighting) (of_copy : List ℕ) → AreSightings ring copies all of_copy
    → AreSeenAs ring copies all (reverse (sightings ring (reverse copies)))
all_seen ring copies all of_copy are =
    subst (λ l. AreSeenAs ring copies l (reverse (sightings ring (reverse copies)))) (take_all to.many all every)
    (subst (λ past. AreSeenAs ring copies (take to.many all) (reverse (sightings_in ring (reverse copies) past))) whole to.seen)
  where
    to : IsSeenTo ring copies all (length copies)
    to = seen_to ring copies all of_copy are (length copies) (omega arith)

    whole : past_of copies (length copies) ≡ reverse copies
    whole = ap reverse (take_all (length copies) copies (omega arith))

    every : length all ≤ to.many
    every = by_case (cases_lt to.many (length all))
      where
        by_sighting : to.many < length all → (o : Option Sighting) → slice_get all to.many ≡ o → length all ≤ to.many
        by_sighting less None none = absurd (gone all to.many less none)
        by_sighting less (Some s) at_many =
            let later = to.above to.many s (omega arith) at_many in
            let begun = are.each to.many s at_many in
            let inside = slice_get_within copies s.first begun.copy begun.there in
            absurd (omega (arith, later, inside))

        by_case : (to.many < length all) ⊎ (length all ≤ to.many) → length all ≤ to.many
        by_case (inl less) = by_sighting less (slice_get all to.many) refl
        by_case (inr past) = past

-- ---- counts

count_seen : (ring : Ring) (copies : List CaughtFields) (test : Sighting → Bool) (def : Seen → Bool) (all : List Sighting) (seen : List Seen)
    → ((s : Sighting) (t : Seen) → IsSeenAs ring copies s t → test s ≡ def t) → AreSeenAs ring copies all seen → count_by test all ≡ count_by def seen
count_seen ring copies test def [] [] same are = refl
count_seen ring copies test def [] (t ∷ seen) same are = absurd are
count_seen ring copies test def (s ∷ all) [] same are = absurd are
count_seen ring copies test def (s ∷ all) (t ∷ seen) same are =
    sum_by-cons (λ x. cond (test x) 1 0) s all
    ∙ ap (λ b. cond b 1 0 + count_by test all) (same s t are.0)
    ∙ ap (λ n. cond (def t) 1 0 + n) (count_seen ring copies test def all seen same are.1) ∙ sym (sum_by-cons (λ x. cond (def x) 1 0) t seen)

-- how many are such, by definition
pub count_all : (ring : Ring) (copies : List CaughtFields) (all : List Sighting) (of_copy : List ℕ) (test : Sighting → Bool) (def : Seen → Bool) → AreSightings ring copies all of_copy
    → ((s : Sighting) (t : Seen) → IsSeenAs ring copies s t → test s ≡ def t) → count_by test all ≡ count_by def (sightings ring (reverse copies))
count_all ring copies all of_copy test def are same =
    count_seen ring copies test def all (reverse (sightings ring (reverse copies))) same (all_seen ring copies all of_copy are)
    ∙ sum_by-IsPermutation (λ t. cond (def t) 1 0) (sightings ring (reverse copies)) (reverse (sightings ring (reverse copies))) (IsPermutation-reverse (sightings ring (reverse copies)))

-- ---- fates

pub is_first : (ring : Ring) (way : ℕ) (seen : List CaughtFields) → is_some (first_by ring way seen) ≡ came_by ring way seen
is_first ring way [] = refl
is_first ring way (c ∷ seen) = by_case (goes ring way c) (is_first ring way seen)
  where
    by_case : (b : Bool) → is_some (first_by ring way seen) ≡ came_by ring way seen
        → is_some (option_map (λ (x : CaughtFields). x.at) (first_seen (cond b (c ∷ filter (goes ring way) seen) (filter (goes ring way) seen)))) ≡ (b || came_by ring way seen)
    by_case true rest = refl
    by_case false rest = rest

pub came_same : (ring : Ring) (copies : List CaughtFields) (s : Sighting) (t : Seen) → IsSeenAs ring copies s t → came_both s ≡ came_both_ways ring t.copies
came_same ring copies s t is =
    ap (λ o. is_some o && is_some s.by_1) is.by_0 ∙ ap (λ o. is_some (first_by ring 0 t.copies) && is_some o) is.by_1
    ∙ ap (λ b. b && is_some (first_by ring 1 t.copies)) (is_first ring 0 t.copies) ∙ ap (λ b. came_by ring 0 t.copies && b) (is_first ring 1 t.copies)

pub edge_same : (ring : Ring) (copies : List CaughtFields) (s : Sighting) (t : Seen) → IsSeenAs ring copies s t → is_edge ring s.at ≡ is_first_at_edge ring t.copies
edge_same ring copies s t is = ap (is_edge ring) is.at ∙ by_copies t.copies is.some is.began
  where
    by_copies : (seen : List CaughtFields) → 0 < length seen → ((d : CaughtFields) → first_of_past d seen ≡ t.first) → is_edge ring t.first.at ≡ is_first_at_edge ring seen
    by_copies [] some began = absurd (omega (arith, some))
    by_copies (c ∷ seen) some began = ap (is_at_edge ring) (sym (began c))
