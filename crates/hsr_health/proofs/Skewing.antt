-- The skews of a source, by definition.
use Rattle.std.proofs.Common.{◌≡◌, ℕ, ◌/◌, Bool, true, false, cond, List, [], ◌∷◌, ◌++◌, map, reverse, ◌⊎◌, inl, inr, refl, sym, ap, subst, ◌∙◌, arith, Option, Some, None}
use Rattle.std.specs.List.{cons_option}
use Rattle.std.specs.Prelude.{nat_eq, filter, filter_map, option_map, slice_get, slice_index, IsPermutation}
use Rattle.std.proofs.lemmas.Bool.{cases_eq, eq-eqb, ne_eqb}
use Rattle.std.proofs.lemmas.List.{reverse-append}
use Rattle.std.proofs.lemmas.List.Elements.{filter-append, filter_map-append}
use Rattle.std.proofs.lemmas.List.Sorted.{IsPermutation-reverse, IsPermutation-trans, length_permutation}
use Rattle.std.proofs.lemmas.Option.{same_Some, slice_get-get_or, slice_get_within}
use Rattle.hsr_frame_groups.specs.Frames.{CaughtFields}
use Rattle.hsr_sightings.specs.Read.{AreSightings}
use Rattle.hsr_sightings.specs.Ring.{Ring, goes}
use Rattle.hsr_sightings.specs.Seen.{skew_of}
use Rattle.hsr_sightings.specs.Sightings.{Sighting as Seen, apart, first_seen, sightings, skew}
use Rattle.hsr_sightings.specs.Fields.{Sighting}
use Rattle.hsr_health.specs.Counted.{AreSources, is_of, skews_of, told_by}
use Rattle.hsr_spread.specs.Spreads.{IsSpread, amounts_of}
use Rattle.hsr_spread.specs.declared.spread.Spread.{Spread}
use Rattle.hsr_spread.specs.declared.spread.Told.{Told}
use Rattle.hsr_health.proofs.Sighted.{AreSeenAs, IsSeenAs, all_seen}
use Rattle.hsr_health.proofs.Sourcing.{is_other, is_own}

-- ---- one sighting

skew_parts : (s : Sighting) (a b : Option CaughtFields) → s.by_0 ≡ option_map (λ c. c.at) a → s.by_1 ≡ option_map (λ c. c.at) b → skew_of s ≡ apart a b
skew_parts s None b is_0 is_1 = rw is_0 refl
skew_parts s (Some c) None is_0 is_1 = rw (is_0, is_1) refl
skew_parts s (Some c) (Some d) is_0 is_1 = rw (is_0, is_1) refl

skew_same : (ring : Ring) (copies : List CaughtFields) (s : Sighting) (t : Seen) → IsSeenAs ring copies s t → skew_of s ≡ skew ring t.copies
skew_same ring copies s t is = skew_parts s (first_seen (filter (goes ring 0) t.copies)) (first_seen (filter (goes ring 1) t.copies)) is.by_0 is.by_1

-- a copy is of the source with an index
pub owner_same : (copies : List CaughtFields) (macs : List (List ℕ)) (of_copy : List ℕ) (k j : ℕ) (mac : List ℕ) (c : CaughtFields) → AreSources copies macs of_copy → slice_get macs k ≡ Some mac
    → slice_get copies j ≡ Some c → nat_eq (slice_index of_copy j) k ≡ is_of mac c
owner_same copies macs of_copy k j mac c sources mac_k here = by_case (cases_eq (slice_index of_copy j) k)
  where
    its : slice_get macs (slice_index of_copy j) ≡ Some c.copy.src
    its =
        let inside = slice_get_within copies j c here in
        sources.each j (slice_index of_copy j) c here (slice_get-get_or of_copy j 0 (omega (arith, inside, sources.long)))

    by_case : (slice_index of_copy j ≡ k) ⊎ (slice_index of_copy j ≡ k → ⊥) → nat_eq (slice_index of_copy j) k ≡ is_of mac c
    by_case (inl same) =
        let mine : mac ≡ c.copy.src = same_Some mac c.copy.src (sym mac_k ∙ ap (slice_get macs) (sym same) ∙ its) in
        eq-eqb (slice_index of_copy j) k same ∙ sym (ap (λ m. is_of m c) mine ∙ is_own c)
    by_case (inr other) =
        ne_eqb (slice_index of_copy j) k other ∙ sym (is_other mac c (λ e. other (sources.once (slice_index of_copy j) k mac (its ∙ ap Some e) mac_k)))

-- ---- all of them

-- in microseconds, of those of a source
abbrev pub skews_in : Ring → List ℕ → List Seen → List ℕ
skews_in ring mac seen = filter_map (λ s. option_map (λ n. n / 1000) (skew ring s.copies)) (filter (λ s. is_of mac s.first) seen)

skews_seen : (ring : Ring) (copies : List CaughtFields) (macs : List (List ℕ)) (of_copy : List ℕ) (k : ℕ) (mac : List ℕ) → AreSources copies macs of_copy → slice_get macs k ≡ Some mac
    → (all : List Sighting) (seen : List Seen) → AreSeenAs ring copies all seen → amounts_of k (filter_map (told_by of_copy) all) ≡ skews_in ring mac seen
skews_seen ring copies macs of_copy k mac sources mac_k [] [] are = refl
skews_seen ring copies macs of_copy k mac sources mac_k [] (t ∷ seen) are = absurd are
skews_seen ring copies macs of_copy k mac sources mac_k (s ∷ all) [] are = absurd are
skews_seen ring copies macs of_copy k mac sources mac_k (s ∷ all) (t ∷ seen) are =
    ap (λ o. amounts_of k (cons_option (option_map told o) rest)) (skew_same ring copies s t are.0)
    ∙ by_skew (skew ring t.copies) refl (is_of mac t.first) (owner_same copies macs of_copy k s.first mac t.first sources mac_k are.0.first)
    (skews_seen ring copies macs of_copy k mac sources mac_k all seen are.1)
  where
    told : ℕ → Told
    told n = record { of = slice_index of_copy s.first; amount = n / 1000 }

    rest : List Told
    rest = filter_map (told_by of_copy) all

    others : List Told
    others = filter (λ x. nat_eq x.of k) rest

    with_one : Option ℕ → List ℕ
    with_one o = cons_option (option_map (λ n. n / 1000) o) (skews_in ring mac seen)

    by_skew : (o : Option ℕ) → skew ring t.copies ≡ o → (mine : Bool) → nat_eq (slice_index of_copy s.first) k ≡ mine → amounts_of k rest ≡ skews_in ring mac seen
        → amounts_of k (cons_option (option_map told o) rest)
        ≡ filter_map (λ x. option_map (λ n. n / 1000) (skew ring x.copies)) (cond mine (t ∷ filter (λ x. is_of mac x.first) seen) (filter (λ x. is_of mac x.first) seen))
    by_skew None o_is true is ih = ih ∙ ap with_one (sym o_is)
    by_skew None o_is false is ih = ih
    by_skew (Some n) o_is true is ih =
        ap (λ b. map (λ (x : Told). x.amount) (cond b (told n ∷ others) others)) is ∙ ap (λ l. n / 1000 ∷ l) ih ∙ ap with_one (sym o_is)
    by_skew (Some n) o_is false is ih = ap (λ b. map (λ (x : Told). x.amount) (cond b (told n ∷ others) others)) is ∙ ih

-- in the other order they are the same numbers
skews_parts : (ring : Ring) (mac : List ℕ) (seen others : List Seen) → skews_in ring mac (seen ++ others) ≡ skews_in ring mac seen ++ skews_in ring mac others
skews_parts ring mac seen others =
    ap (filter_map (λ s. option_map (λ n. n / 1000) (skew ring s.copies))) (filter-append (λ s. is_of mac s.first) seen others)
    ∙ filter_map-append (λ s. option_map (λ n. n / 1000) (skew ring s.copies)) (filter (λ s. is_of mac s.first) seen) (filter (λ s. is_of mac s.first) others)

one_reversed : (ring : Ring) (mac : List ℕ) (t : Seen) → reverse (skews_in ring mac (t ∷ [])) ≡ skews_in ring mac (t ∷ [])
one_reversed ring mac t = by_mine (is_of mac t.first)
  where
    by_option : (o : Option ℕ) → reverse (cons_option o []) ≡ cons_option o []
    by_option None = refl
    by_option (Some n) = refl

    by_mine : (mine : Bool) → reverse (filter_map (λ s. option_map (λ n. n / 1000) (skew ring s.copies)) (cond mine (t ∷ []) []))
        ≡ filter_map (λ s. option_map (λ n. n / 1000) (skew ring s.copies)) (cond mine (t ∷ []) [])
    by_mine true = by_option (option_map (λ n. n / 1000) (skew ring t.copies))
    by_mine false = refl

skews_reverse : (ring : Ring) (mac : List ℕ) (seen : List Seen) → skews_in ring mac (reverse seen) ≡ reverse (skews_in ring mac seen)
skews_reverse ring mac [] = refl
skews_reverse ring mac (t ∷ seen) =
    ap (skews_in ring mac) (reverse-append (t ∷ []) seen) ∙ skews_parts ring mac (reverse seen) (t ∷ []) ∙ ap (λ l. l ++ skews_in ring mac (t ∷ [])) (skews_reverse ring mac seen)
    ∙ ap (λ l. reverse (skews_in ring mac seen) ++ l) (sym (one_reversed ring mac t)) ∙ sym (reverse-append (skews_in ring mac (t ∷ [])) (skews_in ring mac seen))
    ∙ ap reverse (sym (skews_parts ring mac (t ∷ []) seen))

spread_moved : (numbers moved : List ℕ) (spread : Option Spread) → IsPermutation moved numbers → IsSpread numbers spread → IsSpread moved spread
spread_moved numbers moved None same is = let long = length_permutation moved numbers same in omega (arith, long, is)
spread_moved numbers moved (Some own) same is = record {
  sorted = is.sorted;
  same = IsPermutation-trans moved numbers is.sorted same is.same;
  rises = is.rises;
  min = is.min;
  mid = is.mid;
  max = is.max;
}

pub skews_are : (ring : Ring) (copies : List CaughtFields) (macs : List (List ℕ)) (of_copy numbers : List ℕ) (all : List Sighting) (k : ℕ) (mac : List ℕ) (spread : Option Spread) → AreSources copies macs of_copy
    → AreSightings ring copies all numbers → slice_get macs k ≡ Some mac → IsSpread (amounts_of k (filter_map (told_by of_copy) all)) spread → IsSpread (skews_of ring mac (reverse copies)) spread
skews_are ring copies macs of_copy numbers all k mac spread sources are mac_k is =
    let seen = sightings ring (reverse copies) in
    let same : amounts_of k (filter_map (told_by of_copy) all) ≡ reverse (skews_in ring mac seen)
    = skews_seen ring copies macs of_copy k mac sources mac_k all (reverse seen) (all_seen ring copies all numbers are) ∙ skews_reverse ring mac seen in
    spread_moved (reverse (skews_in ring mac seen)) (skews_in ring mac seen) spread (IsPermutation-reverse (skews_in ring mac seen)) (subst (λ l. IsSpread l spread) same is)
