-- What became of the frames of each source, one sighting after the other.
use Rattle.std.proofs.Common.{◌≡◌, ℕ, ◌+◌, ◌<◌, ◌≤◌, ◌^◌, ◌&&◌, not, Bool, true, false, cond, List, [], ◌∷◌, ◌++◌, reverse, take, ◌⊎◌, inl, inr, refl, sym, ap, subst, ◌∙◌, arith, Some}
use Rattle.std.specs.Prelude.{count_by, slice_get, slice_index}
use Rattle.std.proofs.lemmas.List.{length-take, take_more}
use Rattle.std.proofs.lemmas.List.Sums.{count_by-le-length, sum_by_push}
use Rattle.std.proofs.lemmas.Option.{get_or_from_slice_get, same_Some, slice_get-get_or, slice_get_within}
use Rattle.hsr_frame.specs.Address.{is_group}
use Rattle.hsr_frame_groups.specs.Frames.{CaughtFields}
use Rattle.hsr_sightings.specs.Read.{AreSightings}
use Rattle.hsr_sightings.specs.Ring.{Ring}
use Rattle.hsr_sightings.specs.Seen.{came_both, fate_of, is_edge}
use Rattle.hsr_sightings.specs.Sightings.{Sighting as Seen, came_both_ways, is_first_at_edge, is_more, is_once, is_open, is_twice}
use Rattle.hsr_sightings.specs.declared.sighting.Fate.{Fate}
use Rattle.hsr_sightings.specs.declared.sighting.Fate.TheVariants as the_fate
use Rattle.hsr_sightings.specs.Fields.{Sighting}
use Rattle.hsr_health.specs.Counted.{AreFated, AreFates, AreKeptFates, AreSources, HaveNoFates, IsFated, changed, count_kept, fates_with, is_fate, is_of, is_of_source, is_seen_of, one_more, same_as, with_fate}
use Rattle.hsr_health.specs.declared.counts.Counts.{Counts}
use Rattle.hsr_health.specs.declared.counts.Fates.{Fates}
use Rattle.hsr_health.proofs.Sighted.{IsSeenAs, came_same, count_all, edge_same}
use Rattle.hsr_health.proofs.Sourcing.{changed_at, is_other, is_own}

-- ---- one fate more

pub count_push : {X : Type 0} (test : X → Bool) (xs : List X) (i : ℕ) (x : X) → slice_get xs i ≡ Some x → count_by test (take (i + 1) xs) ≡ count_by test (take i xs) + cond (test x) 1 0
count_push test xs i x here =
    ap (count_by test) (take_more xs i x (slice_get_within xs i x here) ∙ ap (λ y. take i xs ++ y ∷ []) (get_or_from_slice_get xs i x x here)) ∙ sum_by_push (λ y. cond (test y) 1 0) (take i xs) x

pub count_short : {X : Type 0} (test : X → Bool) (xs : List X) (i : ℕ) → count_by test (take i xs) ≤ i
count_short test xs i =
    let le = count_by-le-length test (take i xs) in
    let short = length-take i xs in
    omega (arith, le, short)

-- a count of fates, with one that may be such
pub one_step : (old count i : ℕ) (b : Bool) → old ≡ count → count ≤ i → i < 2 ^ 63 → cond b (one_more old) old ≡ count + cond b 1 0
one_step old count i true is le few = omega (arith, is, le, few)
one_step old count i false is le few = omega (arith, is)

twice_with : (fates : Fates) (fate : Fate) → (fates_with fates fate).twice ≡ cond (is_fate 0 fate) (one_more fates.twice) fates.twice
twice_with fates the_fate.Twice = refl
twice_with fates the_fate.Once = refl
twice_with fates the_fate.More = refl
twice_with fates the_fate.Open = refl

once_with : (fates : Fates) (fate : Fate) → (fates_with fates fate).once ≡ cond (is_fate 1 fate) (one_more fates.once) fates.once
once_with fates the_fate.Twice = refl
once_with fates the_fate.Once = refl
once_with fates the_fate.More = refl
once_with fates the_fate.Open = refl

more_with : (fates : Fates) (fate : Fate) → (fates_with fates fate).more ≡ cond (is_fate 2 fate) (one_more fates.more) fates.more
more_with fates the_fate.Twice = refl
more_with fates the_fate.Once = refl
more_with fates the_fate.More = refl
more_with fates the_fate.Open = refl

open_with : (fates : Fates) (fate : Fate) → (fates_with fates fate).«open» ≡ cond (is_fate 3 fate) (one_more fates.«open») fates.«open»
open_with fates the_fate.Twice = refl
open_with fates the_fate.Once = refl
open_with fates the_fate.More = refl
open_with fates the_fate.Open = refl

-- a sighting of the source, to groups as asked
kept_more : (ring : Ring) (copies : List CaughtFields) (source : List ℕ) (to_group : Bool) (all : List Sighting) (i : ℕ) (s : Sighting) (c : CaughtFields) (fates : Fates) → slice_get all i ≡ Some s
    → slice_get copies s.first ≡ Some c → is_of source c ≡ true → same_as (is_group c.copy.dst) to_group ≡ true → i < 2 ^ 63 → AreKeptFates ring copies source to_group (take i all) fates
    → AreKeptFates ring copies source to_group (take (i + 1) all) (fates_with fates (fate_of ring s))
kept_more ring copies source to_group all i s c fates here there mine group few are = record {
  twice = twice_with fates (fate_of ring s) ∙ one_step fates.twice (kept 0) i (is_fate 0 (fate_of ring s)) are.twice (short 0) few ∙ sym (grown 0);
  once = once_with fates (fate_of ring s) ∙ one_step fates.once (kept 1) i (is_fate 1 (fate_of ring s)) are.once (short 1) few ∙ sym (grown 1);
  more = more_with fates (fate_of ring s) ∙ one_step fates.more (kept 2) i (is_fate 2 (fate_of ring s)) are.more (short 2) few ∙ sym (grown 2);
  open_ = open_with fates (fate_of ring s) ∙ one_step fates.«open» (kept 3) i (is_fate 3 (fate_of ring s)) are.open_ (short 3) few ∙ sym (grown 3);
}
  where
    kept : ℕ → ℕ
    kept n = count_kept ring copies source to_group n (take i all)

    short : (n : ℕ) → count_kept ring copies source to_group n (take i all) ≤ i
    short n = count_short (λ x. is_seen_of ring source to_group n x (slice_get copies x.first)) all i

    test : (n : ℕ) → is_seen_of ring source to_group n s (slice_get copies s.first) ≡ is_fate n (fate_of ring s)
    test n =
        ap (is_seen_of ring source to_group n s) there ∙ ap (λ b. b && (same_as (is_group c.copy.dst) to_group && is_fate n (fate_of ring s))) mine
        ∙ ap (λ b. b && is_fate n (fate_of ring s)) group

    grown : (n : ℕ) → count_kept ring copies source to_group n (take (i + 1) all) ≡ count_kept ring copies source to_group n (take i all) + cond (is_fate n (fate_of ring s)) 1 0
    grown n =
        count_push (λ x. is_seen_of ring source to_group n x (slice_get copies x.first)) all i s here
        ∙ ap (λ b. count_kept ring copies source to_group n (take i all) + cond b 1 0) (test n)

-- any other sighting
kept_still : (ring : Ring) (copies : List CaughtFields) (source : List ℕ) (to_group : Bool) (all : List Sighting) (i : ℕ) (s : Sighting) (c : CaughtFields) (fates : Fates) → slice_get all i ≡ Some s
    → slice_get copies s.first ≡ Some c → (is_of source c ≡ false) ⊎ (same_as (is_group c.copy.dst) to_group ≡ false) → AreKeptFates ring copies source to_group (take i all) fates
    → AreKeptFates ring copies source to_group (take (i + 1) all) fates
kept_still ring copies source to_group all i s c fates here there other are = record {
  twice = are.twice ∙ sym (still 0);
  once = are.once ∙ sym (still 1);
  more = are.more ∙ sym (still 2);
  open_ = are.open_ ∙ sym (still 3);
}
  where
    none : (m g f : Bool) → (m ≡ false) ⊎ (g ≡ false) → (m && (g && f)) ≡ false
    none true true f (inl is) = absurd cc
    none true true f (inr is) = absurd cc
    none true false f is = refl
    none false g f is = refl

    still : (n : ℕ) → count_kept ring copies source to_group n (take (i + 1) all) ≡ count_kept ring copies source to_group n (take i all)
    still n =
        count_push (λ x. is_seen_of ring source to_group n x (slice_get copies x.first)) all i s here
        ∙ ap (λ b. count_kept ring copies source to_group n (take i all) + cond b 1 0)
        (ap (is_seen_of ring source to_group n s) there ∙ none (is_of source c) (same_as (is_group c.copy.dst) to_group) (is_fate n (fate_of ring s)) other) ∙ omega arith

-- ---- the counts of a source

own_step : (ring : Ring) (copies : List CaughtFields) (source : List ℕ) (before own : Counts) (all : List Sighting) (i : ℕ) (s : Sighting) (c : CaughtFields) → slice_get all i ≡ Some s
    → slice_get copies s.first ≡ Some c → is_of source c ≡ true → i < 2 ^ 63 → IsFated ring copies source before (take i all) own
    → IsFated ring copies source before (take (i + 1) all) (with_fate (fate_of ring s) (is_group c.copy.dst) own)
own_step ring copies source before own all i s c here there mine few is = by_group (is_group c.copy.dst) refl
  where
    by_group : (b : Bool) → is_group c.copy.dst ≡ b → IsFated ring copies source before (take (i + 1) all) (with_fate (fate_of ring s) b own)
    by_group true to = record {
      group = kept_more ring copies source true all i s c own.group here there mine (ap (λ b. same_as b true) to) few is.group;
      single = kept_still ring copies source false all i s c own.single here there (inr (ap (λ b. same_as b false) to)) is.single;
      others = ap (λ (x : Counts). record x { group = fates_with own.group (fate_of ring s) }) is.others;
    }
    by_group false to = record {
      group = kept_still ring copies source true all i s c own.group here there (inr (ap (λ b. same_as b true) to)) is.group;
      single = kept_more ring copies source false all i s c own.single here there mine (ap (λ b. same_as b false) to) few is.single;
      others = ap (λ (x : Counts). record x { single = fates_with own.single (fate_of ring s) }) is.others;
    }

other_step : (ring : Ring) (copies : List CaughtFields) (source : List ℕ) (before own : Counts) (all : List Sighting) (i : ℕ) (s : Sighting) (c : CaughtFields) → slice_get all i ≡ Some s
    → slice_get copies s.first ≡ Some c → is_of source c ≡ false → IsFated ring copies source before (take i all) own → IsFated ring copies source before (take (i + 1) all) own
other_step ring copies source before own all i s c here there other is = record {
  group = kept_still ring copies source true all i s c own.group here there (inl other) is.group;
  single = kept_still ring copies source false all i s c own.single here there (inl other) is.single;
  others = is.others;
}

pub fates_step : (ring : Ring) (copies : List CaughtFields) (macs : List (List ℕ)) (of_copy numbers : List ℕ) (base old new : List Counts) (all : List Sighting) (i : ℕ) (s : Sighting) → slice_get all i ≡ Some s
    → i < 2 ^ 63 → AreSources copies macs of_copy → AreSightings ring copies all numbers
    → ((c : CaughtFields) → slice_get copies s.first ≡ Some c → new ≡ changed (with_fate (fate_of ring s) (is_group c.copy.dst)) (slice_index of_copy s.first) old)
    → AreFated ring copies macs base (take i all) old → AreFated ring copies macs base (take (i + 1) all) new
fates_step ring copies macs of_copy numbers base old new all i s here few sources are new_is fated k mac before own mac_k before_k own_k =
    by_place (changed_at (with_fate (fate_of ring s) (is_group c.copy.dst)) old source k own (ap (λ l. slice_get l k) (sym (new_is c there)) ∙ own_k))
  where
    c : CaughtFields
    c = (are.each i s here).copy

    there : slice_get copies s.first ≡ Some c
    there = (are.each i s here).there

    source : ℕ
    source = slice_index of_copy s.first

    its : slice_get macs source ≡ Some c.copy.src
    its =
        let inside = slice_get_within copies s.first c there in
        sources.each s.first source c there (slice_get-get_or of_copy s.first 0 (omega (arith, inside, sources.long)))

    by_place : ((k ≡ source) × ((x : Counts) × (slice_get old k ≡ Some x) × (own ≡ with_fate (fate_of ring s) (is_group c.copy.dst) x))) ⊎ ((source ≡ k → ⊥) × (slice_get old k ≡ Some own))
        → IsFated ring copies mac before (take (i + 1) all) own
    by_place (inl found) =
        let same : mac ≡ c.copy.src = same_Some mac c.copy.src (sym mac_k ∙ ap (slice_get macs) found.0 ∙ its) in
        let mine : is_of mac c ≡ true = ap (λ m. is_of m c) same ∙ is_own c in
        subst (IsFated ring copies mac before (take (i + 1) all)) (sym found.1.2)
        (own_step ring copies mac before found.1.0 all i s c here there mine few (fated k mac before found.1.0 mac_k before_k found.1.1))
    by_place (inr other) =
        let apart : is_of mac c ≡ false = is_other mac c (λ e. other.0 (sources.once source k mac (its ∙ ap Some e) mac_k)) in
        other_step ring copies mac before own all i s c here there apart (fated k mac before own mac_k before_k other.1)

pub no_fates_yet : (ring : Ring) (copies : List CaughtFields) (macs : List (List ℕ)) (base : List Counts) → HaveNoFates macs base → AreFated ring copies macs base [] base
no_fates_yet ring copies macs base none k mac before own mac_k before_k own_k = record {
  group = subst (AreKeptFates ring copies mac true []) (sym (none k mac own mac_k own_k).0) (record { twice = refl; once = refl; more = refl; open_ = refl });
  single = subst (AreKeptFates ring copies mac false []) (sym (none k mac own mac_k own_k).1) (record { twice = refl; once = refl; more = refl; open_ = refl });
  others = subst (λ (x : Counts). own ≡ record x { group = own.group; single = own.single }) (same_Some own before (sym own_k ∙ before_k)) refl;
}

-- ---- fates by definition

abbrev by_parts : (m b e : Bool) → Fate
by_parts m b e = cond m the_fate.More (cond b the_fate.Twice (cond e the_fate.Open the_fate.Once))

twice_by : (m b e : Bool) → is_fate 0 (by_parts m b e) ≡ (b && not m)
twice_by true true e = refl
twice_by true false e = refl
twice_by false true e = refl
twice_by false false true = refl
twice_by false false false = refl

once_by : (m b e : Bool) → is_fate 1 (by_parts m b e) ≡ ((not b && not m) && not e)
once_by true true e = refl
once_by true false e = refl
once_by false true e = refl
once_by false false true = refl
once_by false false false = refl

more_by : (m b e : Bool) → is_fate 2 (by_parts m b e) ≡ m
more_by true b e = refl
more_by false true e = refl
more_by false false true = refl
more_by false false false = refl

open_by : (m b e : Bool) → is_fate 3 (by_parts m b e) ≡ ((not b && not m) && e)
open_by true true e = refl
open_by true false e = refl
open_by false true e = refl
open_by false false true = refl
open_by false false false = refl

fate_parts : (ring : Ring) (copies : List CaughtFields) (s : Sighting) (t : Seen) → IsSeenAs ring copies s t → fate_of ring s ≡ by_parts (is_more t.copies) (came_both_ways ring t.copies) (is_first_at_edge ring t.copies)
fate_parts ring copies s t is =
    ap (λ m. by_parts m (came_both s) (is_edge ring s.at)) is.more ∙ ap (λ b. by_parts (is_more t.copies) b (is_edge ring s.at)) (came_same ring copies s t is)
    ∙ ap (by_parts (is_more t.copies) (came_both_ways ring t.copies)) (edge_same ring copies s t is)

pub once_same : (ring : Ring) (copies : List CaughtFields) (s : Sighting) (t : Seen) → IsSeenAs ring copies s t → is_fate 1 (fate_of ring s) ≡ is_once ring t.copies
once_same ring copies s t is = ap (is_fate 1) (fate_parts ring copies s t is) ∙ once_by _ _ _

pub open_same : (ring : Ring) (copies : List CaughtFields) (s : Sighting) (t : Seen) → IsSeenAs ring copies s t → is_fate 3 (fate_of ring s) ≡ is_open ring t.copies
open_same ring copies s t is = ap (is_fate 3) (fate_parts ring copies s t is) ∙ open_by _ _ _

-- a test of fates is one of the definitions
seen_same : (ring : Ring) (copies : List CaughtFields) (source : List ℕ) (to_group : Bool) (n : ℕ) (is_such : Ring → List CaughtFields → Bool) (s : Sighting) (t : Seen) → IsSeenAs ring copies s t
    → is_fate n (fate_of ring s) ≡ is_such ring t.copies → is_seen_of ring source to_group n s (slice_get copies s.first) ≡ is_of_source ring source to_group is_such t
seen_same ring copies source to_group n is_such s t is same =
    ap (is_seen_of ring source to_group n s) is.first ∙ ap (λ b. is_of source t.first && (same_as (is_group t.first.copy.dst) to_group && b)) same

pub fates_are : (ring : Ring) (copies : List CaughtFields) (all : List Sighting) (numbers source : List ℕ) (to_group : Bool) (fates : Fates) → AreSightings ring copies all numbers
    → AreKeptFates ring copies source to_group all fates → AreFates ring source to_group (reverse copies) fates
fates_are ring copies all numbers source to_group fates are kept = record {
  twice = kept.twice ∙ count_all ring copies all numbers (λ s. is_seen_of ring source to_group 0 s (slice_get copies s.first)) (is_of_source ring source to_group is_twice) are
      (λ s t is. seen_same ring copies source to_group 0 is_twice s t is (ap (is_fate 0) (fate_parts ring copies s t is) ∙ twice_by _ _ _));
  once = kept.once ∙ count_all ring copies all numbers (λ s. is_seen_of ring source to_group 1 s (slice_get copies s.first)) (is_of_source ring source to_group is_once) are
      (λ s t is. seen_same ring copies source to_group 1 is_once s t is (ap (is_fate 1) (fate_parts ring copies s t is) ∙ once_by _ _ _));
  more = kept.more ∙ count_all ring copies all numbers (λ s. is_seen_of ring source to_group 2 s (slice_get copies s.first)) (is_of_source ring source to_group (λ r seen. is_more seen)) are
      (λ s t is. seen_same ring copies source to_group 2 (λ r seen. is_more seen) s t is (ap (is_fate 2) (fate_parts ring copies s t is) ∙ more_by _ _ _));
  open_ = kept.open_ ∙ count_all ring copies all numbers (λ s. is_seen_of ring source to_group 3 s (slice_get copies s.first)) (is_of_source ring source to_group is_open) are
      (λ s t is. seen_same ring copies source to_group 3 is_open s t is (ap (is_fate 3) (fate_parts ring copies s t is) ∙ open_by _ _ _));
}
