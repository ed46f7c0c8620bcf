-- Packets that are no copies, counted by kind.
use Rattle.std.proofs.Common.{◌≡◌, ℕ, zero, suc, ◌+◌, ◌*◌, ◌/◌, ◌%◌, ◌<◌, ◌&&◌, Bool, true, false, cond, List, [], ◌∷◌, ◌++◌, get_or, length, map, take, ◌⊎◌, inl, inr, refl, sym, ap, subst, ◌∙◌, arith, Option, Some, None}
use Rattle.std.specs.List.{cons_option}
use Rattle.std.specs.Prelude.{nat_eq, count_by, filter_map, option_map, option_to_list, slice_get, Contains}
use Rattle.std.proofs.lemmas.Bool.{and_from, and_parts, cases_eq, eq-eqb, eqb-true, false_from_ne_true, ne_eqb}
use Rattle.std.proofs.lemmas.List.{take_more}
use Rattle.std.proofs.lemmas.List.Elements.{filter_map-append}
use Rattle.std.proofs.lemmas.List.Sums.{sum_by-cons}
use Rattle.std.proofs.lemmas.Option.{none-some, same_Some, slice_get-map}
use Rattle.hsr_frame.specs.declared.fault.FrameFault.{FrameFault}
use Rattle.hsr_frame.specs.declared.fault.FrameFault.TheVariants as the_fault
use Rattle.hsr_frame_copies.specs.declared.contents.NoCopy.{NoCopy}
use Rattle.hsr_frame_copies.specs.declared.contents.NoCopy.TheVariants.{Unread, Malformed, Untagged}
use Rattle.hsr_health.specs.ByKey.{AreCountsOf}
use Rattle.hsr_health.specs.Kinds.{AreMalformed, AreSmall, AreUntagged, IsMalformedAmong, IsSmall, IsUntaggedAmong, is_link_local, is_malformed_as, is_untagged_as, local_rank, malformed_by, malformed_key, malformed_of, malformed_rank, rank_of, same, untagged_by, untagged_key, untagged_of, untagged_rank}
use Rattle.hsr_health.specs.declared.by_key.KeyCount.{KeyCount}
use Rattle.hsr_health.specs.declared.kinds.MalformedKind.{MalformedKind}
use Rattle.hsr_health.specs.declared.kinds.UntaggedKind.{UntaggedKind}
use Rattle.hsr_health.proofs.Keying.{some_counted}
use Rattle.hsr_taps.specs.declared.tapping.Stray.{Stray}

-- ---- what is found in each

one_found : {X Y : Type 0} (f : X → Option Y) (x : X) → filter_map f (x ∷ []) ≡ option_to_list (f x)
one_found {X} {Y} f x = by_case (f x)
  where
    by_case : (o : Option Y) → cons_option o [] ≡ option_to_list o
    by_case None = refl
    by_case (Some y) = refl

pub found_more : {X Y : Type 0} (f : X → Option Y) (xs : List X) (i : ℕ) (d : X) (old new : List Y) → i < length xs → old ≡ filter_map f (take i xs)
    → new ≡ old ++ option_to_list (f (get_or xs i d)) → new ≡ filter_map f (take (i + 1) xs)
found_more f xs i d old new below old_is new_is =
    new_is ∙ ap (λ l. l ++ option_to_list (f (get_or xs i d))) old_is
    ∙ sym (ap (filter_map f) (take_more xs i d below) ∙ filter_map-append f (take i xs) (get_or xs i d ∷ []) ∙ ap (λ l. filter_map f (take i xs) ++ l) (one_found f (get_or xs i d)))

-- what is found for one is among all
found_there : {X : Type 0} (f : X → Option ℕ) (xs : List X) (i : ℕ) (x : X) (n : ℕ) → slice_get xs i ≡ Some x → f x ≡ Some n → Contains (filter_map f xs) n
found_there f [] i x n here is = absurd cc
found_there f (y ∷ xs) zero x n here is = subst (λ o. Contains (cons_option o (filter_map f xs)) n) (sym (ap f (same_Some y x here) ∙ is)) (0, omega arith, refl)
found_there {X} f (y ∷ xs) (suc i) x n here is = by_case (f y) (found_there f xs i x n here is)
  where
    by_case : (o : Option ℕ) → Contains (filter_map f xs) n → Contains (cons_option o (filter_map f xs)) n
    by_case None has = has
    by_case (Some m) has = (suc has.0, omega (arith, has.1), has.2)

abbrev is_told : ℕ → Option ℕ → Bool
is_told key None = false
is_told key (Some n) = nat_eq n key

-- how many have a number
count_found : {X : Type 0} (f : X → Option ℕ) (test : X → Bool) (key : ℕ) (xs : List X) → ((i : ℕ) (x : X) → slice_get xs i ≡ Some x → is_told key (f x) ≡ test x)
    → count_by (λ n. nat_eq n key) (filter_map f xs) ≡ count_by test xs
count_found f test key [] told = refl
count_found {X} f test key (x ∷ xs) told =
    by_case (f x) (count_found f test key xs (λ i y here. told (suc i) y here)) ∙ ap (λ b. cond b 1 0 + count_by test xs) (told 0 x refl) ∙ sym (sum_by-cons (λ y. cond (test y) 1 0) x xs)
  where
    by_case : (o : Option ℕ) → count_by (λ n. nat_eq n key) (filter_map f xs) ≡ count_by test xs
        → count_by (λ n. nat_eq n key) (cons_option o (filter_map f xs)) ≡ cond (is_told key o) 1 0 + count_by test xs
    by_case None rest = omega (arith, rest)
    by_case (Some n) rest = sum_by-cons (λ m. cond (nat_eq m key) 1 0) n (filter_map f xs) ∙ ap (λ k. cond (nat_eq n key) 1 0 + k) rest

-- an element of a list that was mapped
pub mapped_from : {X Y : Type 0} (f : X → Y) (xs : List X) (k : ℕ) (y : Y) → slice_get (map f xs) k ≡ Some y → (x : X) × (slice_get xs k ≡ Some x) × (y ≡ f x)
mapped_from {X} {Y} f xs k y here = by_case (slice_get xs k) refl
  where
    by_case : (o : Option X) → slice_get xs k ≡ o → (x : X) × (slice_get xs k ≡ Some x) × (y ≡ f x)
    by_case None is = absurd (none-some y (sym (slice_get-map f xs k ∙ ap (option_map f) is) ∙ here))
    by_case (Some x) is = (x, is, same_Some y (f x) (sym here ∙ slice_get-map f xs k ∙ ap (option_map f) is))

-- ---- packets without a tag

local_small : (b : Bool) → local_rank b < 2
local_small true = omega arith
local_small false = omega arith

local_same : (b : Bool) (n : ℕ) → n ≡ local_rank b → same b (nat_eq n 1) ≡ true
local_same true n is = eq-eqb n 1 is
local_same false n is = ap (same false) (ne_eqb n 1 (λ e. omega (arith, e, is)))

local_back : (b : Bool) (n : ℕ) → n < 2 → same b (nat_eq n 1) ≡ true → n ≡ local_rank b
local_back true n small is = eqb-true n 1 is
local_back false n small is = by_case (cases_eq n 1)
  where
    by_case : (n ≡ 1) ⊎ (n ≡ 1 → ⊥) → n ≡ 0
    by_case (inl one) = let clash : false ≡ true = sym (ap (same false) (eq-eqb n 1 one)) ∙ is in absurd cc
    by_case (inr other) = omega (arith, other, small)

local_rank_of : (n : ℕ) → n < 2 → local_rank (nat_eq n 1) ≡ n
local_rank_of n small = by_case (cases_eq n 1)
  where
    by_case : (n ≡ 1) ⊎ (n ≡ 1 → ⊥) → local_rank (nat_eq n 1) ≡ n
    by_case (inl one) = ap local_rank (eq-eqb n 1 one) ∙ sym one
    by_case (inr other) = ap local_rank (ne_eqb n 1 other) ∙ omega (arith, other, small)

-- a number is that of its parts
parts_same : (i e key : ℕ) (b : Bool) → e < 65536
    → nat_eq ((i * 65536 + e) * 2 + local_rank b) key ≡ (nat_eq i (key / 131072) && (nat_eq e (key / 2 % 65536) && same b (nat_eq (key % 2) 1)))
parts_same i e key b small = by_case (cases_eq ((i * 65536 + e) * 2 + local_rank b) key)
  where
    little : local_rank b < 2
    little = local_small b

    by_case : ((i * 65536 + e) * 2 + local_rank b ≡ key) ⊎ ((i * 65536 + e) * 2 + local_rank b ≡ key → ⊥)
        → nat_eq ((i * 65536 + e) * 2 + local_rank b) key ≡ (nat_eq i (key / 131072) && (nat_eq e (key / 2 % 65536) && same b (nat_eq (key % 2) 1)))
    by_case (inl is) =
        let first : i ≡ key / 131072 = omega (arith, is, small, little) in
        let middle : e ≡ key / 2 % 65536 = omega (arith, is, small, little) in
        let last : key % 2 ≡ local_rank b = omega (arith, is, small, little) in
        eq-eqb _ key is ∙ sym (and_from _ _ (eq-eqb i _ first) (and_from _ _ (eq-eqb e _ middle) (local_same b (key % 2) last)))
    by_case (inr other) = ne_eqb _ key other ∙ sym (false_from_ne_true _ apart)
      where
        apart : (nat_eq i (key / 131072) && (nat_eq e (key / 2 % 65536) && same b (nat_eq (key % 2) 1))) ≡ true → ⊥
        apart all =
            let first = and_parts _ _ all in
            let others = and_parts _ _ first.1 in
            let i_is = eqb-true i (key / 131072) first.0 in
            let e_is = eqb-true e (key / 2 % 65536) others.0 in
            let below : key % 2 < 2 = omega arith in
            let last = local_back b (key % 2) below others.1 in
            other (omega (arith, i_is, e_is, last))

untagged_as : (at packet interface : ℕ) (what : NoCopy) (own : KeyCount) → IsSmall what
    → is_told own.key (untagged_key interface what) ≡ is_untagged_as (untagged_by own) (record { at = at; packet = packet; interface = interface; what = what })
untagged_as at packet interface (Untagged frame) own small = parts_same interface frame.kind own.key (is_link_local frame.dst) small
untagged_as at packet interface (Malformed fault) own small = sym (no_more (nat_eq interface (own.key / 131072)))
  where
    no_more : (b : Bool) → (b && false) ≡ false
    no_more true = refl
    no_more false = refl
untagged_as at packet interface Unread own small = sym (no_more (nat_eq interface (own.key / 131072)))
  where
    no_more : (b : Bool) → (b && false) ≡ false
    no_more true = refl
    no_more false = refl

rank_is : (own : KeyCount) → untagged_rank (untagged_by own) ≡ own.key
rank_is own =
    let last = local_rank_of (own.key % 2) (omega arith) in
    omega (arith, last)

-- one of its kind is among them
untagged_among : (keys : List ℕ) (counts : List KeyCount) (kinds : List UntaggedKind) (at packet interface : ℕ) (what : NoCopy) → AreCountsOf keys counts → kinds ≡ map untagged_by counts → IsSmall what
    → ((n : ℕ) → untagged_key interface what ≡ Some n → Contains keys n) → IsUntaggedAmong kinds what (record { at = at; packet = packet; interface = interface; what = what })
untagged_among keys counts kinds at packet interface (Untagged frame) are is small has =
    let found = are.all _ (has _ refl) in (
      found.0,
      untagged_by found.1,
      ap (λ l. slice_get l found.0) is ∙ slice_get-map untagged_by counts found.0 ∙ ap (option_map untagged_by) found.2,
      sym (untagged_as at packet interface (Untagged frame) found.1 small) ∙ eq-eqb _ _ (sym found.3),
    )
untagged_among keys counts kinds at packet interface (Malformed fault) are is small has = tt
untagged_among keys counts kinds at packet interface Unread are is small has = tt

pub untagged_are : (strays : List Stray) (keys : List ℕ) (counts : List KeyCount) (kinds : List UntaggedKind) → AreSmall strays → keys ≡ filter_map untagged_of strays → AreCountsOf keys counts
    → kinds ≡ map untagged_by counts → AreUntagged strays kinds
untagged_are strays keys counts kinds small keys_are are is = record {
  counted = λ k kind at_k.
      let own = from k kind at_k in
      let count : own.0.count ≡ count_by (is_untagged_as (untagged_by own.0)) strays
      = are.each k own.0 own.1 ∙ ap (count_by (λ n. nat_eq n own.0.key)) keys_are
      ∙ count_found untagged_of (is_untagged_as (untagged_by own.0)) own.0.key strays (λ i stray here. untagged_as stray.at stray.packet stray.interface stray.what own.0 (small i stray here)) in
      let some = some_counted own.0.key keys (are.there k own.0 own.1) in
      subst (λ (x : UntaggedKind). (x.packets ≡ count_by (is_untagged_as x) strays) × (0 < x.packets)) (sym own.2) (count, omega (arith, are.each k own.0 own.1, some));
  once = λ j k kind other before at_j at_k.
      let a = from j kind at_j in
      let b = from k other at_k in
      let less = are.rise j k a.0 b.0 before a.1 b.1 in
      let a_is : untagged_rank kind ≡ a.0.key = ap untagged_rank a.2 ∙ rank_is a.0 in
      let b_is : untagged_rank other ≡ b.0.key = ap untagged_rank b.2 ∙ rank_is b.0 in
      subst (λ n. n < untagged_rank other) (sym a_is) (subst (λ n. a.0.key < n) (sym b_is) less);
  all = λ i stray here. untagged_among keys counts kinds stray.at stray.packet stray.interface stray.what are is (small i stray here)
      (λ n key. subst (λ l. Contains l n) (sym keys_are) (found_there untagged_of strays i stray n here key));
}
  where
    from : (k : ℕ) (kind : UntaggedKind) → slice_get kinds k ≡ Some kind → (own : KeyCount) × (slice_get counts k ≡ Some own) × (kind ≡ untagged_by own)
    from k kind at_k = mapped_from untagged_by counts k kind (ap (λ l. slice_get l k) (sym is) ∙ at_k)

-- ---- packets that are no frames

rank_small : (fault : FrameFault) → rank_of fault < 8
rank_small the_fault.GroupSource = omega arith
rank_small the_fault.Long = omega arith
rank_small the_fault.NestedTag = omega arith
rank_small the_fault.Short = omega arith
rank_small the_fault.ShortTag = omega arith
rank_small the_fault.DoubleVlan = omega arith

pair_same : (i r key : ℕ) → r < 8 → nat_eq (i * 8 + r) key ≡ (nat_eq i (key / 8) && nat_eq r (key % 8))
pair_same i r key small = by_case (cases_eq (i * 8 + r) key)
  where
    by_case : (i * 8 + r ≡ key) ⊎ (i * 8 + r ≡ key → ⊥) → nat_eq (i * 8 + r) key ≡ (nat_eq i (key / 8) && nat_eq r (key % 8))
    by_case (inl is) =
        let first : i ≡ key / 8 = omega (arith, is, small) in
        let last : r ≡ key % 8 = omega (arith, is, small) in
        eq-eqb _ key is ∙ sym (and_from _ _ (eq-eqb i _ first) (eq-eqb r _ last))
    by_case (inr other) = ne_eqb _ key other ∙ sym (false_from_ne_true _ apart)
      where
        apart : (nat_eq i (key / 8) && nat_eq r (key % 8)) ≡ true → ⊥
        apart all =
            let both = and_parts _ _ all in
            let i_is = eqb-true i (key / 8) both.0 in
            let r_is = eqb-true r (key % 8) both.1 in
            other (omega (arith, i_is, r_is))

malformed_as : (at packet interface : ℕ) (what : NoCopy) (own : KeyCount)
    → is_told own.key (malformed_key interface what) ≡ is_malformed_as (malformed_by own) (record { at = at; packet = packet; interface = interface; what = what })
malformed_as at packet interface (Malformed fault) own = pair_same interface (rank_of fault) own.key (rank_small fault)
malformed_as at packet interface (Untagged frame) own = sym (no_more (nat_eq interface (own.key / 8)))
  where
    no_more : (b : Bool) → (b && false) ≡ false
    no_more true = refl
    no_more false = refl
malformed_as at packet interface Unread own = sym (no_more (nat_eq interface (own.key / 8)))
  where
    no_more : (b : Bool) → (b && false) ≡ false
    no_more true = refl
    no_more false = refl

malformed_rank_is : (own : KeyCount) → malformed_rank (malformed_by own) ≡ own.key
malformed_rank_is own = omega arith

malformed_among : (keys : List ℕ) (counts : List KeyCount) (kinds : List MalformedKind) (at packet interface : ℕ) (what : NoCopy) → AreCountsOf keys counts → kinds ≡ map malformed_by counts
    → ((n : ℕ) → malformed_key interface what ≡ Some n → Contains keys n) → IsMalformedAmong kinds what (record { at = at; packet = packet; interface = interface; what = what })
malformed_among keys counts kinds at packet interface (Malformed fault) are is has =
    let found = are.all _ (has _ refl) in (
      found.0,
      malformed_by found.1,
      ap (λ l. slice_get l found.0) is ∙ slice_get-map malformed_by counts found.0 ∙ ap (option_map malformed_by) found.2,
      sym (malformed_as at packet interface (Malformed fault) found.1) ∙ eq-eqb _ _ (sym found.3),
    )
malformed_among keys counts kinds at packet interface (Untagged frame) are is has = tt
malformed_among keys counts kinds at packet interface Unread are is has = tt

pub malformed_are : (strays : List Stray) (keys : List ℕ) (counts : List KeyCount) (kinds : List MalformedKind) → keys ≡ filter_map malformed_of strays → AreCountsOf keys counts
    → kinds ≡ map malformed_by counts → AreMalformed strays kinds
malformed_are strays keys counts kinds keys_are are is = record {
  counted = λ k kind at_k.
      let own = from k kind at_k in
      let count : own.0.count ≡ count_by (is_malformed_as (malformed_by own.0)) strays
      = are.each k own.0 own.1 ∙ ap (count_by (λ n. nat_eq n own.0.key)) keys_are
      ∙ count_found malformed_of (is_malformed_as (malformed_by own.0)) own.0.key strays (λ i stray here. malformed_as stray.at stray.packet stray.interface stray.what own.0) in
      let some = some_counted own.0.key keys (are.there k own.0 own.1) in
      subst (λ (x : MalformedKind). (x.packets ≡ count_by (is_malformed_as x) strays) × (0 < x.packets)) (sym own.2) (count, omega (arith, are.each k own.0 own.1, some));
  once = λ j k kind other before at_j at_k.
      let a = from j kind at_j in
      let b = from k other at_k in
      let less = are.rise j k a.0 b.0 before a.1 b.1 in
      let a_is : malformed_rank kind ≡ a.0.key = ap malformed_rank a.2 ∙ malformed_rank_is a.0 in
      let b_is : malformed_rank other ≡ b.0.key = ap malformed_rank b.2 ∙ malformed_rank_is b.0 in
      subst (λ n. n < malformed_rank other) (sym a_is) (subst (λ n. a.0.key < n) (sym b_is) less);
  all = λ i stray here. malformed_among keys counts kinds stray.at stray.packet stray.interface stray.what are is
      (λ n key. subst (λ l. Contains l n) (sym keys_are) (found_there malformed_of strays i stray n here key));
}
  where
    from : (k : ℕ) (kind : MalformedKind) → slice_get kinds k ≡ Some kind → (own : KeyCount) × (slice_get counts k ≡ Some own) × (kind ≡ malformed_by own)
    from k kind at_k = mapped_from malformed_by counts k kind (ap (λ l. slice_get l k) (sym is) ∙ at_k)
