-- Lists that hold each copy as often are one in another order, and the other way round.
use Rattle.std.proofs.Common.{◌≡◌, ℕ, ◌<◌, Bool, true, cond, List, [], ◌∷◌, length, get_or, count_by, remove, IsPermutation, Option, Some, None, refl, sym, subst, arith, suc}
use Rattle.std.specs.Str.{bytes_eq}
use Rattle.std.proofs.lemmas.List.Folds.{Any-from_list_any}
use Rattle.std.proofs.lemmas.List.Sorted.{IsPermutation-cons, IsPermutation-refl, IsPermutation-remove, IsPermutation-sym, IsPermutation-trans, length_permutation, sum_by-IsPermutation}
use Rattle.std.proofs.lemmas.Bool.{and_from, and_parts, false≢true}
use Rattle.hsr_node.specs.declared.event.Carried.{Carried}
use Rattle.hsr_node.specs.declared.event.Probe.{Probe}
use Rattle.hsr_run_index.specs.Often.{AsOften, is_same_carried, is_same_probe}
use Rattle.hsr_run_laws.proofs.Lists.{any_counted, count_more, one_if}
use Rattle.hsr_run_laws.proofs.Same.{address_same, is_of_itself, probe_is, same_address}

-- ---- any items, and a test that decides equality

module _ {X : Type 0} (same : X → X → Bool) (tells : (x y : X) → same x y ≡ true → x ≡ y) (itself : (x : X) → same x x ≡ true) where
  -- where each item of all is as often
  pub permutation_from_all_counts : (xs ys : List X) → ((z : X) → count_by (same z) xs ≡ count_by (same z) ys) → IsPermutation xs ys
  permutation_from_all_counts [] [] all = IsPermutation-refl []
  permutation_from_all_counts [] (y ∷ ys) all =
      let none = all y in
      let more = count_more (same y) y ys in
      let one = one_if (same y y) (itself y) in
      absurd (nothing (count_by (same y) []) refl (omega (arith, none, more, one)))
    where
      nothing : (n : ℕ) → n ≡ 0 → 0 < n → ⊥
      nothing n e h = omega arith
  permutation_from_all_counts (x ∷ xs) ys all =
      let first = all x in
      let more = count_more (same x) x xs in
      let one = one_if (same x x) (itself x) in
      let found = Any-from_list_any (same x) ys (any_counted (same x) ys (omega arith)) in
      let P : X → Type 0 = λ z. IsPermutation ys (z ∷ remove ys found.0) in
      let front = subst P (sym (tells x found.1 found.4)) (IsPermutation-remove ys found.0 found.1 found.2 (sym found.3)) in
      let rest = permutation_from_all_counts xs (remove ys found.0)
      (λ z.
      let here = all z in
      let before = count_more (same z) x xs in
      let moved = sum_by-IsPermutation (λ y. cond (same z y) 1 0) ys (x ∷ remove ys found.0) front in
      let after = count_more (same z) x (remove ys found.0) in
      omega arith) in
      IsPermutation-trans whole (x ∷ remove ys found.0) ys (IsPermutation-cons x xs (remove ys found.0) rest) (IsPermutation-sym ys (x ∷ remove ys found.0) front)
    where
      whole : List X
      whole = x ∷ xs

  -- where the lists are as long, and each item of the first is as often
  pub permutation_from_counts : (xs ys : List X) → length xs ≡ length ys → ((i : ℕ) (z : X) → i < length xs → count_by (same (get_or xs i z)) xs ≡ count_by (same (get_or xs i z)) ys) → IsPermutation xs ys
  permutation_from_counts [] [] long all = IsPermutation-refl []
  permutation_from_counts [] (y ∷ ys) long all = absurd (omega arith)
  permutation_from_counts (x ∷ xs) ys long all =
      let first = all 0 x (omega arith) in
      let more = count_more (same x) x xs in
      let one = one_if (same x x) (itself x) in
      let found = Any-from_list_any (same x) ys (any_counted (same x) ys (omega arith)) in
      let P : X → Type 0 = λ z. IsPermutation ys (z ∷ remove ys found.0) in
      let front = subst P (sym (tells x found.1 found.4)) (IsPermutation-remove ys found.0 found.1 found.2 (sym found.3)) in
      let shorter = length_permutation ys (x ∷ remove ys found.0) front in
      let rest = permutation_from_counts xs (remove ys found.0) (omega arith)
      (λ j z below.
      let here = all (suc j) z (omega arith) in
      let before = count_more (same (get_or xs j z)) x xs in
      let moved = sum_by-IsPermutation (λ y. cond (same (get_or xs j z) y) 1 0) ys (x ∷ remove ys found.0) front in
      let after = count_more (same (get_or xs j z)) x (remove ys found.0) in
      omega arith) in
      IsPermutation-trans whole (x ∷ remove ys found.0) ys (IsPermutation-cons x xs (remove ys found.0) rest) (IsPermutation-sym ys (x ∷ remove ys found.0) front)
    where
      whole : List X
      whole = x ∷ xs

-- ---- copies

probe_tells : (p q : Option Probe) → is_same_probe p q ≡ true → p ≡ q
probe_tells None None h = refl
probe_tells None (Some q) h = absurd (false≢true h)
probe_tells (Some p) q h = sym (probe_is p q h)

probe_itself : (p : Option Probe) → is_same_probe p p ≡ true
probe_itself None = refl
probe_itself (Some p) = is_of_itself p

pub carried_tells : (x y : Carried) → is_same_carried x y ≡ true → x ≡ y
carried_tells x y h =
    let parts = and_parts (is_same_probe x.probe y.probe) (bytes_eq x.octets y.octets) h in
    let probe = probe_tells x.probe y.probe parts.0 in
    let octets = same_address x.octets y.octets parts.1 in
    λ i. record { probe = probe i; octets = octets i }

pub carried_itself : (x : Carried) → is_same_carried x x ≡ true
carried_itself x = and_from (is_same_probe x.probe x.probe) (bytes_eq x.octets x.octets) (probe_itself x.probe) (address_same x.octets x.octets refl)

pub in_order : (xs ys : List Carried) → AsOften xs ys → IsPermutation xs ys
unfolding AsOften
in_order xs ys h = permutation_from_all_counts is_same_carried carried_tells carried_itself xs ys h

pub as_often : (xs ys : List Carried) → IsPermutation xs ys → AsOften xs ys
unfolding AsOften
as_often xs ys moved = λ copy. sym (sum_by-IsPermutation (λ y. cond (is_same_carried copy y) 1 0) xs ys moved)

-- what a test of two lists looks at decides
pub by_each : (xs ys : List Carried) → length xs ≡ length ys → ((i : ℕ) (z : Carried) → i < length xs → count_by (is_same_carried (get_or xs i z)) xs ≡ count_by (is_same_carried (get_or xs i z)) ys) → AsOften xs ys
by_each xs ys long all = as_often xs ys (permutation_from_counts is_same_carried carried_tells carried_itself xs ys long all)

pub each_often : (xs ys : List Carried) → AsOften xs ys → (copy : Carried) → count_by (is_same_carried copy) xs ≡ count_by (is_same_carried copy) ys
unfolding AsOften
each_often xs ys h = h
