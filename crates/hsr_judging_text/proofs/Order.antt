-- Two sorts that keep the order of what is equal, one after the other.
use Rattle.std.proofs.Common.{◌≡◌, ℕ, ◌+◌, ◌<◌, ◌≤◌, ◌==◌, ◌&&◌, inl, inr, ◌∙◌, Bool, true, false, List, [], ◌∷◌, length, get_or, ap, sym, refl, arith, cond, not, nat_lt}
use Rattle.std.proofs.lemmas.Bool.{cases_lt}
use Rattle.std.proofs.lemmas.Bool.Decides.{nat_tests}
use Rattle.std.proofs.lemmas.List.Sorted.{IsPermutation-trans, IsNonDecreasingBy-from_sort, ties_still_rise}
use Rattle.std.specs.List.{filter}
use Rattle.std.specs.List.Sorted.{IsPermutation, IsSortedByKey, IsStableByKey}
use Rattle.std.specs.Ordering.{is_lt, nat_cmp}
use Rattle.std.specs.declared.cmp.Ordering.TheVariants.{Less, Equal, Greater}
use Rattle.hsr_judging_text.specs.Deviations.{IsBefore, IsInOrder, is_of}
use Rattle.hsr_judging_text.specs.declared.deviation.Deviation.{Deviation}

less_is : (l e : Bool) → is_lt (cond l Less (cond e Equal Greater)) ≡ l
less_is true e = refl
less_is false true = refl
less_is false false = refl

less : (a b : ℕ) → is_lt (nat_cmp a b) ≡ nat_lt a b
less a b = less_is (nat_lt a b) (a == b)

neither : (a b : ℕ) → (not (nat_lt a b) && not (nat_lt b a)) ≡ (a == b)
neither a b = grind (arith, nat_tests)

tie_is : (a b : ℕ) → (not (is_lt (nat_cmp a b)) && not (is_lt (nat_cmp b a))) ≡ (a == b)
tie_is a b = ap (λ (x : Bool). not x && not (is_lt (nat_cmp b a))) (less a b) ∙ ap (λ (x : Bool). not (nat_lt a b) && not x) (less b a) ∙ neither a b

filter_same : {X : Type 0} (p q : X → Bool) (same : (x : X) → p x ≡ q x) (xs : List X) → filter p xs ≡ filter q xs
filter_same p q same [] = refl
filter_same {X} p q same (x ∷ xs) =
    ap (λ (b : Bool). cond b (x ∷ filter p xs) (filter p xs)) (same x) ∙ ap (λ (ys : List X). cond (q x) (x ∷ ys) ys) (filter_same p q same xs)

first_by : {X : Type 0} (a b : Bool) (x : X) (q : X → Bool) (p : X → Bool) (xs : List X) → p x ≡ a → q x ≡ b → filter (λ y. p y && q y) xs ≡ filter q (filter p xs)
    → cond (a && b) (x ∷ filter (λ y. p y && q y) xs) (filter (λ y. p y && q y) xs) ≡ filter q (cond a (x ∷ filter p xs) (filter p xs))
first_by true true x q p xs is_p is_q same = ap (λ ys. x ∷ ys) same ∙ sym (ap (λ b. cond b (x ∷ filter q (filter p xs)) (filter q (filter p xs))) is_q)
first_by true false x q p xs is_p is_q same = same ∙ sym (ap (λ b. cond b (x ∷ filter q (filter p xs)) (filter q (filter p xs))) is_q)
first_by false b x q p xs is_p is_q same = same

filter_both : {X : Type 0} (p q : X → Bool) (xs : List X) → filter (λ y. p y && q y) xs ≡ filter q (filter p xs)
filter_both p q [] = refl
filter_both p q (x ∷ xs) = first_by (p x) (q x) x q p xs refl refl (filter_both p q xs)

swapped : (a b : Bool) → (a && b) ≡ (b && a)
swapped true true = refl
swapped true false = refl
swapped false true = refl
swapped false false = refl

filter_both_back : {X : Type 0} (p q : X → Bool) (xs : List X) → filter (λ y. p y && q y) xs ≡ filter p (filter q xs)
filter_both_back p q xs = filter_same (λ y. p y && q y) (λ y. q y && p y) (λ y. swapped (p y) (q y)) xs ∙ filter_both q p xs

-- what a stable sort by a number keeps
kept_by : {X : Type 0} (n : X → ℕ) (xs ys : List X) → IsStableByKey n nat_cmp xs ys → (x : X) → filter (λ y. n x == n y) ys ≡ filter (λ y. n x == n y) xs
kept_by n xs ys stable x =
    filter_same (λ y. n x == n y) (λ y. not (is_lt (nat_cmp (n x) (n y))) && not (is_lt (nat_cmp (n y) (n x)))) (λ y. sym (tie_is (n x) (n y))) ys
    ∙ stable x
    ∙ filter_same (λ y. not (is_lt (nat_cmp (n x) (n y))) && not (is_lt (nat_cmp (n y) (n x)))) (λ y. n x == n y) (λ y. tie_is (n x) (n y)) xs

module _ (all by_packet told : List Deviation) where
  kept : IsStableByKey (λ (d : Deviation). d.packet) nat_cmp all by_packet → IsStableByKey (λ (d : Deviation). d.at) nat_cmp by_packet told
      → (x : Deviation) → filter (is_of x) told ≡ filter (is_of x) all
  kept first second x =
      let at : Deviation → Bool = λ d. x.at == d.at in
      let packet : Deviation → Bool = λ d. x.packet == d.packet in
      filter_both at packet told
      ∙ ap (filter packet) (kept_by (λ (d : Deviation). d.at) by_packet told second x)
      ∙ sym (filter_both at packet by_packet)
      ∙ filter_both_back at packet by_packet
      ∙ ap (filter at) (kept_by (λ (d : Deviation). d.packet) all by_packet first x)
      ∙ sym (filter_both_back at packet all)

  rise_by : (a b : Deviation) → a.at ≤ b.at → (a.at ≡ b.at → a.packet ≤ b.packet) → IsBefore a b
  rise_by a b le tie = elim (cases_lt a.at b.at) [ inl less ↦ inl less | inr not_less ↦ inr (omega arith, tie (omega arith)) ]

  rise : IsSortedByKey (λ (d : Deviation). d.packet) nat_cmp by_packet → IsSortedByKey (λ (d : Deviation). d.at) nat_cmp told
      → IsStableByKey (λ (d : Deviation). d.at) nat_cmp by_packet told
      → (k : ℕ) (d : Deviation) → k + 1 < length told → IsBefore (get_or told k d) (get_or told (k + 1) d)
  rise packets moments stable k d below =
      rise_by (get_or told k d) (get_or told (k + 1) d)
      (IsNonDecreasingBy-from_sort (λ (d : Deviation). d.at) told moments k (k + 1) d (omega arith) below)
      (ties_still_rise (λ (d : Deviation). d.packet) (λ (d : Deviation). d.at) by_packet told packets stable k d below)

  pub in_order : IsPermutation all by_packet → IsSortedByKey (λ (d : Deviation). d.packet) nat_cmp by_packet
      → IsStableByKey (λ (d : Deviation). d.packet) nat_cmp all by_packet → IsPermutation by_packet told
      → IsSortedByKey (λ (d : Deviation). d.at) nat_cmp told → IsStableByKey (λ (d : Deviation). d.at) nat_cmp by_packet told → IsInOrder all told
  in_order first packets first_stable second moments stable = record {
    same = IsPermutation-trans all by_packet told first second;
    rises = rise packets moments stable;
    ties = kept first_stable stable;
  }
