-- What is told of each of several, one after the other.
use Rattle.std.proofs.Common.{◌≡◌, ℕ, zero, suc, ◌-◌, ◌/◌, ◌<◌, ◌≤◌, Bool, true, false, cond, List, [], ◌∷◌, ◌++◌, get_or, length, map, replicate, set, ◌⊎◌, inl, inr, refl, sym, ap, subst, ◌∙◌, arith, Option, Some, None}
use Rattle.std.specs.Prelude.{nat_eq, filter, option_map, slice_get, slice_index, IsPermutation, Vec}
use Rattle.std.specs.Global.{Global}
use Rattle.std.specs.List.Sorted.{IsSorted}
use Rattle.std.specs.Ordering.{nat_cmp}
use Rattle.std.proofs.lemmas.Bool.{cases_eq, eq-eqb, ne_eqb}
use Rattle.std.proofs.lemmas.List.{map-append}
use Rattle.std.proofs.lemmas.List.Elements.{filter-append}
use Rattle.std.proofs.lemmas.List.Sorted.{length_permutation}
use Rattle.std.proofs.lemmas.Option.{same_Some, slice_get-get_or, slice_get-map, slice_get_read, slice_get_within}
use Rattle.hsr_spread.specs.Spreads.{AreAmounts, AreSpreads, IsSpread, amounts_of, items_of, lists_of, spread_in}
use Rattle.hsr_spread.specs.declared.spread.Spread.{Spread}
use Rattle.hsr_spread.specs.declared.spread.Told.{Told}
use Rattle.hsr_sightings.proofs.Gathering.{slice_get_push, slice_get_set}

amount_one : (k : ℕ) (told : List Told) (one : Told) → amounts_of k (told ++ one ∷ []) ≡ amounts_of k told ++ map (λ t. t.amount) (cond (nat_eq one.of k) (one ∷ []) [])
amount_one k told one = ap (map (λ (t : Told). t.amount)) (filter-append (λ t. nat_eq t.of k) told (one ∷ [])) ∙ map-append (λ (t : Told). t.amount) (filter (λ t. nat_eq t.of k) told) (cond (nat_eq one.of k) (one ∷ []) [])

nothing_more : {X : Type 0} (xs : List X) → xs ++ [] ≡ xs
nothing_more [] = refl
nothing_more (x ∷ xs) = ap (λ l. x ∷ l) (nothing_more xs)

amount_own : (told : List Told) (one : Told) → amounts_of one.of (told ++ one ∷ []) ≡ amounts_of one.of told ++ one.amount ∷ []
amount_own told one = amount_one one.of told one ∙ ap (λ b. amounts_of one.of told ++ map (λ (t : Told). t.amount) (cond b (one ∷ []) [])) (eq-eqb one.of one.of refl)

amount_other : (k : ℕ) (told : List Told) (one : Told) → (one.of ≡ k → ⊥) → amounts_of k (told ++ one ∷ []) ≡ amounts_of k told
amount_other k told one other =
    amount_one k told one ∙ ap (λ b. amounts_of k told ++ map (λ (t : Told). t.amount) (cond b (one ∷ []) [])) (ne_eqb one.of k other) ∙ nothing_more (amounts_of k told)

pub amount_put : (told : List Told) (one : Told) (old new : List (List ℕ)) → one.of < length old → new ≡ set old one.of (get_or old one.of [] ++ one.amount ∷ []) → AreAmounts told old
    → AreAmounts (told ++ one ∷ []) new
amount_put told one old new below is are k own at_k = by_case (slice_get_set old one.of k (get_or old one.of [] ++ one.amount ∷ []) own (ap (λ l. slice_get l k) (sym is) ∙ at_k))
  where
    was : get_or old one.of [] ≡ amounts_of one.of told
    was = are one.of (get_or old one.of []) (slice_get-get_or old one.of [] below)

    by_case : ((k ≡ one.of) × (own ≡ get_or old one.of [] ++ one.amount ∷ [])) ⊎ ((one.of ≡ k → ⊥) × (slice_get old k ≡ Some own)) → own ≡ amounts_of k (told ++ one ∷ [])
    by_case (inl here) = here.1 ∙ ap (λ l. l ++ one.amount ∷ []) was ∙ sym (amount_own told one) ∙ ap (λ n. amounts_of n (told ++ one ∷ [])) (sym here.0)
    by_case (inr other) = are k own other.1 ∙ sym (amount_other k told one other.0)

-- of one that isn't among them nothing is told
pub amount_left : (told : List Told) (one : Told) (lists : List (List ℕ)) → length lists ≤ one.of → AreAmounts told lists → AreAmounts (told ++ one ∷ []) lists
amount_left told one lists past are k own at_k =
    let below = slice_get_within lists k own at_k in
    are k own at_k ∙ sym (amount_other k told one (λ e. omega (arith, e, below, past)))

pub replicated : {X : Type 0} (n : ℕ) (x y : X) (k : ℕ) → slice_get (replicate n x) k ≡ Some y → y ≡ x
replicated zero x y k here = absurd cc
replicated (suc n) x y zero here = same_Some y x (sym here)
replicated (suc n) x y (suc k) here = replicated n x y k here

pub no_amounts : (many : ℕ) (lists : List (List ℕ)) → lists ≡ replicate many [] → AreAmounts [] lists
no_amounts many lists is k own at_k = replicated many [] own k (ap (λ l. slice_get l k) (sym is) ∙ at_k)

-- the spread of numbers in order is that of the numbers
pub spread_is : (numbers sorted : List ℕ) → IsPermutation numbers sorted → IsSorted nat_cmp sorted → IsSpread numbers (spread_in sorted)
spread_is numbers sorted same rises = by_case (cases_eq (length sorted) 0)
  where
    long : length sorted ≡ length numbers
    long = length_permutation numbers sorted same

    by_test : (b : Bool) → (b ≡ true → length numbers ≡ 0) → IsSpread numbers (cond b None (Some (record { min = slice_index sorted 0; mid = slice_index sorted ((length sorted - 1) / 2); max = slice_index sorted (length sorted - 1) })))
    by_test true none = none refl
    by_test false none = record { sorted = sorted; same = same; rises = rises; min = refl; mid = refl; max = refl }

    by_case : (length sorted ≡ 0) ⊎ (length sorted ≡ 0 → ⊥) → IsSpread numbers (spread_in sorted)
    by_case (inl none) = by_test (nat_eq (length sorted) 0) (λ e. omega (arith, none, long))
    by_case (inr some) = by_test (nat_eq (length sorted) 0) (λ e. let clash : true ≡ false = sym e ∙ ne_eqb (length sorted) 0 some in absurd cc)

-- the spread of the numbers that were read
pub spread_at : (told : List Told) (amounts : List (Vec ℕ Global)) (k : ℕ) (own : Vec ℕ Global) (numbers : List ℕ) (spread : Option Spread) → k < length amounts → numbers ≡ own.items
    → own ≡ get_or amounts k own → AreAmounts told (lists_of amounts) → IsSpread numbers spread → IsSpread (amounts_of k told) spread
spread_at told amounts k own numbers spread below numbers_are own_is are is =
    let there = slice_get_read amounts (length amounts) k own refl below own_is in
    let its : own.items ≡ amounts_of k told = are k own.items (slice_get-map items_of amounts k ∙ ap (option_map items_of) there) in
    subst (λ l. IsSpread l spread) (numbers_are ∙ its) is

pub spreads_more : (told : List Told) (spreads new : List (Option Spread)) (k : ℕ) (own : Option Spread) → length spreads ≡ k → new ≡ spreads ++ own ∷ [] → IsSpread (amounts_of k told) own
    → AreSpreads told spreads → AreSpreads told new
spreads_more told spreads new k own long is own_is are j x at_j = by_case (slice_get_push spreads own x j (ap (λ l. slice_get l j) (sym is) ∙ at_j))
  where
    by_case : (slice_get spreads j ≡ Some x) ⊎ ((j ≡ length spreads) × (x ≡ own)) → IsSpread (amounts_of j told) x
    by_case (inl old) = are j x old
    by_case (inr here) = subst (λ n. IsSpread (amounts_of n told) x) (sym (here.0 ∙ long)) (subst (IsSpread (amounts_of k told)) (sym here.1) own_is)
