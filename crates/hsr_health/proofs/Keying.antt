-- Numbers counted by what they are, one after the other.
use Rattle.std.proofs.Common.{◌≡◌, ℕ, zero, suc, ◌+◌, ◌-◌, ◌<◌, ◌≤◌, ◌^◌, min, true, false, cond, List, [], ◌∷◌, ◌++◌, length, set, take, get_or, ◌⊎◌, inl, inr, refl, sym, ap, subst, ◌∙◌, arith, Option, Some, None}
use Rattle.std.specs.Prelude.{nat_eq, count_by, slice_get, Contains, IsPermutation}
use Rattle.std.proofs.lemmas.Bool.{cases_eq, eq-eqb, eqb-false, eqb-true, ne_eqb}
use Rattle.std.proofs.lemmas.List.{get_or-take, length_push, length-take}
use Rattle.std.proofs.lemmas.List.Elements.{Contains-append_left, Contains-append_right, Contains-push, Contains-push_cases}
use Rattle.std.proofs.lemmas.List.Sorted.{Contains-permutation, IsPermutation-sym, sum_by-IsPermutation}
use Rattle.std.proofs.lemmas.List.Sums.{count_by-le-length, get_or-le-sum_by, sum_by-cons, sum_by_push}
use Rattle.std.proofs.lemmas.Option.{get_or_from_slice_get, same_Some, slice_get-get_or, slice_get_within}
use Rattle.std.specs.List.Sorted.{IsNonDecreasing}
use Rattle.hsr_health.specs.ByKey.{AreCountsOf, counted_more, has_key}
use Rattle.hsr_health.specs.declared.by_key.KeyCount.{KeyCount}
use Rattle.hsr_sightings.proofs.Counting.{slice_get_end, slice_get_left}
use Rattle.hsr_sightings.proofs.Gathering.{slice_get_push, slice_get_set}

-- ---- counts

pub count_push : (q : ℕ) (keys : List ℕ) (key : ℕ) → count_by (λ x. nat_eq x q) (keys ++ key ∷ []) ≡ count_by (λ x. nat_eq x q) keys + cond (nat_eq key q) 1 0
count_push q keys key = sum_by_push (λ x. cond (nat_eq x q) 1 0) keys key

count_own : (q : ℕ) (keys : List ℕ) (key : ℕ) → key ≡ q → count_by (λ x. nat_eq x q) (keys ++ key ∷ []) ≡ count_by (λ x. nat_eq x q) keys + 1
count_own q keys key same = count_push q keys key ∙ ap (λ b. count_by (λ x. nat_eq x q) keys + cond b 1 0) (eq-eqb key q same)

count_other : (q : ℕ) (keys : List ℕ) (key : ℕ) → (key ≡ q → ⊥) → count_by (λ x. nat_eq x q) (keys ++ key ∷ []) ≡ count_by (λ x. nat_eq x q) keys
count_other q keys key other = count_push q keys key ∙ ap (λ b. count_by (λ x. nat_eq x q) keys + cond b 1 0) (ne_eqb key q other) ∙ omega arith

pub none_counted : (q : ℕ) (keys : List ℕ) → (Contains keys q → ⊥) → count_by (λ x. nat_eq x q) keys ≡ 0
none_counted q [] none = refl
none_counted q (x ∷ keys) none =
    let rest = none_counted q keys (λ has. none (Contains-append_right (x ∷ []) keys q has)) in
    let other : nat_eq x q ≡ false = ne_eqb x q (λ e. none (0, omega arith, e)) in
    sum_by-cons (λ y. cond (nat_eq y q) 1 0) x keys ∙ ap (λ b. cond b 1 0 + count_by (λ y. nat_eq y q) keys) other ∙ omega (arith, rest)

pub some_counted : (q : ℕ) (keys : List ℕ) → Contains keys q → 0 < count_by (λ x. nat_eq x q) keys
some_counted q keys has =
    let own : ◌≡◌ {A = ℕ} (cond (nat_eq (get_or keys has.0 q) q) 1 0) 1 = ap (λ b. cond b 1 0) (eq-eqb (get_or keys has.0 q) q has.2) in
    let le = get_or-le-sum_by (λ y. cond (nat_eq y q) 1 0) keys has.0 q has.1 in
    omega (arith, own, le)

-- ---- a number that is there already

-- what was there, with the same number
was_set : (counts : List KeyCount) (n k : ℕ) (own new a : KeyCount) → slice_get counts n ≡ Some own → new.key ≡ own.key → slice_get (set counts n new) k ≡ Some a
    → (b : KeyCount) × (slice_get counts k ≡ Some b) × (b.key ≡ a.key)
was_set counts n k own new a at_n same at_k = by_case (slice_get_set counts n k new a at_k)
  where
    by_case : ((k ≡ n) × (a ≡ new)) ⊎ ((n ≡ k → ⊥) × (slice_get counts k ≡ Some a)) → (b : KeyCount) × (slice_get counts k ≡ Some b) × (b.key ≡ a.key)
    by_case (inl here) = (own, ap (slice_get counts) here.0 ∙ at_n, sym (ap (λ (x : KeyCount). x.key) here.1 ∙ same))
    by_case (inr other) = (a, other.1, refl)

-- it is there still, with the same number
still_set : (counts : List KeyCount) (n k : ℕ) (own new a : KeyCount) → slice_get counts n ≡ Some own → new.key ≡ own.key → slice_get counts k ≡ Some a
    → (b : KeyCount) × (slice_get (set counts n new) k ≡ Some b) × (b.key ≡ a.key)
still_set [] n k own new a at_n same at_k = absurd cc
still_set (x ∷ counts) zero zero own new a at_n same at_k = (new, refl, same ∙ ap (λ (y : KeyCount). y.key) (same_Some own a (sym at_n ∙ at_k)))
still_set (x ∷ counts) zero (suc k) own new a at_n same at_k = (a, at_k, refl)
still_set (x ∷ counts) (suc n) zero own new a at_n same at_k = (a, at_k, refl)
still_set (x ∷ counts) (suc n) (suc k) own new a at_n same at_k = still_set counts n k own new a at_n same at_k

pub same_key : (keys : List ℕ) (counts : List KeyCount) (n key : ℕ) (own new : KeyCount) → slice_get counts n ≡ Some own → n + 1 ≡ length counts → own.key ≡ key → new.key ≡ key
    → new.count ≡ min (own.count + 1) (2 ^ 64 - 1) → length keys < 2 ^ 63 → AreCountsOf keys counts → AreCountsOf (keys ++ key ∷ []) (set counts n new)
same_key keys counts n key own new at_n last own_key new_key new_count few are = record {
  each = λ k a at_k. by_case k a (slice_get_set counts n k new a at_k);
  there = λ k a at_k. let was = was_set counts n k own new a at_n same at_k in
      Contains-append_left keys (key ∷ []) a.key (subst (Contains keys) was.2 (are.there k was.0 was.1));
  rise = λ j k a b before at_j at_k.
      let was_j = was_set counts n j own new a at_n same at_j in
      let was_k = was_set counts n k own new b at_n same at_k in
      let less = are.rise j k was_j.0 was_k.0 before was_j.1 was_k.1 in
      omega (arith, less, was_j.2, was_k.2);
  all = λ x has. by_has x (Contains-push_cases keys key x has);
}
  where
    same : new.key ≡ own.key
    same = new_key ∙ sym own_key

    by_case : (k : ℕ) (a : KeyCount) → ((k ≡ n) × (a ≡ new)) ⊎ ((n ≡ k → ⊥) × (slice_get counts k ≡ Some a)) → a.count ≡ count_by (λ x. nat_eq x a.key) (keys ++ key ∷ [])
    by_case k a (inl here) =
        let old = are.each n own at_n in
        let most = count_by-le-length (λ x. nat_eq x own.key) keys in
        let more = count_own own.key keys key (sym own_key) in
        let value : new.count ≡ count_by (λ x. nat_eq x own.key) (keys ++ key ∷ []) = omega (arith, new_count, old, most, few, more) in
        ap (λ (y : KeyCount). y.count) here.1 ∙ value ∙ ap (λ q. count_by (λ x. nat_eq x q) (keys ++ key ∷ [])) (sym (ap (λ (y : KeyCount). y.key) here.1 ∙ same))
    by_case k a (inr other) =
        let below = slice_get_within counts k a other.1 in
        let less = are.rise k n a own (omega (arith, below, last, other.0)) other.1 at_n in
        are.each k a other.1 ∙ sym (count_other a.key keys key (λ e. omega (arith, e, less, own_key)))

    by_has : (x : ℕ) → Contains keys x ⊎ (key ≡ x) → (k : ℕ) × (a : KeyCount) × (slice_get (set counts n new) k ≡ Some a) × (a.key ≡ x)
    by_has x (inl has) =
        let was = are.all x has in
        let still = still_set counts n was.0 own new was.1 at_n same was.2 in
        (was.0, still.0, still.1, still.2 ∙ was.3)
    by_has x (inr here) =
        let still = still_set counts n n own new own at_n same at_n in
        (n, still.0, still.1, still.2 ∙ own_key ∙ here)

-- ---- a new number

pub new_key : (keys : List ℕ) (counts : List KeyCount) (key : ℕ) (new : KeyCount) → new.key ≡ key → new.count ≡ 1
    → ((n : ℕ) (own : KeyCount) → n + 1 ≡ length counts → slice_get counts n ≡ Some own → own.key ≡ key → ⊥) → ((x : ℕ) → Contains keys x → x ≤ key) → AreCountsOf keys counts
    → AreCountsOf (keys ++ key ∷ []) (counts ++ new ∷ [])
new_key keys counts key new key_is count_is other most are = record {
  each = λ k a at_k. by_case k a (slice_get_push counts new a k at_k);
  there = λ k a at_k. by_there k a (slice_get_push counts new a k at_k);
  rise = λ j k a b before at_j at_k. by_order j k a b before (slice_get_push counts new a j at_j) (slice_get_push counts new b k at_k) (slice_get_within (counts ++ new ∷ []) k b at_k);
  all = λ x has. by_has x (Contains-push_cases keys key x has);
}
  where
    -- all that are there are less
    less : (k : ℕ) (a : KeyCount) → slice_get counts k ≡ Some a → a.key < key
    less k a at_k = by_last (cases_eq (k + 1) (length counts))
      where
        by_last : (k + 1 ≡ length counts) ⊎ (k + 1 ≡ length counts → ⊥) → a.key < key
        by_last (inl last) = let le = most a.key (are.there k a at_k) in let apart = other k a last at_k in omega (arith, le, apart)
        by_last (inr inner) =
            let below = slice_get_within counts k a at_k in
            let last : slice_get counts (length counts - 1) ≡ Some (get_or counts (length counts - 1) a) = slice_get-get_or counts (length counts - 1) a (omega (arith, below)) in
            let before = are.rise k (length counts - 1) a (get_or counts (length counts - 1) a) (omega (arith, below, inner)) at_k last in
            let le = most (get_or counts (length counts - 1) a).key (are.there (length counts - 1) (get_or counts (length counts - 1) a) last) in
            omega (arith, before, le)

    not_there : Contains keys key → ⊥
    not_there has = let was = are.all key has in let before = less was.0 was.1 was.2 in omega (arith, before, was.3)

    by_case : (k : ℕ) (a : KeyCount) → (slice_get counts k ≡ Some a) ⊎ ((k ≡ length counts) × (a ≡ new)) → a.count ≡ count_by (λ x. nat_eq x a.key) (keys ++ key ∷ [])
    by_case k a (inl old) = let before = less k a old in are.each k a old ∙ sym (count_other a.key keys key (λ e. omega (arith, e, before)))
    by_case k a (inr own) =
        let one = count_own key keys key refl in
        let none = none_counted key keys not_there in
        let value : new.count ≡ count_by (λ x. nat_eq x key) (keys ++ key ∷ []) = omega (arith, count_is, one, none) in
        ap (λ (y : KeyCount). y.count) own.1 ∙ value ∙ ap (λ q. count_by (λ x. nat_eq x q) (keys ++ key ∷ [])) (sym (ap (λ (y : KeyCount). y.key) own.1 ∙ key_is))

    by_there : (k : ℕ) (a : KeyCount) → (slice_get counts k ≡ Some a) ⊎ ((k ≡ length counts) × (a ≡ new)) → Contains (keys ++ key ∷ []) a.key
    by_there k a (inl old) = Contains-append_left keys (key ∷ []) a.key (are.there k a old)
    by_there k a (inr own) = subst (Contains (keys ++ key ∷ [])) (sym (ap (λ (y : KeyCount). y.key) own.1 ∙ key_is)) (Contains-push keys key)

    by_order : (j k : ℕ) (a b : KeyCount) → j < k → (slice_get counts j ≡ Some a) ⊎ ((j ≡ length counts) × (a ≡ new)) → (slice_get counts k ≡ Some b) ⊎ ((k ≡ length counts) × (b ≡ new))
        → k < length (counts ++ new ∷ []) → a.key < b.key
    by_order j k a b before (inl old_a) (inl old_b) below = are.rise j k a b before old_a old_b
    by_order j k a b before (inl old_a) (inr own_b) below = let own = less j a old_a in omega (arith, own, ap (λ (y : KeyCount). y.key) own_b.1, key_is)
    by_order j k a b before (inr own_a) last below = absurd (omega (arith, before, own_a.0, below, length_push counts new))

    by_has : (x : ℕ) → Contains keys x ⊎ (key ≡ x) → (k : ℕ) × (a : KeyCount) × (slice_get (counts ++ new ∷ []) k ≡ Some a) × (a.key ≡ x)
    by_has x (inl has) =
        let was = are.all x has in
        (was.0, was.1, slice_get_left counts (new ∷ []) was.0 (slice_get_within counts was.0 was.1 was.2) ∙ was.2, was.3)
    by_has x (inr here) = (length counts, new, slice_get_end counts new (length counts) refl, key_is ∙ here)

-- ---- one number more

last_key : (key : ℕ) (o : Option KeyCount) → has_key key o ≡ true → (own : KeyCount) × (o ≡ Some own) × (own.key ≡ key)
last_key key None is = absurd cc
last_key key (Some own) is = (own, refl, eqb-true own.key key is)

pub put_same : (keys : List ℕ) (counts new : List KeyCount) (key : ℕ) → length keys < 2 ^ 63 → has_key key (slice_get counts (length counts - 1)) ≡ true
    → ((own : KeyCount) → slice_get counts (length counts - 1) ≡ Some own → new ≡ set counts (length counts - 1) (counted_more own)) → AreCountsOf keys counts → AreCountsOf (keys ++ key ∷ []) new
put_same keys counts new key few has new_is are =
    let own = last_key key (slice_get counts (length counts - 1)) has in
    let below = slice_get_within counts (length counts - 1) own.0 own.1 in
    subst (AreCountsOf (keys ++ key ∷ [])) (sym (new_is own.0 own.1))
    (same_key keys counts (length counts - 1) key own.0 (counted_more own.0) own.1 (omega (arith, below)) own.2 own.2 refl few are)

pub put_new : (keys : List ℕ) (counts new : List KeyCount) (key : ℕ) (own : KeyCount) → has_key key (slice_get counts (length counts - 1)) ≡ false → new ≡ counts ++ own ∷ [] → own.key ≡ key → own.count ≡ 1
    → ((x : ℕ) → Contains keys x → x ≤ key) → AreCountsOf keys counts → AreCountsOf (keys ++ key ∷ []) new
put_new keys counts new key own other new_is key_is count_is most are =
    subst (AreCountsOf (keys ++ key ∷ [])) (sym new_is) (new_key keys counts key own key_is count_is apart most are)
  where
    apart : (n : ℕ) (last : KeyCount) → n + 1 ≡ length counts → slice_get counts n ≡ Some last → last.key ≡ key → ⊥
    apart n last long here same =
        let place : length counts - 1 ≡ n = omega (arith, long) in
        eqb-false last.key key (sym (ap (has_key key) (ap (slice_get counts) place ∙ here)) ∙ other) same

-- ---- the whole

-- of numbers in order, none of the first ones is greater than the next
pub most_so_far : (sorted : List ℕ) (i : ℕ) → IsNonDecreasing sorted → i < length sorted → (x : ℕ) → Contains (take i sorted) x → x ≤ get_or sorted i 0
most_so_far sorted i rises below x has =
    let short = length-take i sorted in
    let before : has.0 < i = omega (arith, has.1, short, below) in
    let own = get_or-take i sorted has.0 x before in
    let le = rises has.0 i x (omega (arith, before)) below in
    let same : get_or sorted i 0 ≡ get_or sorted i x = get_or_from_slice_get sorted i (get_or sorted i x) 0 (slice_get-get_or sorted i x below) in
    omega (arith, own, le, same, has.2)

-- before the first number nothing is counted
pub none_yet : AreCountsOf [] []
none_yet = record {
  each = λ k a at_k. absurd cc;
  there = λ k a at_k. absurd cc;
  rise = λ j k a b before at_j at_k. absurd cc;
  all = λ x has. absurd (omega (arith, has.1));
}

-- the counts of numbers in order are those of the numbers
pub counts_of_sorted : (keys sorted : List ℕ) (counts : List KeyCount) → IsPermutation keys sorted → AreCountsOf sorted counts → AreCountsOf keys counts
counts_of_sorted keys sorted counts same are = record {
  each = λ k a at_k. are.each k a at_k ∙ sum_by-IsPermutation (λ x. cond (nat_eq x a.key) 1 0) keys sorted same;
  there = λ k a at_k. Contains-permutation sorted keys a.key (IsPermutation-sym keys sorted same) (are.there k a at_k);
  rise = are.rise;
  all = λ x has. are.all x (Contains-permutation keys sorted x same has);
}
