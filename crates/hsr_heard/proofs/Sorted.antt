-- Copies in the order of the addresses that they are about: those about one address stand together, as they stood before.
use Rattle.std.proofs.Common.{◌≡◌, ℕ, zero, suc, ◌+◌, ◌-◌, ◌<◌, ◌≤◌, ◌==◌, ◌&&◌, Bool, true, false, cond, not, List, [], ◌∷◌, ◌++◌, get_or, length, take, drop, ◌⊎◌, inl, inr, refl, sym, ap, subst, ◌∙◌, arith, Some}
use Rattle.std.specs.Prelude.{nat_lt, filter, slice_get, slice_range}
use Rattle.std.specs.List.Sorted.{IsSortedByKey, IsStableByKey}
use Rattle.std.specs.Ordering.{is_lt, nat_cmp}
use Rattle.std.specs.declared.cmp.Ordering.TheVariants.{Less, Equal, Greater}
use Rattle.std.proofs.lemmas.Bool.{cases_lt, eq-eqb, false_from_ne_true}
use Rattle.std.proofs.lemmas.Bool.Decides.{nat_tests}
use Rattle.std.proofs.lemmas.List.{append-nil, take-append-drop}
use Rattle.std.proofs.lemmas.List.Elements.{filter-append, filter_agree}
use Rattle.std.proofs.lemmas.List.Sorted.{IsNonDecreasingBy-from_sort}
use Rattle.std.proofs.lemmas.Option.{get_or_from_slice_get, same_Some, slice_get-get_or, slice_get_within}
use Rattle.std.proofs.lemmas.Slice.Eq.{bytes_eq-Decides}
use Rattle.hsr_address.specs.Numbers.{number_of}
use Rattle.hsr_address.proofs.Numbering.{same_by_number}
use Rattle.hsr_frame.specs.Address.{IsAddress}
use Rattle.hsr_heard.specs.Finding.{IsRun, key_of}
use Rattle.hsr_heard.specs.Subjects.{is_about, those_about}
use Rattle.hsr_heard.specs.declared.heard.Heard.{Heard}

-- ---- parts of lists

pub taken : {X : Type 0} (n : ℕ) (xs : List X) (k : ℕ) (x : X) → slice_get (take n xs) k ≡ Some x → (k < n) × (slice_get xs k ≡ Some x)
taken zero xs k x here = absurd cc
taken (suc n) [] k x here = absurd cc
taken (suc n) (y ∷ xs) zero x here = (omega arith, here)
taken (suc n) (y ∷ xs) (suc k) x here = let rest = taken n xs k x here in (omega (arith, rest.0), rest.1)

pub dropped : {X : Type 0} (n : ℕ) (xs : List X) (k : ℕ) (x : X) → slice_get (drop n xs) k ≡ Some x → slice_get xs (n + k) ≡ Some x
dropped zero xs k x here = ap (slice_get xs) {x = 0 + k} {y = k} (omega arith) ∙ here
dropped (suc n) [] k x here = absurd cc
dropped (suc n) (y ∷ xs) k x here = ap (slice_get (y ∷ xs)) {x = suc n + k} {y = suc (n + k)} (omega arith) ∙ dropped n xs k x here

pub taken_back : {X : Type 0} (n : ℕ) (xs : List X) (k : ℕ) (x : X) → k < n → slice_get xs k ≡ Some x → slice_get (take n xs) k ≡ Some x
taken_back zero xs k x below here = absurd (omega (arith, below))
taken_back (suc n) [] k x below here = absurd cc
taken_back (suc n) (y ∷ xs) zero x below here = here
taken_back (suc n) (y ∷ xs) (suc k) x below here = taken_back n xs k x (omega (arith, below)) here

pub dropped_back : {X : Type 0} (n : ℕ) (xs : List X) (k : ℕ) (x : X) → slice_get xs (n + k) ≡ Some x → slice_get (drop n xs) k ≡ Some x
dropped_back zero xs k x here = ap (slice_get xs) {x = k} {y = 0 + k} (omega arith) ∙ here
dropped_back (suc n) [] k x here = absurd cc
dropped_back (suc n) (y ∷ xs) k x here = dropped_back n xs k x (ap (slice_get (y ∷ xs)) {x = suc (n + k)} {y = suc n + k} (omega arith) ∙ here)

-- an element between two indexes
pub in_range : {X : Type 0} (xs : List X) (from until i : ℕ) (x : X) → from ≤ i → i < until → slice_get xs i ≡ Some x → slice_get (slice_range xs from until) (i - from) ≡ Some x
in_range xs from until i x least below here =
    taken_back (until - from) (drop from xs) (i - from) x (omega (arith, least, below))
    (dropped_back from xs (i - from) x (ap (slice_get xs) {x = from + (i - from)} {y = i} (omega (arith, least)) ∙ here))

filter_none : {X : Type 0} (p : X → Bool) (xs : List X) → ((k : ℕ) (x : X) → slice_get xs k ≡ Some x → p x ≡ false) → filter p xs ≡ []
filter_none p [] none = refl
filter_none p (x ∷ xs) none = ap (λ b. cond b (x ∷ filter p xs) (filter p xs)) (none zero x refl) ∙ filter_none p xs (λ k y here. none (suc k) y here)

filter_all : {X : Type 0} (p : X → Bool) (xs : List X) → ((k : ℕ) (x : X) → slice_get xs k ≡ Some x → p x ≡ true) → filter p xs ≡ xs
filter_all p [] all = refl
filter_all p (x ∷ xs) all = ap (λ b. cond b (x ∷ filter p xs) (filter p xs)) (all zero x refl) ∙ ap (λ l. x ∷ l) (filter_all p xs (λ k y here. all (suc k) y here))

-- up to an index, between two, and from the second on
in_three : {X : Type 0} (xs : List X) (a b : ℕ) → xs ≡ take a xs ++ (slice_range xs a b ++ drop (b - a) (drop a xs))
in_three xs a b = sym (take-append-drop a xs) ∙ ap (λ l. take a xs ++ l) (sym (take-append-drop (b - a) (drop a xs)))

-- those that stand in one part alone
filter_part : {X : Type 0} (p : X → Bool) (xs front part back : List X) → xs ≡ front ++ (part ++ back) → filter p front ≡ [] → filter p part ≡ part → filter p back ≡ [] → filter p xs ≡ part
filter_part p xs front part back is before here behind =
    ap (filter p) is ∙ filter-append p front (part ++ back) ∙ ap (λ l. l ++ filter p (part ++ back)) before ∙ filter-append p part back
    ∙ ap (λ l. l ++ filter p back) here ∙ ap (λ l. part ++ l) behind ∙ append-nil part

-- ---- the copies about one address

pub is_about_same : (mac : List ℕ) (one : Heard) → one.said.about ≡ mac → is_about mac one ≡ true
is_about_same mac one same = (bytes_eq-Decides one.said.about mac).1 same

pub same_about : (mac : List ℕ) (one : Heard) → is_about mac one ≡ true → one.said.about ≡ mac
same_about mac one is = (bytes_eq-Decides one.said.about mac).0 is

other_key : (mac : List ℕ) (one : Heard) → (key_of one ≡ number_of mac → ⊥) → is_about mac one ≡ false
other_key mac one other = false_from_ne_true (is_about mac one) (λ is. other (ap number_of (same_about mac one is)))

-- numbers don't fall
pub keys_rise : (copies : List Heard) (i j : ℕ) (a b : Heard) → IsSortedByKey key_of nat_cmp copies → i ≤ j → slice_get copies i ≡ Some a → slice_get copies j ≡ Some b → key_of a ≤ key_of b
keys_rise copies i j a b sorted le at_i at_j =
    let rise = IsNonDecreasingBy-from_sort key_of copies sorted i j a le (slice_get_within copies j b at_j) in
    omega (arith, rise, ap key_of (get_or_from_slice_get copies i a a at_i), ap key_of (get_or_from_slice_get copies j b a at_j))

module _ (copies : List Heard) (from until : ℕ) (sorted : IsSortedByKey key_of nat_cmp copies) (run : IsRun copies from until) where
  -- behind a run all have a greater number
  pub run_below : (j : ℕ) (b : Heard) → until ≤ j → slice_get copies j ≡ Some b → key_of run.first < key_of b
  run_below j b past at_j =
      let within = slice_get_within copies j b at_j in
      let next = slice_get-get_or copies until b (omega (arith, past, within)) in
      let up = keys_rise copies from until run.first (get_or copies until b) sorted (omega (arith, run.more)) run.first_is next in
      let on = keys_rise copies until j (get_or copies until b) b sorted past next at_j in
      let other = run.other (get_or copies until b) next in
      by_order up on other (cases_lt (key_of run.first) (key_of (get_or copies until b)))
    where
      by_order : key_of run.first ≤ key_of (get_or copies until b) → key_of (get_or copies until b) ≤ key_of b → (key_of (get_or copies until b) ≡ key_of run.first → ⊥)
          → (key_of run.first < key_of (get_or copies until b)) ⊎ (key_of (get_or copies until b) ≤ key_of run.first) → key_of run.first < key_of b
      by_order up on other (inl less) = omega (arith, less, on)
      by_order up on other (inr not_less) = absurd (other (omega (arith, up, not_less)))

  pub run_is : ((i : ℕ) (a : Heard) → i < from → slice_get copies i ≡ Some a → key_of a < key_of run.first) → those_about run.first.said.about copies ≡ slice_range copies from until
  run_is before =
      filter_part (is_about run.first.said.about) copies (take from copies) (slice_range copies from until) (drop (until - from) (drop from copies)) (in_three copies from until)
      (filter_none _ (take from copies) (λ k x here. let its = taken from copies k x here in other_key run.first.said.about x (λ same. omega (arith, same, before k x its.0 its.1))))
      (filter_all _ (slice_range copies from until) (λ k x here.
      let its = taken (until - from) (drop from copies) k x here in
      is_about_same run.first.said.about x (run.same (from + k) x (omega arith) (omega (arith, its.0)) (dropped from copies k x its.1))))
      (filter_none _ (drop (until - from) (drop from copies)) (λ k x here.
      other_key run.first.said.about x (λ same.
      let there = dropped from copies ((until - from) + k) x (dropped (until - from) (drop from copies) k x here) in
      let above = run_below (from + ((until - from) + k)) x (omega (arith, run.more)) there in
      omega (arith, same, above))))

-- ---- where a run ends

pub run_made : (copies : List Heard) (from until own : ℕ) (first : Heard) → slice_get copies from ≡ Some first → from < until → until ≤ length copies → own ≡ key_of first → IsAddress first.said.about
    → ((k : ℕ) (one : Heard) → from ≤ k → k < until → slice_get copies k ≡ Some one → (key_of one ≡ own) × IsAddress one.said.about)
    → ((one : Heard) → slice_get copies until ≡ Some one → key_of one ≡ own → ⊥) → IsRun copies from until
run_made copies from until own first here more within own_is address same other = record {
  first = first;
  first_is = here;
  more = more;
  within = within;
  same = λ k one least below at_k. let its = same k one least below at_k in same_by_number one.said.about first.said.about its.1 address (its.0 ∙ own_is);
  other = λ one at_end is. other one at_end (is ∙ sym own_is);
}

pub same_more : (copies : List Heard) (from until own : ℕ) (next : Heard) → slice_get copies until ≡ Some next → key_of next ≡ own → IsAddress next.said.about
    → ((k : ℕ) (one : Heard) → from ≤ k → k < until → slice_get copies k ≡ Some one → (key_of one ≡ own) × IsAddress one.said.about)
    → (k : ℕ) (one : Heard) → from ≤ k → k < until + 1 → slice_get copies k ≡ Some one → (key_of one ≡ own) × IsAddress one.said.about
same_more copies from until own next here is address same k one least below at_k = by_case (cases_lt k until)
  where
    by_case : (k < until) ⊎ (until ≤ k) → (key_of one ≡ own) × IsAddress one.said.about
    by_case (inl before) = same k one least before at_k
    by_case (inr past) =
        let its : next ≡ one = same_Some next one (sym here ∙ ap (slice_get copies) {x = until} {y = k} (omega (arith, past, below)) ∙ at_k) in
        (ap key_of (sym its) ∙ is, subst (λ (x : Heard). IsAddress x.said.about) its address)

-- ---- a stable sort

less_is : (l e : Bool) → is_lt (cond l Less (cond e Equal Greater)) ≡ l
less_is true e = refl
less_is false true = refl
less_is false false = refl

less : (a b : ℕ) → is_lt (nat_cmp a b) ≡ nat_lt a b
less a b = less_is (nat_lt a b) (a == b)

neither : (a b : ℕ) → (not (nat_lt a b) && not (nat_lt b a)) ≡ (a == b)
neither a b = grind (arith, nat_tests)

tie_is : (a b : ℕ) → (not (is_lt (nat_cmp a b)) && not (is_lt (nat_cmp b a))) ≡ (a == b)
tie_is a b = ap (λ (x : Bool). not x && not (is_lt (nat_cmp b a))) (less a b) ∙ ap (λ (x : Bool). not (nat_lt a b) && not x) (less b a) ∙ neither a b

first_by : {X : Type 0} (a b : Bool) (x : X) (q : X → Bool) (p : X → Bool) (xs : List X) → p x ≡ a → q x ≡ b → (b ≡ true → a ≡ true) → filter q xs ≡ filter q (filter p xs)
    → cond b (x ∷ filter q xs) (filter q xs) ≡ filter q (cond a (x ∷ filter p xs) (filter p xs))
first_by true true x q p xs is_p is_q also same = ap (λ ys. x ∷ ys) same ∙ sym (ap (λ b. cond b (x ∷ filter q (filter p xs)) (filter q (filter p xs))) is_q)
first_by true false x q p xs is_p is_q also same = same ∙ sym (ap (λ b. cond b (x ∷ filter q (filter p xs)) (filter q (filter p xs))) is_q)
first_by false true x q p xs is_p is_q also same = let clash : false ≡ true = also refl in absurd cc
first_by false false x q p xs is_p is_q also same = same

-- of those that pass a wider test, the same pass
filter_narrow : {X : Type 0} (p q : X → Bool) → ((x : X) → q x ≡ true → p x ≡ true) → (xs : List X) → filter q xs ≡ filter q (filter p xs)
filter_narrow p q wider [] = refl
filter_narrow p q wider (x ∷ xs) = first_by (p x) (q x) x q p xs refl refl (wider x) (filter_narrow p q wider xs)

-- those about the address that a copy is about
pub those_same : (heard sorted : List Heard) (x : Heard) → IsStableByKey key_of nat_cmp heard sorted → those_about x.said.about sorted ≡ those_about x.said.about heard
those_same heard sorted x stable =
    filter_narrow p (is_about x.said.about) wider sorted ∙ ap (filter (is_about x.said.about)) kept ∙ sym (filter_narrow p (is_about x.said.about) wider heard)
  where
    p : Heard → Bool
    p y = key_of x == key_of y

    tied : (y : Heard) → (not (is_lt (nat_cmp (key_of x) (key_of y))) && not (is_lt (nat_cmp (key_of y) (key_of x)))) ≡ p y
    tied y = tie_is (key_of x) (key_of y)

    kept : filter p sorted ≡ filter p heard
    kept = filter_agree p (λ y. not (is_lt (nat_cmp (key_of x) (key_of y))) && not (is_lt (nat_cmp (key_of y) (key_of x)))) (λ y. sym (tied y)) sorted ∙ stable x
        ∙ filter_agree (λ y. not (is_lt (nat_cmp (key_of x) (key_of y))) && not (is_lt (nat_cmp (key_of y) (key_of x)))) p tied heard

    wider : (y : Heard) → is_about x.said.about y ≡ true → p y ≡ true
    wider y is = eq-eqb (key_of x) (key_of y) (sym (ap number_of (same_about x.said.about y is)))
