-- Lists by one more: a number below a bound, or an element at the end of a front.
use Rattle.std.proofs.Common.{◌≡◌, ℕ, ◌+◌, ◌<◌, Bool, true, false, cond, if◌then◌else◌, List, [], ◌∷◌, ◌++◌, length, take, get_or, slice_index_or, count_by, filter, refl, ap, sym, ◌∙◌, arith, append_assoc, append-nil, zero-add}
use Rattle.std.specs.List.{flat_map, range_with_len}
use Rattle.std.proofs.lemmas.List.{length-take, map-id, take_more}
use Rattle.std.proofs.lemmas.List.Elements.{filter-append}
use Rattle.std.proofs.lemmas.List.FromFn.{map-range_with_len_more}
use Rattle.std.proofs.lemmas.List.Sums.{count_by-le-length, count_by_more_no, count_by_more_yes}
use Rattle.std.proofs.lemmas.Grind.{flat_map-append}

-- ---- numbers below a bound

pub numbers_more : (n : ℕ) → range_with_len 0 (n + 1) ≡ range_with_len 0 n ++ n ∷ []
numbers_more n =
    sym (map-id (range_with_len 0 (n + 1))) ∙ map-range_with_len_more (λ k. k) 0 n n (zero-add n)
    ∙ ap (λ ns. ns ++ n ∷ []) (map-id (range_with_len 0 n))

-- those that pass a test
pub passing_more : (test : ℕ → Bool) (n : ℕ) → filter test (range_with_len 0 (n + 1)) ≡ filter test (range_with_len 0 n) ++ (if test n then n ∷ [] else [])
passing_more test n = ap (filter test) (numbers_more n) ∙ filter-append test (range_with_len 0 n) (n ∷ [])

-- ---- a front of a list

-- how many of it pass a test
pub counted_more : {X : Type 0} (test : X → Bool) (xs : List X) (i : ℕ) (d : X) → i < length xs →
    count_by test (take (i + 1) xs) ≡ count_by test (take i xs) + cond (test (get_or xs i d)) 1 0
counted_more test xs i d below = by_test (test (get_or xs i d)) refl
  where
    by_test : (b : Bool) → test (get_or xs i d) ≡ b → count_by test (take (i + 1) xs) ≡ count_by test (take i xs) + cond b 1 0
    by_test true is = count_by_more_yes test xs i d below is
    by_test false is = let e = count_by_more_no test xs i d below is in omega (arith, e)

-- those that passed up to here are fewer than all
pub count_fits : {X : Type 0} (test : X → Bool) (xs : List X) (i n : ℕ) → n ≡ count_by test (take i xs) → i < length xs → n < length xs
count_fits test xs i n is below =
    let most = count_by-le-length test (take i xs) in let taken = length-take i xs in omega (arith, is, below, most, taken)

-- what each of it says, in a row
pub grown : {X Y : Type 0} (text : X → List Y) (xs : List X) (i : ℕ) (d : X) (start : List Y) → i < length xs →
    (start ++ flat_map text (take i xs)) ++ text (slice_index_or xs i d) ≡ start ++ flat_map text (take (i + 1) xs)
grown text xs i d start below =
    append_assoc start (flat_map text (take i xs)) (text (slice_index_or xs i d))
    ∙ ap (λ t. start ++ t) (ap (λ t. flat_map text (take i xs) ++ t) (sym (append-nil (text (slice_index_or xs i d))))
    ∙ sym (flat_map-append text (take i xs) (slice_index_or xs i d ∷ [])) ∙ sym (ap (flat_map text) (take_more xs i d below)))
