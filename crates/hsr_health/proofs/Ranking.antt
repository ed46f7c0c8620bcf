-- Reasons by rank.
use Rattle.std.proofs.Common.{◌≡◌, ℕ, zero, suc, ◌+◌, ◌-◌, ◌*◌, ◌<◌, ◌≤◌, ◌^◌, min, List, [], ◌∷◌, ◌++◌, append_assoc, get_or, length, take, ◌⊎◌, inl, inr, refl, sym, ap, ◌∙◌, arith}
use Rattle.std.specs.List.{flat_map, range_with_len}
use Rattle.std.specs.Prelude.{nat_le}
use Rattle.std.proofs.Common.{le-leb}
use Rattle.std.proofs.lemmas.Bool.{cases_lt, lt-leb}
use Rattle.std.proofs.lemmas.List.{take_more}
use Rattle.std.proofs.lemmas.List.Sums.{sum_by_push}
use Rattle.hsr_health.specs.Order.{wrong_lanes}
use Rattle.hsr_health.specs.declared.counts.Counts.{Counts}

nothing_more : {X : Type 0} (xs : List X) → xs ++ [] ≡ xs
nothing_more [] = refl
nothing_more (x ∷ xs) = ap (λ l. x ∷ l) (nothing_more xs)

-- those of one rank more
ranks_more : {X : Type 0} (f : ℕ → List X) (a n : ℕ) → flat_map f (range_with_len a (n + 1)) ≡ flat_map f (range_with_len a n) ++ f (a + n)
ranks_more f a zero =
    let one : 0 + 1 ≡ suc 0 = omega arith in
    let same : a ≡ a + 0 = omega arith in
    ap (λ n. flat_map f (range_with_len a n)) one ∙ nothing_more (f a) ∙ ap f same
ranks_more f a (suc n) =
    let more : suc n + 1 ≡ suc (n + 1) = omega arith in
    let same : a + 1 + n ≡ a + suc n = omega arith in
    ap (λ m. flat_map f (range_with_len a m)) more ∙ ap (λ l. f a ++ l) (ranks_more f (a + 1) n) ∙ sym (append_assoc (f a) (flat_map f (range_with_len (a + 1) n)) (f (a + 1 + n))) ∙ ap (λ m. (f a ++ flat_map f (range_with_len (a + 1) n)) ++ f m) same

pub flat_more : {X : Type 0} (f : ℕ → List X) (n : ℕ) → flat_map f (range_with_len 0 (n + 1)) ≡ flat_map f (range_with_len 0 n) ++ f n
flat_more f n = let same : 0 + n ≡ n = omega arith in ranks_more f 0 n ∙ ap (λ m. flat_map f (range_with_len 0 n) ++ f m) same

pub ranked : {X : Type 0} (f : ℕ → List X) (n : ℕ) (old new : List X) → old ≡ flat_map f (range_with_len 0 n) → new ≡ old ++ f n → new ≡ flat_map f (range_with_len 0 (n + 1))
ranked f n old new old_is new_is =
    let same : n ≡ 0 + n = omega arith in
    new_is ∙ ap (λ l. l ++ f n) old_is ∙ ap (λ m. flat_map f (range_with_len 0 n) ++ f m) same ∙ sym (ranks_more f 0 n)

-- ---- copies whose lane is another one

-- one more count
pub lanes_more : (counts : List Counts) (i : ℕ) (own : Counts) (old new : ℕ) → i < length counts → old ≡ min (wrong_lanes (take i counts)) (2 ^ 64 - 1) → new ≡ min (old + (get_or counts i own).lane) (2 ^ 64 - 1)
    → new ≡ min (wrong_lanes (take (i + 1) counts)) (2 ^ 64 - 1)
lanes_more counts i own old new below old_is new_is =
    let grown : wrong_lanes (take (i + 1) counts) ≡ wrong_lanes (take i counts) + (get_or counts i own).lane
    = ap wrong_lanes (take_more counts i own below) ∙ sum_by_push (λ (x : Counts). x.lane) (take i counts) (get_or counts i own) in
    omega (arith, grown, old_is, new_is)

-- more than a half
pub tenth_most : (lane copies sum product : ℕ) → lane ≡ min sum (2 ^ 64 - 1) → copies < 2 ^ 64 → product ≡ min (lane * 10) (2 ^ 64 - 1) → nat_le copies product ≡ nat_le copies (sum * 10)
tenth_most lane copies sum product is few times = by_case (cases_lt (sum * 10) copies)
  where
    by_case : (sum * 10 < copies) ⊎ (copies ≤ sum * 10) → nat_le copies product ≡ nat_le copies (sum * 10)
    by_case (inl less) = let below : product < copies = omega (arith, less, is, few, times) in lt-leb copies product below ∙ sym (lt-leb copies (sum * 10) less)
    by_case (inr more) = let above : copies ≤ product = omega (arith, more, is, few, times) in le-leb copies product above ∙ sym (le-leb copies (sum * 10) more)
