-- Bits that are set and cleared.
use Rattle.std.proofs.Common.{◌≡◌, ◌⊎◌, ◌==◌, ◌<◌, ◌≤◌, ◌+◌, ◌*◌, ◌/◌, ◌%◌, ◌^◌, ℕ, Bool, true, false, List, length, Some, refl, ap, ap₂, sym, ◌∙◌, arith, eqb-true, eq-eqb, nat_lt, subst, inl, inr, ⊎_elim, bit_or, bit_and, w64}
use Rattle.std.specs.Prelude.{if◌then◌else◌, slice_index_or}
use Rattle.std.specs.Int.{bit_at, bit_not, trailing_zeros}
use Rattle.std.proofs.lemmas.Nat.Bits.{bit_at_set_same, bit_at_set_other, bit_at_clear_same, bit_at_clear_other, bit_at-trailing_zeros, bit_at-zero}
use Rattle.std.proofs.lemmas.List.{get_or_past}
use Rattle.std.proofs.lemmas.Nat.{le_or_l, le_or_r}
use Rattle.hsr_bitset.specs.Numbers.{IsLowest, has, has_bit}

-- a test of two numbers, and what it tells
by_test : (i k : ℕ) (P : Bool → Type 0) → ((i ≡ k) → P true) → ((i ≡ k → ⊥) → P false) → P (i == k)
by_test i k P same other = of (i == k) refl
  where
    of : (b : Bool) → (i == k) ≡ b → P b
    of true e = same (eqb-true i k e)
    of false e = other (λ h. absurd (clash (sym (eq-eqb i k h) ∙ e)))
      where
        clash : true ≡ false → ⊥
        clash h = cc

pub bit_set : (word k i : ℕ) → k < 64 → has_bit (bit_or word (1 * 2 ^ k % 2 ^ 64)) i ≡ (if i == k then true else has_bit word i)
bit_set word k i within = by_test i k (λ b. has_bit (bit_or word (1 * 2 ^ k % 2 ^ 64)) i ≡ (if b then true else has_bit word i))
    (λ e. ap (λ (j : ℕ). has_bit (bit_or word (1 * 2 ^ k % 2 ^ 64)) j) e ∙ ap (λ b. b == 1) (bit_at_set_same w64 word k within))
    (λ no. ap (λ b. b == 1) (bit_at_set_other w64 word k within i no))

pub bit_cleared : (word k i : ℕ) → k < 64 → i < 64 → has_bit (bit_and word (bit_not w64 (1 * 2 ^ k % 2 ^ 64))) i ≡ (if i == k then false else has_bit word i)
bit_cleared word k i within below = by_test i k (λ b. has_bit (bit_and word (bit_not w64 (1 * 2 ^ k % 2 ^ 64))) i ≡ (if b then false else has_bit word i))
    (λ e. ap (λ (j : ℕ). has_bit (bit_and word (bit_not w64 (1 * 2 ^ k % 2 ^ 64))) j) e ∙ ap (λ b. b == 1) (bit_at_clear_same w64 word k within))
    (λ no. ap (λ b. b == 1) (bit_at_clear_other w64 word k within i below no))

pub nat_cases : (n m : ℕ) → (n < m) ⊎ (m ≤ n)
nat_cases n m = of (nat_lt n m) refl
  where
    of : (b : Bool) → nat_lt n m ≡ b → (n < m) ⊎ (m ≤ n)
    of true e = inl (grind (arith, e))
    of false e = inr (grind (arith, e))

-- the lowest bit of the first word that has one
pub lowest_word : (words : List ℕ) (i : ℕ) → i < length words → (slice_index_or words i 0 ≡ 0 → ⊥) → slice_index_or words i 0 < 2 ^ 64 → ((n : ℕ) → n < 64 * i → has words n ≡ false) →
    IsLowest (64 * length words) words (Some (64 * i + trailing_zeros w64 (slice_index_or words i 0)))
lowest_word words i within some fits below = (
  omega (arith, at.0, within),
  ap₂ (λ (j r : ℕ). has_bit (slice_index_or words j 0) r) index bit ∙ ap (λ b. b == 1) at.1,
  first,
)
  where
    word : ℕ
    word = slice_index_or words i 0

    t : ℕ
    t = trailing_zeros w64 (slice_index_or words i 0)

    at : (t < 64) × (bit_at word t ≡ 1) × ((i : ℕ) → i < t → bit_at word i ≡ 0)
    at = bit_at-trailing_zeros w64 word (omega (arith, some)) fits

    index : (64 * i + t) / 64 ≡ i
    index = let h = at.0 in omega (arith, h)

    bit : (64 * i + t) % 64 ≡ t
    bit = let h = at.0 in omega (arith, h)

    here : (n : ℕ) → 64 * i ≤ n → n < 64 * i + t → has words n ≡ false
    here n from under =
        let h = at.0 in
        let j : n / 64 ≡ i = omega (arith, h, from, under) in
        let low : n % 64 < t = omega (arith, h, from, under) in
        ap (λ (m : ℕ). has_bit (slice_index_or words m 0) (n % 64)) j ∙ ap (λ b. b == 1) (at.2 (n % 64) low)

    first : (n : ℕ) → n < 64 * i + t → has words n ≡ false
    first n under = ⊎_elim (λ h. below n h) (λ h. here n h under) (nat_cases n (64 * i))

-- ---- words that are zero

-- what covers some words covers the next one too, with its bits
pub more_words : (words : List ℕ) (n all : ℕ) → ((i : ℕ) → i < n → slice_index_or words i 0 ≤ all) →
    (i : ℕ) → i < n + 1 → slice_index_or words i 0 ≤ bit_or all (slice_index_or words n 0)
more_words words n all before i below =
    ⊎_elim
    (λ h. let first = before i h in let more = le_or_l all (slice_index_or words n 0) in omega (arith, first, more))
    (λ h.
    let same : n ≡ i = omega (arith, h, below) in
    let P : ℕ → Type 0 = λ k. slice_index_or words k 0 ≤ bit_or all (slice_index_or words n 0) in
    subst P same (le_or_r all (slice_index_or words n 0)))
    (nat_cases i n)

pub none_of : (words : List ℕ) (n all : ℕ) → length words ≤ n → ((i : ℕ) → i < n → slice_index_or words i 0 ≤ all) → all ≡ 0 → (m : ℕ) → has words m ≡ false
none_of words n all last covers none m =
    let word : slice_index_or words (m / 64) 0 ≡ 0 =
    ⊎_elim (λ h. let low = covers (m / 64) h in let e : slice_index_or words (m / 64) 0 ≡ 0 = omega (arith, low, none) in e)
    (λ h. get_or_past words (m / 64) 0 (omega (arith, last, h))) (nat_cases (m / 64) n) in
    ap (λ w. has_bit w (m % 64)) word ∙ ap (λ b. b == 1) (bit_at-zero (m % 64))
