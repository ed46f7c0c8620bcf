-- Words of sets, bit by bit.
use Rattle.std.proofs.Common.{◌≡◌, ◌==◌, ◌<◌, ◌-◌, ◌/◌, ◌%◌, ◌^◌, ◌&&◌, ◌||◌, not, ℕ, zero, suc, Bool, List, [], ◌∷◌, length, refl, ap, ap₂, sym, ◌∙◌, arith, bit_or, bit_and, w64, max, min}
use Rattle.std.specs.Prelude.{slice_index_or}
use Rattle.std.specs.Int.{bit_at, bit_not}
use Rattle.std.proofs.lemmas.List.{get_or_past}
use Rattle.std.proofs.lemmas.Nat.Bits.{bit_at-lt, bit_at_and, bit_at_not, bit_at_or}
use Rattle.hsr_bitset.specs.Numbers.{has, has_bit}

-- ---- a bit

greater : (x y : ℕ) → x < 2 → y < 2 → (max x y == 1) ≡ ((x == 1) || (y == 1))
greater zero zero a b = refl
greater zero (suc zero) a b = refl
greater (suc zero) zero a b = refl
greater (suc zero) (suc zero) a b = refl
greater (suc (suc x)) y a b = absurd (omega (arith, a))
greater x (suc (suc y)) a b = absurd (omega (arith, b))

lesser : (x y : ℕ) → x < 2 → y < 2 → (min x y == 1) ≡ ((x == 1) && (y == 1))
lesser zero zero a b = refl
lesser zero (suc zero) a b = refl
lesser (suc zero) zero a b = refl
lesser (suc zero) (suc zero) a b = refl
lesser (suc (suc x)) y a b = absurd (omega (arith, a))
lesser x (suc (suc y)) a b = absurd (omega (arith, b))

other : (x y : ℕ) → y < 2 → x ≡ 1 - y → (x == 1) ≡ not (y == 1)
other x zero b e = ap (λ n. n == 1) e
other x (suc zero) b e = ap (λ n. n == 1) e
other x (suc (suc y)) b e = absurd (omega (arith, b))

pub or_bit : (a b i : ℕ) → has_bit (bit_or a b) i ≡ (has_bit a i || has_bit b i)
or_bit a b i = ap (λ n. n == 1) (bit_at_or a b i) ∙ greater (bit_at a i) (bit_at b i) (bit_at-lt a i) (bit_at-lt b i)

pub and_bit : (a b i : ℕ) → has_bit (bit_and a b) i ≡ (has_bit a i && has_bit b i)
and_bit a b i = ap (λ n. n == 1) (bit_at_and a b i) ∙ lesser (bit_at a i) (bit_at b i) (bit_at-lt a i) (bit_at-lt b i)

pub without_bit : (a b i : ℕ) → b < 2 ^ 64 → i < 64 → has_bit (bit_and a (bit_not w64 b)) i ≡ (has_bit a i && not (has_bit b i))
without_bit a b i fits below =
    and_bit a (bit_not w64 b) i
    ∙ ap (λ t. has_bit a i && t) (other (bit_at (bit_not w64 b) i) (bit_at b i) (bit_at-lt b i) (bit_at_not w64 b i fits below))

-- ---- four words

-- what is done to the words of two sets, one by one
module _ (f : ℕ → ℕ → ℕ) (none : f 0 0 ≡ 0) (a b : List ℕ) (a_four : length a ≡ 4) (b_four : length b ≡ 4) where
  at : ℕ → ℕ
  at i = f (slice_index_or a i 0) (slice_index_or b i 0)

  four_at : (i : ℕ) → slice_index_or (f (slice_index_or a 0 0) (slice_index_or b 0 0) ∷ f (slice_index_or a 1 0) (slice_index_or b 1 0) ∷ f (slice_index_or a 2 0) (slice_index_or b 2 0) ∷ f (slice_index_or a 3 0) (slice_index_or b 3 0) ∷ []) i 0
      ≡ f (slice_index_or a i 0) (slice_index_or b i 0)
  four_at zero = refl
  four_at (suc zero) = refl
  four_at (suc (suc zero)) = refl
  four_at (suc (suc (suc zero))) = refl
  four_at (suc (suc (suc (suc i)))) =
      sym none ∙ sym (ap₂ f (get_or_past a (suc (suc (suc (suc i)))) 0 (omega (arith, a_four))) (get_or_past b (suc (suc (suc (suc i)))) 0 (omega (arith, b_four))))

  pub each_word : (P : Bool → Bool → Bool) → ((i n : ℕ) → n < 64 → has_bit (f (slice_index_or a i 0) (slice_index_or b i 0)) n ≡ P (has_bit (slice_index_or a i 0) n) (has_bit (slice_index_or b i 0) n)) → (n : ℕ) →
      has (f (slice_index_or a 0 0) (slice_index_or b 0 0) ∷ f (slice_index_or a 1 0) (slice_index_or b 1 0) ∷ f (slice_index_or a 2 0) (slice_index_or b 2 0) ∷ f (slice_index_or a 3 0) (slice_index_or b 3 0) ∷ []) n ≡ P (has a n) (has b n)
  each_word P each n = ap (λ w. has_bit w (n % 64)) (four_at (n / 64)) ∙ each (n / 64) (n % 64) (omega arith)
