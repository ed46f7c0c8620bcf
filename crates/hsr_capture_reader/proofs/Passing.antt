-- What is passed over: octets of a value, and of a block.
use Rattle.std.proofs.Common.{◌≡◌, ◌≢◌, ◌==◌, ℕ, zero, suc, ◌<◌, ◌≤◌, List, [], ◌∷◌, length, take, drop, refl, ◌∙◌, arith, eq-eqb, if◌then◌else◌, Some, None}
use Rattle.std.proofs.lemmas.Bool.{ne_eqb}
use Rattle.hsr_capture_reader.specs.declared.numbers.ByteOrder.{ByteOrder}
use Rattle.hsr_capture_reader.specs.Numbers.{number16}
use Rattle.hsr_capture_reader.specs.Options.{option_past, padded_len}

-- too few octets for an option
pub no_option : (order : ByteOrder) (code : ℕ) (xs : List ℕ) → length xs < 4 → option_past 0 order code xs ≡ None
no_option order code [] h = refl
no_option order code (a ∷ []) h = refl
no_option order code (a ∷ b ∷ []) h = refl
no_option order code (a ∷ b ∷ c ∷ []) h = refl
no_option order code (a ∷ b ∷ c ∷ d ∷ xs) h = absurd (omega (arith, h))

-- a value is stepped over
pub steps_over_value : (n : ℕ) (order : ByteOrder) (code : ℕ) (xs : List ℕ) → option_past n order code xs ≡ option_past 0 order code (drop n xs)
steps_over_value zero order code xs = refl
steps_over_value (suc n) order code [] = refl
steps_over_value (suc n) order code (x ∷ xs) = steps_over_value n order code xs

opened : (order : ByteOrder) (code : ℕ) (a b c d : ℕ) (xs : List ℕ)
    → option_past 0 order code (a ∷ b ∷ c ∷ d ∷ xs)
    ≡ (if number16 order (a ∷ b ∷ c ∷ d ∷ xs) 0 == 0 then None else
    (if number16 order (a ∷ b ∷ c ∷ d ∷ xs) 0 == code then Some (take (number16 order (a ∷ b ∷ c ∷ d ∷ xs) 2) xs) else
    option_past (padded_len (number16 order (a ∷ b ∷ c ∷ d ∷ xs) 2)) order code xs))
opened order code a b c d xs = refl

-- the first option decides
first_option : (order : ByteOrder) (code : ℕ) (xs : List ℕ) → 4 ≤ length xs
    → option_past 0 order code xs
    ≡ (if number16 order xs 0 == 0 then None else
    (if number16 order xs 0 == code then Some (take (number16 order xs 2) (drop 4 xs)) else
    option_past 0 order code (drop (padded_len (number16 order xs 2)) (drop 4 xs))))
first_option order code [] h = absurd (omega (arith, h))
first_option order code (a ∷ []) h = absurd (omega (arith, h))
first_option order code (a ∷ b ∷ []) h = absurd (omega (arith, h))
first_option order code (a ∷ b ∷ c ∷ []) h = absurd (omega (arith, h))
first_option order code (a ∷ b ∷ c ∷ d ∷ xs) h = rw (← steps_over_value (padded_len (number16 order (a ∷ b ∷ c ∷ d ∷ xs) 2)) order code xs) (opened order code a b c d xs)

-- the end of the options
pub ends_there : (order : ByteOrder) (code : ℕ) (left : List ℕ) → 4 ≤ length left → number16 order left 0 ≡ 0 → option_past 0 order code left ≡ None
ends_there order code left long is = first_option order code left long ∙ rw (eq-eqb _ _ is) refl

-- the option that is looked for
pub stands_there : (order : ByteOrder) (code : ℕ) (left : List ℕ) → 4 ≤ length left → number16 order left 0 ≢ 0 → number16 order left 0 ≡ code
    → option_past 0 order code left ≡ Some (take (number16 order left 2) (drop 4 left))
stands_there order code left long other is = first_option order code left long ∙ rw (ne_eqb _ _ other, eq-eqb _ _ is) refl

-- another option is passed over
pub stands_behind : (order : ByteOrder) (code : ℕ) (left : List ℕ) → 4 ≤ length left → number16 order left 0 ≢ 0 → number16 order left 0 ≢ code
    → option_past 0 order code left ≡ option_past 0 order code (drop (padded_len (number16 order left 2)) (drop 4 left))
stands_behind order code left long other another = first_option order code left long ∙ rw (ne_eqb _ _ other, ne_eqb _ _ another) refl
