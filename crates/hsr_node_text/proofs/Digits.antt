-- The hexadecimal digits of octets in two pieces.
use Rattle.std.proofs.Common.{◌≡◌, ◌∷◌, ◌++◌, [], List, ℕ, ap, refl, slice_index, ◌/◌, ◌%◌}
use Rattle.hex.specs.Hex.{encode_upper, encode_with, upper_digits}

pub digits_of_both : (xs ys : List ℕ) → encode_upper (xs ++ ys) ≡ encode_upper xs ++ encode_upper ys
unfolding encode_with
digits_of_both [] ys = refl
digits_of_both (x ∷ xs) ys =
    ap (λ (ds : List ℕ). slice_index upper_digits (x / 16) ∷ slice_index upper_digits (x % 16) ∷ ds) (digits_of_both xs ys)
