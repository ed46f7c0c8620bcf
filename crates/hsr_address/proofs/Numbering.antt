-- No two addresses have one number.
use Rattle.std.proofs.Common.{◌≡◌, ℕ, ◌+◌, ◌*◌, ◌/◌, ◌%◌, ◌<◌, List, [], ◌∷◌, length, refl, sym, ap, ◌∙◌, arith}
use Rattle.std.specs.Prelude.{slice_index}
use Rattle.hsr_frame.specs.Address.{IsAddress}
use Rattle.hsr_address.specs.Numbers.{number_of}

-- the octets of a number, by their units
abbrev octet_of : ℕ → ℕ → ℕ
octet_of number unit = number / unit % 256

abbrev address_of : ℕ → List ℕ
address_of n = octet_of n 1099511627776 ∷ octet_of n 4294967296 ∷ octet_of n 16777216 ∷ octet_of n 65536 ∷ octet_of n 256 ∷ octet_of n 1 ∷ []

six_octets : (mac : List ℕ) → length mac ≡ 6
    → mac ≡ slice_index mac 0 ∷ slice_index mac 1 ∷ slice_index mac 2 ∷ slice_index mac 3 ∷ slice_index mac 4 ∷ slice_index mac 5 ∷ []
six_octets [] long = absurd (omega (arith, long))
six_octets (a ∷ []) long = absurd (omega (arith, long))
six_octets (a ∷ b ∷ []) long = absurd (omega (arith, long))
six_octets (a ∷ b ∷ c ∷ []) long = absurd (omega (arith, long))
six_octets (a ∷ b ∷ c ∷ d ∷ []) long = absurd (omega (arith, long))
six_octets (a ∷ b ∷ c ∷ d ∷ e ∷ []) long = absurd (omega (arith, long))
six_octets (a ∷ b ∷ c ∷ d ∷ e ∷ f ∷ []) long = refl
six_octets (a ∷ b ∷ c ∷ d ∷ e ∷ f ∷ g ∷ mac) long = absurd (omega (arith, long))

six_same : (a b c d e f p q r s t u : ℕ) → a ≡ p → b ≡ q → c ≡ r → d ≡ s → e ≡ t → f ≡ u → a ∷ b ∷ c ∷ d ∷ e ∷ f ∷ [] ≡ p ∷ q ∷ r ∷ s ∷ t ∷ u ∷ []
six_same a b c d e f p q r s t u a_is b_is c_is d_is e_is f_is = cc

digits : (a b c d e f n : ℕ) → a < 256 → b < 256 → c < 256 → d < 256 → e < 256 → f < 256 → n ≡ ((((a * 256 + b) * 256 + c) * 256 + d) * 256 + e) * 256 + f
    → address_of n ≡ a ∷ b ∷ c ∷ d ∷ e ∷ f ∷ []
digits a b c d e f n a_low b_low c_low d_low e_low f_low is =
    let first : n / 1099511627776 % 256 ≡ a = omega (arith, is, a_low, b_low, c_low, d_low, e_low, f_low) in
    let second : n / 4294967296 % 256 ≡ b = omega (arith, is, a_low, b_low, c_low, d_low, e_low, f_low) in
    let third : n / 16777216 % 256 ≡ c = omega (arith, is, a_low, b_low, c_low, d_low, e_low, f_low) in
    let fourth : n / 65536 % 256 ≡ d = omega (arith, is, a_low, b_low, c_low, d_low, e_low, f_low) in
    let fifth : n / 256 % 256 ≡ e = omega (arith, is, a_low, b_low, c_low, d_low, e_low, f_low) in
    let last : n / 1 % 256 ≡ f = omega (arith, is, a_low, b_low, c_low, d_low, e_low, f_low) in
    six_same _ _ _ _ _ _ a b c d e f first second third fourth fifth last

address_back : (mac : List ℕ) → IsAddress mac → address_of (number_of mac) ≡ mac
address_back mac is =
    digits (slice_index mac 0) (slice_index mac 1) (slice_index mac 2) (slice_index mac 3) (slice_index mac 4) (slice_index mac 5) (number_of mac) (is.each 0) (is.each 1) (is.each 2) (is.each 3) (is.each 4)
    (is.each 5) refl
    ∙ sym (six_octets mac is.six)

-- addresses with one number are one
pub same_by_number : (a b : List ℕ) → IsAddress a → IsAddress b → number_of a ≡ number_of b → a ≡ b
same_by_number a b is_a is_b same = sym (address_back a is_a) ∙ ap address_of same ∙ address_back b is_b
