-- The options of a block (draft-ietf-opsawg-pcapng, section 3.5): a code, the length of a value, and the value, padded to a multiple of
-- four octets. An option with code 0 ends them.
use Rattle.std.specs.Prelude.{ℕ, zero, suc, ◌+◌, ◌*◌, ◌/◌, ◌==◌, if◌then◌else◌, List, [], ◌∷◌, length, take, slice_get, Option, Some, None}
use Rattle.std.specs.Option.{option_and_then}
use Rattle.hsr_capture_reader.specs.declared.numbers.ByteOrder.{ByteOrder}
use Rattle.hsr_capture_reader.specs.Numbers.{number16, number64}

abbrev pub padded_len : ℕ → ℕ
padded_len len = (len + 3) / 4 * 4

-- The value of the first option with this code. So many octets of a value, which was passed over, are stepped over first.
abbrev pub option_past : ℕ → ByteOrder → ℕ → List ℕ → Option (List ℕ)
option_past (suc n) order code [] = None
option_past (suc n) order code (octet ∷ octets) = option_past n order code octets
option_past zero order code (a ∷ b ∷ c ∷ d ∷ octets) =
    if number16 order (a ∷ b ∷ []) 0 == 0 then None else
    (if number16 order (a ∷ b ∷ []) 0 == code then Some (take (number16 order (c ∷ d ∷ []) 0) octets) else
    option_past (padded_len (number16 order (c ∷ d ∷ []) 0)) order code octets)
option_past zero order code octets = None

unfoldable pub option_of : ByteOrder → ℕ → List ℕ → Option (List ℕ)
option_of order code options = option_past 0 order code options

-- the first octet of a value
abbrev pub octet_option : ByteOrder → ℕ → List ℕ → Option ℕ
octet_option order code options = option_and_then (λ value. slice_get value 0) (option_of order code options)

-- a value that is a number of 64 bits
abbrev pub wide_option : ByteOrder → ℕ → List ℕ → Option ℕ
wide_option order code options = option_and_then (λ value. if length value == 8 then Some (number64 order value 0) else None) (option_of order code options)
