-- Addresses and their text.
use Rattle.std.specs.Prelude.{Bool, ◌≡◌, ◌==◌, ◌≢◌, ◌<◌, ◌+◌, ◌-◌, ◌*◌, ◌/◌, ◌%◌, ℕ, nat_lt, nat_le, if◌then◌else◌, List, [], ◌∷◌, ◌++◌, length, map, slice_index, Option, Some, None, is_some, unwrap_or, Result, Err}
use Rattle.std.specs.List.{list_any}
use Rattle.std.specs.Option.{option_or}
use Rattle.std.specs.Str.{bytes_eq}
use Rattle.hsr_frame.specs.declared.fault.MacFault.{MacFault}
use Rattle.hsr_frame.specs.declared.fault.MacFault.TheVariants.{Length, Digit, Separator}
use Rattle.hsr_frame.specs.Cases.{unless}

-- six octets
pub record IsAddress (octets : List ℕ) : Type 0 where
  pub six : length octets ≡ 6
  pub each : (i : ℕ) → slice_index octets i < 256

-- the lowest bit of the first octet is set
abbrev pub is_group : List ℕ → Bool
is_group octets = slice_index octets 0 % 2 == 1

abbrev pub IsGroup : List ℕ → Type 0
IsGroup octets = slice_index octets 0 % 2 ≡ 1

abbrev pub is_same_address : List ℕ → List ℕ → Bool
is_same_address a b = bytes_eq a b

-- an address is one of these
abbrev pub is_among : List (List ℕ) → List ℕ → Bool
is_among macs mac = list_any (λ own. is_same_address own mac) macs

-- the group of supervision frames
abbrev pub supervision_address : List ℕ
supervision_address = 0x01 ∷ 0x15 ∷ 0x4E ∷ 0x00 ∷ 0x01 ∷ 0x00 ∷ []

-- ---- the text that is printed

-- the upper-case digit of a number below 16
abbrev pub hex_digit : ℕ → ℕ
hex_digit n = if nat_lt n 10 then 48 + n else 55 + n

-- the two digits of an octet
abbrev pub hex_digits : ℕ → List ℕ
hex_digits n = hex_digit (n / 16) ∷ hex_digit (n % 16) ∷ []

-- the six pairs of digits, parted by hyphens
abbrev pub address_text : List ℕ → List ℕ
address_text o =
    hex_digits (slice_index o 0) ++ 45 ∷ hex_digits (slice_index o 1) ++ 45 ∷ hex_digits (slice_index o 2)
    ++ 45 ∷ hex_digits (slice_index o 3) ++ 45 ∷ hex_digits (slice_index o 4) ++ 45 ∷ hex_digits (slice_index o 5)

-- ---- the text that is read

-- the value of a digit of either case
abbrev pub hex_value : ℕ → Option ℕ
hex_value c =
    if nat_le 48 c then (if nat_le c 57 then Some (c - 48) else
    (if nat_le 65 c then (if nat_le c 70 then Some (c - 55) else
    (if nat_le 97 c then (if nat_le c 102 then Some (c - 87) else None) else None)) else None)) else None

-- a digit in upper case
abbrev pub upper_digit : ℕ → ℕ
upper_digit c = if nat_le 97 c then (if nat_le c 102 then c - 32 else c) else c

abbrev pub upper_text : List ℕ → List ℕ
upper_text cs = map upper_digit cs

-- what is wrong with the octet at a place: at places 2, 5, 8 and so on stands a hyphen, else a digit
abbrev pub place_fault : ℕ → ℕ → Option MacFault
place_fault i c =
    if i % 3 == 2 then (if c == 45 then None else Some Separator) else (if is_some (hex_value c) then None else Some Digit)

-- the first fault of octets that begin at place i
abbrev pub fault_from : ℕ → List ℕ → Option MacFault
fault_from i [] = None
fault_from i (c ∷ cs) = option_or (place_fault i c) (fault_from (i + 1) cs)

-- the octet that the two digits at a place spell
abbrev pub octet_of : List ℕ → ℕ → ℕ
octet_of text i = 16 * unwrap_or (hex_value (slice_index text i)) 0 + unwrap_or (hex_value (slice_index text (i + 1))) 0

-- the address that a text spells, or its first fault
unfoldable pub address_of : List ℕ → Result (List ℕ) MacFault
address_of text =
    if length text == 17
    then unless (fault_from 0 text) (octet_of text 0 ∷ octet_of text 3 ∷ octet_of text 6 ∷ octet_of text 9 ∷ octet_of text 12 ∷ octet_of text 15 ∷ [])
    else Err Length

-- ---- faults, by the leftmost wrong octet

-- the leftmost wrong octet is wrong in this way
pub record IsLeftmost (text : List ℕ) (e : MacFault) : Type 0 where
  pub place : ℕ
  pub within : place < length text
  pub here : place_fault place (slice_index text place) ≡ Some e
  pub before : (k : ℕ) → k < place → place_fault k (slice_index text k) ≡ None

-- why a text is no address
abbrev pub IsTextFault : List ℕ → MacFault → Type 0
IsTextFault text Length = length text ≢ 17
IsTextFault text Digit = (length text ≡ 17) × IsLeftmost text Digit
IsTextFault text Separator = (length text ≡ 17) × IsLeftmost text Separator
