-- The words of a line of text, and what each kind of word says.
use Rattle.std.specs.Prelude.{ℕ, ◌≡◌, Result, Ok, Err, ◌+◌, ◌-◌, ◌*◌, ◌^◌, ◌==◌, ◌&&◌, ◌||◌, nat_lt, List, [], ◌∷◌, length, Option, Some, None, if◌then◌else◌, Bool, false}
use Rattle.std.specs.Int.{from_be_bytes, w16}
use Rattle.std.specs.Result.{result_ok}
use Rattle.std.specs.Str.{all_ascii_digits}
use Rattle.hex.specs.Hex.{decode_of, decode_sized}
use Rattle.hsr_frame.specs.Address.{address_text}
use Rattle.hsr_text.specs.declared.words.WordFault.{WordFault}
use Rattle.hsr_text.specs.declared.words.WordFault.TheVariants.{Bad, Memory}

-- the second step, if the first gave a value
infixl 10 ◌>>=◌
abbrev pub ◌>>=◌ : {A B : Type 0} → Option A → (A → Option B) → Option B
(Some x) >>= f = f x
None >>= f = None

-- what reading a word answered is what the definition says, unless memory ran out
abbrev pub Gives : {X Y : Type 0} → (X → Y) → Result X WordFault → Option Y → Type 0
Gives view (Ok x) said = said ≡ Some (view x)
Gives view (Err Bad) said = said ≡ None
Gives view (Err Memory) said = Unit {0}

-- what stands before the first separator, and what follows it, if there is one
abbrev pub cut : ℕ → List ℕ → List ℕ × Option (List ℕ)
cut separator [] = ([], None)
cut separator (b ∷ bs) = if b == separator then ([], Some bs) else (b ∷ (cut separator bs).0, (cut separator bs).1)

-- the next word, and what follows the space behind it
abbrev pub word_at : Option (List ℕ) → Option (List ℕ × Option (List ℕ))
word_at None = None
word_at (Some text) = Some (cut 32 text)

-- the number that digits spell behind those that gave n
abbrev pub value_on : ℕ → List ℕ → ℕ
value_on n [] = n
value_on n (b ∷ bs) = value_on (10 * n + (b - 48)) bs

-- digits, of which the first is a zero only where it is alone
abbrev pub is_decimal : List ℕ → Bool
is_decimal [] = false
is_decimal (b ∷ bs) = all_ascii_digits (b ∷ bs) && (nat_lt 48 b || length bs == 0)

-- a decimal number below 2^64, without sign or leading zeros
abbrev pub decimal_of : List ℕ → Option ℕ
decimal_of word = if is_decimal word && nat_lt (value_on 0 word) (2 ^ 64) then Some (value_on 0 word) else None

-- four hexadecimal digits of either case
abbrev pub hex_pair_of : List ℕ → Option ℕ
hex_pair_of word = do
  octets ← result_ok (decode_sized word 2)
  Some (from_be_bytes w16 octets)

-- hexadecimal text of either case, or a hyphen for no octets
abbrev pub hex_octets_of : List ℕ → Option (List ℕ)
hex_octets_of [] = None
hex_octets_of (b ∷ bs) = if b == 45 && length bs == 0 then Some [] else result_ok (decode_of (b ∷ bs))

-- ---- addresses

-- the text of an address
unfoldable pub mac_text : List ℕ → List ℕ
mac_text mac = address_text mac
