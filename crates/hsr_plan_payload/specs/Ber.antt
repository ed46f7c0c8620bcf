-- Values with tags and lengths (ASN.1, basic encoding rules), up to 65535 octets, and numbers in big endian.
use Rattle.std.specs.Prelude.{ℕ, ◌/◌, ◌%◌, ◌^◌, nat_lt, List, [], ◌∷◌, ◌++◌, length, if◌then◌else◌}

abbrev pub pair : ℕ → List ℕ
pair n = ((n / 256) % 256) ∷ (n % 256) ∷ []

abbrev pub three : ℕ → List ℕ
three n = ((n / 65536) % 256) ∷ pair n

abbrev pub four : ℕ → List ℕ
four n = pair (n / 65536) ++ pair n

abbrev pub length_octets : ℕ → List ℕ
length_octets n = if nat_lt n 128 then n ∷ [] else (if nat_lt n 256 then 0x81 ∷ n ∷ [] else 0x82 ∷ pair n)

unfoldable pub tagged : ℕ → List ℕ → List ℕ
tagged tag value = tag ∷ (length_octets (length value) ++ value)

-- an integer, from 0 to 2^32 - 1
unfoldable pub integer : ℕ → List ℕ
integer n = if nat_lt n 128 then n ∷ [] else (if nat_lt n 32768 then pair n else (if nat_lt n 8388608 then three n else (if nat_lt n 2147483648 then four n else 0 ∷ four n)))
