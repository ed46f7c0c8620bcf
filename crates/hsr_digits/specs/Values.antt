-- What a character is worth as a hexadecimal digit, as a lane of a vector says it: 240 and its value where it is one, less where it is none.
use Rattle.std.specs.Prelude.{ℕ, ◌+◌, ◌%◌, Bool, if◌then◌else◌, nat_le, nat_lt, bit_and}

-- the greater one, as lanes choose it by their highest bit
abbrev greater : ℕ → ℕ → ℕ
greater a b = if nat_le 128 (if nat_lt a b then 255 else 0) then b else a

-- `0` to `9`, and less than 240 for others
abbrev pub number : ℕ → ℕ
number c = let up = (c + 198) % 256 in ((if nat_le 128 (if nat_lt up 6 then 255 else 0) then 6 else up) + 250) % 256

-- a letter, and less than 240 for others
abbrev pub letter : ℕ → ℕ
letter c = (bit_and ((c + 255) % 256) 223 + 186) % 256

abbrev pub marked : ℕ → ℕ
marked c = greater (number c) (letter c)

abbrev pub is_marked : ℕ → Bool
is_marked v = nat_le 240 v
