-- Numbers and moments as they are read best. A text is a list of characters here.
--     grouped       a number in groups of three digits
--     moment_text   a moment in milliseconds
use Rattle.std.specs.Prelude.{ℕ, ◌+◌, ◌/◌, ◌%◌, ◌==◌, nat_lt, ◌&&◌, if◌then◌else◌, List, [], ◌∷◌, ◌++◌, length, codes}
use Rattle.std.specs.Fmt.{decimal}

-- a digit that so many follow; a narrow space (U+202F) stands between it and whole groups of three
abbrev pub digit_before : ℕ → ℕ → List ℕ
digit_before digit following = digit ∷ (if nat_lt 0 following && following % 3 == 0 then 0x202F ∷ [] else [])

abbrev pub grouped_digits : List ℕ → List ℕ
grouped_digits [] = []
grouped_digits (d ∷ ds) = digit_before d (length ds) ++ grouped_digits ds

unfoldable pub grouped : ℕ → List ℕ
grouped n = grouped_digits (decimal n)

-- three digits behind a point, but of 0 none
unfoldable pub thousandths : ℕ → List ℕ
thousandths n = if n == 0 then [] else 46 ∷ (48 + n / 100 % 10) ∷ (48 + n / 10 % 10) ∷ (48 + n % 10) ∷ []

-- of a number of microseconds
unfoldable pub moment_text : ℕ → List ℕ
moment_text us = grouped (us / 1000) ++ thousandths (us % 1000) ++ codes " ms"
