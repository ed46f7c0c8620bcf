-- A moment in microseconds, as s, ms or us.
--     moment_text   below a millisecond in us, below a second in ms, else in s
use Rattle.std.specs.Prelude.{ℕ, ◌+◌, ◌/◌, ◌%◌, ◌==◌, nat_lt, if◌then◌else◌, List, [], ◌∷◌, ◌++◌, codes}
use Rattle.std.specs.Fmt.{decimal}

-- the three digits of a number below 1000
abbrev pub digits_of : ℕ → List ℕ
digits_of n = (48 + n / 100) ∷ (48 + n / 10 % 10) ∷ (48 + n % 10) ∷ []

-- what is left of a unit, behind a point; nothing where nothing is
abbrev pub thousandths : ℕ → List ℕ
thousandths n = if n == 0 then [] else codes "." ++ digits_of n

abbrev pub millionths : ℕ → List ℕ
millionths n = if n % 1000 == 0 then thousandths (n / 1000) else codes "." ++ digits_of (n / 1000) ++ digits_of (n % 1000)

-- as 5.005 ms
abbrev pub milliseconds : ℕ → List ℕ
milliseconds moment = decimal (moment / 1000) ++ thousandths (moment % 1000) ++ codes " ms"

-- as 2.000250 s, or 4.100 s
abbrev pub seconds : ℕ → List ℕ
seconds moment = decimal (moment / 1000000) ++ millionths (moment % 1000000) ++ codes " s"

abbrev pub moment_text : ℕ → List ℕ
moment_text moment =
    if nat_lt moment 1000 then decimal moment ++ codes " us" else (if nat_lt moment 1000000 then milliseconds moment else seconds moment)
