-- A fault's one line.
use Rattle.std.specs.Prelude.{ℕ, ◌≡◌, ◌==◌, ◌||◌, nat_lt, List, ◌++◌, codes, map, if◌then◌else◌}

-- 63 is a question mark: no control octet is shown
abbrev pub shown : ℕ → ℕ
shown b = if nat_lt b 32 || b == 127 then 63 else b

abbrev pub line_of : List ℕ → List ℕ
line_of words = codes "fault: " ++ map shown words

-- `fault: `, and words without control octets
abbrev pub IsLine : List ℕ → Type 0
IsLine line = (words : List ℕ) × (line ≡ line_of words)
