-- A text of TOML without what its comments and strings say.
use Rattle.std.specs.Prelude.{ℕ, ◌+◌, ◌==◌, ◌&&◌, ◌||◌, nat_lt, List, [], ◌∷◌, if◌then◌else◌}
use Rattle.hsr_toml.specs.declared.lexing.Lexing.{Lexing}
use Rattle.hsr_toml.specs.declared.lexing.Lexing.TheVariants.{Plain, Comment, Opened, Empty, Line, LineEscape, Long, LongEscape}

-- 34 and 39 are quotes, 35 begins a comment, 92 is a backslash

abbrev pub plain : ℕ → Lexing
plain b = if b == 34 || b == 39 then Opened b else (if b == 35 then Comment else Plain)

abbrev pub line : ℕ → ℕ → Lexing
line q b = if b == q then Plain else (if b == 92 && q == 34 then LineEscape else Line q)

abbrev pub opened : ℕ → ℕ → Lexing
opened q b = if b == q then Empty q else line q b

abbrev pub empty : ℕ → ℕ → Lexing
empty q b = if b == q then Long q 0 else plain b

abbrev pub ending : ℕ → ℕ
ending n = if nat_lt n 3 then n + 1 else 3

-- three quotes end a string of several lines, of which two more may be the last octets
abbrev pub long : ℕ → ℕ → ℕ → Lexing
long q n b = if b == q then Long q (ending n) else (if n == 3 then plain b else (if b == 92 && q == 34 then LongEscape else Long q 0))

-- behind one more octet
abbrev pub lexed : Lexing → ℕ → Lexing
lexed Plain b = plain b
lexed Comment b = if b == 10 then Plain else Comment
lexed (Opened q) b = opened q b
lexed (Empty q) b = empty q b
lexed (Line q) b = line q b
lexed LineEscape b = Line 34
lexed (Long q n) b = long q n b
lexed LongEscape b = Long 34 0

-- what is shown of the octet that it is behind: of a comment a blank, of a string a quote
abbrev pub shown : Lexing → ℕ → ℕ
shown Plain b = if b == 39 then 34 else b
shown Comment b = 32
shown (Opened q) b = 34
shown (Empty q) b = 34
shown (Line q) b = 34
shown LineEscape b = 34
shown (Long q n) b = 34
shown LongEscape b = 34

-- a text, octet for octet
abbrev pub bare : Lexing → List ℕ → List ℕ
bare l [] = []
bare l (b ∷ bs) = shown (lexed l b) b ∷ bare (lexed l b) bs
