-- A text cut into its lines.
use Rattle.std.specs.Prelude.{◌≡◌, ℕ, ◌+◌, ◌<◌, ◌≤◌, ◌==◌, ◌&&◌, nat_le, nat_lt, List, [], ◌∷◌, ◌++◌, length, take, drop, Option, Some, None, if◌then◌else◌, IfSome}
use Rattle.std.specs.Io.KnownBytes.{Consumes, IsAtEnd}
use Rattle.hsr_text.specs.Words.{cut}
use Rattle.hsr_text.specs.declared.lines.Front.{Front}
use Rattle.hsr_text.specs.declared.lines.Front.TheVariants.{Line, Rest, TooLong}

-- a front put before a cut
abbrev pub onto : List ℕ → List ℕ × Option (List ℕ) → List ℕ × Option (List ℕ)
onto front c = (front ++ c.0, c.1)

-- a byte put on the first of some lines
abbrev pub on_first : ℕ → List (List ℕ) → List (List ℕ)
on_first b [] = (b ∷ []) ∷ []
on_first b (l ∷ ls) = (b ∷ l) ∷ ls

-- the lines of a text, each without its line feed; the last may lack it
abbrev pub lines_of : List ℕ → List (List ℕ)
lines_of [] = []
lines_of (b ∷ bs) = if b == 10 then [] ∷ lines_of bs else on_first b (lines_of bs)

-- What was read from the front of a text, and what is left of it: a line and the text behind its line
-- feed; a text with no line feed, whole; of a line of more than `most` bytes the first `most`, and the byte behind them is gone.
abbrev pub Reads : ℕ → List ℕ → List ℕ → List ℕ → Front → Type 0
Reads most text left line Line = cut 10 text ≡ (line, Some left)
Reads most text left line Rest = (cut 10 text ≡ (line, None)) × (left ≡ [])
Reads most text left line TooLong = (most < length (cut 10 text).0) × (line ≡ take most text) × (left ≡ drop (most + 1) text)

-- What the front `taken` of a piece made of a line's front `line`: it is put behind it, and has no line feed; it ends with the line
-- feed; there was nothing to take; or its last byte found no room.
abbrev pub Fills : ℕ → List ℕ → List ℕ → List ℕ → Option Front → Type 0
Fills most taken line grown None = (cut 10 taken ≡ (taken, None)) × (grown ≡ line ++ taken)
Fills most taken line grown (Some Line) = (part : List ℕ) × (taken ≡ part ++ 10 ∷ []) × (cut 10 part ≡ (part, None)) × (grown ≡ line ++ part)
Fills most taken line grown (Some Rest) = (taken ≡ []) × (grown ≡ line)
Fills most taken line grown (Some TooLong) = (part : List ℕ) × (b : ℕ) × (taken ≡ part ++ b ∷ []) × (cut 10 (part ++ b ∷ []) ≡ (part ++ b ∷ [], None)) × (grown ≡ line ++ part) × (length grown ≡ most)

-- What was taken of known bytes made this of a line's front; nothing is told to be left only at the end.
abbrev pub Advances : ℕ → Option (List ℕ) → Option (List ℕ) → List ℕ → List ℕ → Option Front → Type 0
Advances most old new line grown front =
    (taken : List ℕ) × Consumes old new taken × Fills most taken line grown front × (front ≡ Some Rest → IsAtEnd old)

-- `line` was read from the front of the known bytes `text`, and `left` goes on from there.
abbrev pub Continues : Option (List ℕ) → Option (List ℕ) → List ℕ → Type 0
Continues text left line = IfSome text (λ xs. (ys : List ℕ) × (left ≡ Some ys) × (cut 10 xs ≡ onto line (cut 10 ys)))

-- what `next_line` gives, where bytes are known
abbrev pub ReadsFront : ℕ → Option (List ℕ) → Option (List ℕ) → List ℕ → Front → Type 0
ReadsFront most old new line front = IfSome old (λ text. (left : List ℕ) × (new ≡ Some left) × Reads most text left line front)

-- the line that a buffer begins with, where it is whole there, has at most `most` bytes, and costs no more than the reads that are left
abbrev pub there_of : ℕ → ℕ → List ℕ × Option (List ℕ) → Option (List ℕ)
there_of most reads (line, None) = None
there_of most reads (line, Some rest) = if nat_le (length line) most && nat_lt (length line) reads then Some line else None

abbrev pub line_there : List ℕ → ℕ → ℕ → Option (List ℕ)
line_there buffer most reads = there_of most reads (cut 10 buffer)

-- Where bytes are known, each byte that was taken cost a read.
abbrev pub Paid : Option (List ℕ) → Option (List ℕ) → ℕ → ℕ → Type 0
Paid old new granted reads = IfSome old (λ text. (left : List ℕ) × (new ≡ Some left) × (length text + reads ≤ length left + granted))
