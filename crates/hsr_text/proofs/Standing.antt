-- A line that stands whole in a reader's buffer.
use Rattle.std.proofs.Common.{◌≡◌, ℕ, ◌+◌, Option, None, Some, IfSome, List, [], ◌∙◌, length, take, drop, option_map, refl, ap, arith, Bool, true, false, if◌then◌else◌}
use Rattle.std.proofs.lemmas.List.{take_all}
use Rattle.std.proofs.Math.Seq.{take-append_seam}
use Rattle.std.proofs.BufReadLemmas.{Consumes_shown}
use Rattle.std.specs.Io.{StartsWith}
use Rattle.std.specs.Io.BufRead.{DropsConsumable}
use Rattle.std.specs.Io.KnownBytes.{Consumes, prepend_known}
use Rattle.hsr_text.specs.Words.{cut}
use Rattle.hsr_text.specs.Lines.{ReadsFront}
use Rattle.hsr_text.specs.declared.lines.Front.TheVariants.{Line as FrontLine}
use Rattle.hsr_text.proofs.Pieces.{ends, line_filled}

-- what a buffer shows comes first
pub shown_first : (none : Bool) (buffer : List ℕ) (inner : Option (List ℕ)) → IfSome (if none then None else prepend_known buffer inner) (λ xs. StartsWith xs buffer)
shown_first true buffer inner = tt
shown_first false buffer None = tt
shown_first false buffer (Some xs) = take-append_seam buffer xs

-- a line that stands there is the next line of the text
pub line_read : (most : ℕ) (old new : Option (List ℕ)) (buffer line rest : List ℕ) → IfSome old (λ xs. StartsWith xs buffer) → cut 10 buffer ≡ (line, Some rest)
    → DropsConsumable old new (Some (length buffer)) (length line + 1) → ReadsFront most old new line FrontLine
line_read most None new buffer line rest shown e drops = tt
line_read most (Some text) new buffer line rest shown e drops =
    let filled = line_filled most (length buffer) buffer line rest [] line (ap (cut 10) (take_all (length buffer + 1) buffer (omega arith)) ∙ e) refl in
    let moved : Consumes (Some text) new (take (length line + 1) buffer) =
    (Consumes_shown (Some text) (Some text) new (Some (length buffer)) buffer (length line + 1) filled.1 shown (λ none. absurd (omega (arith, filled.1))) refl (omega arith) drops).0 in
    ends most (Some text) (Some text) new [] line FrontLine (text, refl, refl) refl (take (length line + 1) buffer, moved, filled.2, λ other. absurd (cc))

-- what would be left behind it
pub left_behind : Option (List ℕ) → List ℕ → Option (List ℕ)
left_behind old line = option_map (drop (length line + 1)) old

pub drops_left : (old : Option (List ℕ)) (buffer line : List ℕ) → DropsConsumable old (left_behind old line) (Some (length buffer)) (length line + 1)
unfolding left_behind
drops_left None buffer line = tt
drops_left (Some text) buffer line = λ fits. refl
