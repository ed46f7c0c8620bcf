-- A fault's line.
use Rattle.std.proofs.Common.{◌≡◌, ℕ, List}
use Rattle.hsr_toml.specs.Line.{IsLine, line_of}

pub is_line : (line words : List ℕ) → line ≡ line_of words → IsLine line
is_line line words same = (words, same)
