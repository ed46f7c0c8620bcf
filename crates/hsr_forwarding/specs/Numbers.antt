-- The numbers of a node's own frames.
use Rattle.std.specs.Prelude.{ℕ}

-- how many numbers there are, of frames and of supervision frames: after as many they begin anew
abbrev pub number_range : ℕ
number_range = 65536
