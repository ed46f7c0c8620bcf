-- Packets that passed an end of the device, and copies that the reference lets out.
use Rattle.std.specs.Prelude.{ℕ, ◌-◌, ◌/◌, Bool, nat_lt, length}
use Rattle.hsr_playback.specs.declared.expected.Expected.{Expected}
use Rattle.hsr_playback.specs.declared.passage.Passage.{Passage}

-- a moment in microseconds, rounded down
abbrev pub us : ℕ → ℕ
us moment = moment / 1000

-- octets at its end weren't captured
abbrev pub is_cut : Passage → Bool
is_cut p = nat_lt p.captured (length p.octets)

-- how many octets weren't captured
abbrev pub missing : Passage → ℕ
missing p = length p.octets - p.captured

-- octets at its end aren't known
abbrev pub is_unknown : Expected → Bool
is_unknown e = nat_lt e.kept (length e.octets)

-- how many octets aren't known
abbrev pub unknown : Expected → ℕ
unknown e = length e.octets - e.kept
