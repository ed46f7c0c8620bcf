-- Frames, sources, directions and priorities as one number.
use Rattle.std.specs.Prelude.{ℕ, ◌+◌, ◌*◌, ◌/◌, unwrap_or}
use Rattle.hsr_frame_groups.specs.Frames.{CaughtFields, key_by}

-- a frame in a direction: there are 320 directions at most
abbrev pub carried_key : ℕ → ℕ → ℕ
carried_key first direction = first * 512 + direction

-- the priority of its VLAN tag
abbrev pub priority_of : CaughtFields → ℕ
priority_of c = unwrap_or c.copy.vlan 0 / 8192

-- a source, a direction and a priority: six octets of 8 bits, and 16 bits
abbrev pub beside_key : CaughtFields → ℕ
beside_key c = key_by c.copy.src (c.direction * 8 + priority_of c)
