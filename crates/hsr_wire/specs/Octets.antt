-- How many octets of a link a frame takes (IEEE 802.3 clauses 3 and 4).
--     wire_octets   those of the frame, at least a least frame, with what stands before and behind it
use Rattle.std.specs.Prelude.{ℕ, ◌+◌, max, Bool, true, false, if◌then◌else◌, List, length, Result, Ok, Err}
use Rattle.hsr_frame.specs.declared.fault.FrameFault.{FrameFault}
use Rattle.hsr_tag.specs.Seen.{classified}
use Rattle.hsr_tag.specs.declared.seen.Seen.{Seen}
use Rattle.hsr_tag.specs.declared.seen.Seen.TheVariants.{Plain, Tagged}

abbrev pub is_tagged : Result Seen FrameFault → Bool
is_tagged (Err fault) = false
is_tagged (Ok (Plain frame)) = false
is_tagged (Ok (Tagged frame)) = true

-- a least frame without its check sequence; a node pads it before it adds the six octets of a tag
abbrev pub least_octets : Bool → ℕ
least_octets tagged = if tagged then 66 else 60

-- 24 more: a preamble of 8, a check sequence of 4, and a gap of 12
abbrev pub wire_octets : List ℕ → ℕ
wire_octets octets = max (least_octets (is_tagged (classified octets))) (length octets) + 24
