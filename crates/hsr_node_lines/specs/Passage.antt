-- Where a packet passes the device, and which way.
use Rattle.std.specs.Prelude.{ℕ, ◌%◌, ◌==◌, not, Bool, true, false, List, Option, Some, None, slice_get, Result, Ok, Err}
use Rattle.hsr_capture_reader.specs.Fields.{PacketFields}
use Rattle.hsr_capture_reader.specs.declared.fields.Way.{Way}
use Rattle.hsr_capture_reader.specs.declared.fields.Way.TheVariants as flag
use Rattle.hsr_frame_copies.specs.Contents.{CopyFields, copy_of}
use Rattle.hsr_frame_copies.specs.declared.contents.NoCopy.{NoCopy}
use Rattle.hsr_tap_device.specs.declared.device.End.{End}
use Rattle.hsr_tap_device.specs.declared.device.End.TheVariants.{B, D, Up}
use Rattle.hsr_tap_device.specs.declared.device.Passing.{Passing}
use Rattle.hsr_tap_device.specs.declared.device.Passing.TheVariants.{In, Out, Flags, Lane}
use Rattle.hsr_tap_device.specs.declared.device.Tap.{Tap}
use Rattle.hsr_node_lines.specs.declared.fault.LinesFault.{LinesFault}
use Rattle.hsr_node_lines.specs.declared.fault.LinesFault.TheVariants.{NoDirection}
use Rattle.hsr_node_lines.specs.declared.passage.Passage.{Passage}

abbrev pub is_up : End → Bool
is_up Up = true
is_up _ = false

-- the lane of a port: the lowest bit of the path of what it sends
abbrev pub lane_of : End → ℕ
lane_of B = 1
lane_of D = 1
lane_of _ = 0

-- what has the port's lane leaves by it, all else goes in
abbrev pub comes_by_lane : End → Result CopyFields NoCopy → Bool
comes_by_lane end (Ok copy) = not (copy.path % 2 == lane_of end)
comes_by_lane end (Err _) = true

-- what leaves the host's own interface goes into the device
abbrev pub comes_by_flag : End → Way → Bool
comes_by_flag end flag.In = not (is_up end)
comes_by_flag end flag.Out = is_up end

abbrev pub passage_by_flag : End → ℕ → Option Way → Result (Option Passage) LinesFault
passage_by_flag end number None = Err (NoDirection number)
passage_by_flag end number (Some way) = Ok (Some (record { end = end; is_in = comes_by_flag end way }))

abbrev pub passage_by : End → Passing → PacketFields → Result (Option Passage) LinesFault
passage_by end In p = Ok (Some (record { end = end; is_in = true }))
passage_by end Out p = Ok (Some (record { end = end; is_in = false }))
passage_by end Lane p = Ok (Some (record { end = end; is_in = comes_by_lane end (copy_of p) }))
passage_by end Flags p = passage_by_flag end p.number p.way

abbrev pub passage_at : Option (Option Tap) → PacketFields → Result (Option Passage) LinesFault
passage_at None p = Ok None
passage_at (Some None) p = Ok None
passage_at (Some (Some tap)) p = passage_by tap.end tap.passing p

-- the end of the device at which a packet is, and whether it goes in; nothing where its interface is none of the device's
abbrev pub passage_of : List (Option Tap) → PacketFields → Result (Option Passage) LinesFault
passage_of taps p = passage_at (slice_get taps p.interface) p
