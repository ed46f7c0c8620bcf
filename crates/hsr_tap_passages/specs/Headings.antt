-- Which way a packet passed an end.
use Rattle.std.specs.Prelude.{ℕ, ◌%◌, ◌==◌, Option, Some, None, Result, Ok, Err, if◌then◌else◌}
use Rattle.hsr_capture_reader.specs.Fields.{PacketFields}
use Rattle.hsr_capture_reader.specs.declared.fields.Way.{Way}
use Rattle.hsr_capture_reader.specs.declared.fields.Way.TheVariants as flag
use Rattle.hsr_frame_copies.specs.Contents.{CopyFields, copy_of}
use Rattle.hsr_frame_copies.specs.declared.contents.NoCopy.{NoCopy}
use Rattle.hsr_tap_device.specs.declared.device.End.{End}
use Rattle.hsr_tap_device.specs.declared.device.End.TheVariants as at
use Rattle.hsr_tap_device.specs.declared.device.Passing.{Passing}
use Rattle.hsr_tap_device.specs.declared.device.Passing.TheVariants as by
use Rattle.hsr_playback.specs.declared.passage.Heading.{Heading}
use Rattle.hsr_playback.specs.declared.passage.Heading.TheVariants.{In, Out}
use Rattle.hsr_tap_passages.specs.declared.fault.PassageFault.{PassageFault}
use Rattle.hsr_tap_passages.specs.declared.fault.PassageFault.TheVariants.{NoDirection}

-- the lane of a port: the lowest bit of the path of what it sends
abbrev pub lane_of : End → ℕ
lane_of at.B = 1
lane_of at.D = 1
lane_of _ = 0

-- what has the port's lane leaves by it, all else goes in
abbrev pub by_lane : End → Result CopyFields NoCopy → Heading
by_lane end (Ok copy) = if copy.path % 2 == lane_of end then Out else In
by_lane end (Err why) = In

-- what leaves the host's own interface goes into the device
abbrev pub by_flag : End → Way → Heading
by_flag at.Up flag.In = Out
by_flag at.Up flag.Out = In
by_flag _ flag.In = In
by_flag _ flag.Out = Out

abbrev pub by_flags : End → ℕ → Option Way → Result Heading PassageFault
by_flags end number None = Err (NoDirection number)
by_flags end number (Some way) = Ok (by_flag end way)

abbrev pub heading_by : Passing → End → PacketFields → Result Heading PassageFault
heading_by by.In end p = Ok In
heading_by by.Out end p = Ok Out
heading_by by.Flags end p = by_flags end p.number p.way
heading_by by.Lane end p = Ok (by_lane end (copy_of p))
