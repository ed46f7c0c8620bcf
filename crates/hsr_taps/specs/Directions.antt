-- The directions of an interface, by number: what passes one way at a tap.
use Rattle.std.specs.Prelude.{ℕ, ◌≡◌, ◌+◌, ◌*◌, ◌/◌, ◌%◌, ◌==◌, if◌then◌else◌, Option, Some, None}
use Rattle.hsr_capture_reader.specs.declared.fields.Way.{Way}
use Rattle.hsr_capture_reader.specs.declared.fields.Way.TheVariants as the_way
use Rattle.hsr_taps.specs.declared.direction.Part.{Part}
use Rattle.hsr_taps.specs.declared.direction.Part.TheVariants as the_part
use Rattle.hsr_taps.specs.declared.direction.Taps.{Taps}
use Rattle.hsr_taps.specs.declared.direction.Taps.TheVariants as the_taps

-- the part of an interface that a copy is of: all of it, a lane by the lowest bit of its path, or what its flags say
abbrev pub part_by : Taps → Option Way → ℕ → Part
part_by the_taps.One way path = the_part.Whole
part_by the_taps.Both way path = if path % 2 == 0 then the_part.LaneA else the_part.LaneB
part_by the_taps.Flags None path = the_part.Whole
part_by the_taps.Flags (Some the_way.In) path = the_part.In
part_by the_taps.Flags (Some the_way.Out) path = the_part.Out

abbrev pub number_of : Part → ℕ
number_of the_part.Whole = 0
number_of the_part.LaneA = 1
number_of the_part.LaneB = 2
number_of the_part.In = 3
number_of the_part.Out = 4

-- an interface has five directions at most
abbrev pub direction_of : ℕ → Taps → Option Way → ℕ → ℕ
direction_of interface taps way path = interface * 5 + number_of (part_by taps way path)

abbrev pub interface_of : ℕ → ℕ
interface_of direction = direction / 5

-- the part with a number
abbrev pub IsPart : ℕ → Part → Type 0
IsPart direction part = direction % 5 ≡ number_of part
