-- What came by the taps of a capture.
--     copies_in      the copies of tagged frames, in the order of packets
--     strays_in      all other packets
--     way_by         the lane that most copies of a direction have
use Rattle.std.specs.Prelude.{ℕ, ◌≡◌, ◌+◌, ◌-◌, ◌<◌, ◌≤◌, ◌%◌, ◌^◌, min, ◌==◌, ◌&&◌, nat_lt, Bool, true, false, if◌then◌else◌, List, [], length, count_by, filter_map, slice_get, slice_index, Option, Some, None, Result, Ok, Err}
use Rattle.hsr_capture_reader.specs.Fields.{InterfaceFields, PacketFields}
use Rattle.hsr_frame_copies.specs.Contents.{CopyFields, copy_of}
use Rattle.hsr_frame_copies.specs.declared.contents.NoCopy.{NoCopy}
use Rattle.hsr_frame_groups.specs.Frames.{AreInTime, CaughtFields}
use Rattle.hsr_taps.specs.Asked.{ChoiceFields}
use Rattle.hsr_taps.specs.Directions.{direction_of, interface_of}
use Rattle.hsr_taps.specs.Named.{AreOwners, names_from}
use Rattle.hsr_taps.specs.Tallies.{AreLookedAt, is_at, taps_by, tally_at}
use Rattle.hsr_taps.specs.declared.choice.TapsAsked.{TapsAsked}
use Rattle.hsr_taps.specs.declared.direction.Taps.{Taps}
use Rattle.hsr_taps.specs.declared.tally.Tally.{Tally}
use Rattle.hsr_taps.specs.declared.tapping.Stray.{Stray}
use Rattle.hsr_taps.specs.declared.tapping.Tapped.{Tapped}

-- ---- copies and strays

-- a packet as a copy of a tagged frame
abbrev pub caught_by : Taps → PacketFields → Result CopyFields NoCopy → Option CaughtFields
caught_by taps p (Ok c) = Some (record { at = p.moment; packet = p.number; direction = direction_of p.interface taps p.way c.path; copy = c })
caught_by taps p (Err what) = None

-- a packet as anything else
abbrev pub stray_by : PacketFields → Result CopyFields NoCopy → Option Stray
stray_by p (Ok c) = None
stray_by p (Err what) = Some (record { at = p.moment; packet = p.number; interface = p.interface; what = what })

-- the taps of a packet's interface, if it is looked at
abbrev pub taps_at : List Bool → List Taps → PacketFields → Option Taps
taps_at looked taps p = if is_at looked p.interface then slice_get taps p.interface else None

abbrev pub caught_in : PacketFields → Option Taps → Option CaughtFields
caught_in p None = None
caught_in p (Some taps) = caught_by taps p (copy_of p)

abbrev pub stray_in : PacketFields → Option Taps → Option Stray
stray_in p None = None
stray_in p (Some taps) = stray_by p (copy_of p)

abbrev pub copies_in : List Bool → List Taps → List PacketFields → List CaughtFields
copies_in looked taps packets = filter_map (λ p. caught_in p (taps_at looked taps p)) packets

abbrev pub strays_in : List Bool → List Taps → List PacketFields → List Stray
strays_in looked taps packets = filter_map (λ p. stray_in p (taps_at looked taps p)) packets

-- ---- directions

-- how many copies a direction has with a lane
abbrev pub lane_count : ℕ → List CaughtFields → ℕ → ℕ
lane_count lane copies direction = count_by (λ c. (c.direction == direction) && (c.copy.path % 2 == lane)) copies

abbrev pub AreLaneCounts : ℕ → List CaughtFields → List ℕ → Type 0
AreLaneCounts lane copies counts = (direction n : ℕ) → slice_get counts direction ≡ Some n → n ≡ lane_count lane copies direction

-- the lane that most copies of a direction have; that of port A where both have as many
abbrev pub way_by : ℕ → ℕ → ℕ
way_by lane_a lane_b = if nat_lt lane_a lane_b then 1 else 0

-- of each direction the way, by how many copies it has with the lanes
abbrev pub AreWaysBy : List ℕ → List ℕ → List ℕ → Type 0
AreWaysBy lane_a lane_b ways = (direction way : ℕ) → slice_get ways direction ≡ Some way → way ≡ way_by (slice_index lane_a direction) (slice_index lane_b direction)

-- of each direction how many copies it has, by how many it has with the lanes; a sum of 64 bits at most
abbrev pub AreSumsBy : List ℕ → List ℕ → List ℕ → Type 0
AreSumsBy lane_a lane_b sums = (direction n : ℕ) → slice_get sums direction ≡ Some n → n ≡ min (slice_index lane_a direction + slice_index lane_b direction) (2 ^ 64 - 1)

abbrev pub AreWays : List CaughtFields → List ℕ → Type 0
AreWays copies ways = (direction way : ℕ) → slice_get ways direction ≡ Some way → way ≡ way_by (lane_count 0 copies direction) (lane_count 1 copies direction)

-- how many copies came by a direction
abbrev pub AreSums : List CaughtFields → List ℕ → Type 0
AreSums copies sums = (direction n : ℕ) → slice_get sums direction ≡ Some n → n ≡ lane_count 0 copies direction + lane_count 1 copies direction

-- of each direction, the point of its interface
abbrev pub owner_by : Option (Option ℕ) → ℕ
owner_by None = 0
owner_by (Some None) = 0
owner_by (Some (Some k)) = k

abbrev pub ArePointsOf : List (Option ℕ) → List ℕ → Type 0
ArePointsOf owners points = (direction point : ℕ) → slice_get points direction ≡ Some point → point ≡ owner_by (slice_get owners (interface_of direction))

-- of an interface that is looked at its tally
abbrev pub tally_if : Bool → Tally → Option Tally
tally_if true tally = Some tally
tally_if false tally = None

abbrev pub AreTalliesBy : List Bool → List Tally → List (Option Tally) → Type 0
AreTalliesBy looked tallies all = (i : ℕ) (own : Option Tally) (tally : Tally) → slice_get all i ≡ Some own → slice_get tallies i ≡ Some tally → own ≡ tally_if (is_at looked i) tally

abbrev pub AreTalliesIf : List Bool → List PacketFields → List (Option Tally) → Type 0
AreTalliesIf looked packets tallies = (i : ℕ) (own : Option Tally) → slice_get tallies i ≡ Some own → own ≡ tally_if (is_at looked i) (tally_at packets i (is_at looked i))

-- how the directions of each interface are told apart
abbrev pub AreTaps : TapsAsked → List Bool → List PacketFields → List Taps → Type 0
AreTaps asked looked packets taps = (i : ℕ) (own : Taps) → slice_get taps i ≡ Some own → own ≡ taps_by asked (tally_at packets i (is_at looked i))

-- ---- the order of time

-- no packet has an earlier stamp than the one in front of it
abbrev pub AreInOrder : List PacketFields → Type 0
AreInOrder packets = (i : ℕ) (p q : PacketFields) → slice_get packets i ≡ Some p → slice_get packets (i + 1) ≡ Some q → p.moment ≤ q.moment

-- ---- numbers

-- no two packets of a file have one number
abbrev pub ArePackets : List PacketFields → Type 0
ArePackets packets = (i j : ℕ) (p q : PacketFields) → slice_get packets i ≡ Some p → slice_get packets j ≡ Some q → p.number ≡ q.number → i ≡ j

-- no two copies are of one packet
abbrev pub HaveOwnNumbers : List CaughtFields → Type 0
HaveOwnNumbers copies = (i j : ℕ) (b c : CaughtFields) → slice_get copies i ≡ Some b → slice_get copies j ≡ Some c → b.packet ≡ c.packet → i ≡ j

-- ---- the whole

-- what came by the taps of a capture, where these interfaces are looked at, and the copies among it
pub record IsTapped (choice : ChoiceFields) (interfaces : List InterfaceFields) (packets : List PacketFields) (looked : List Bool) (tapped : Tapped) (copies : List CaughtFields) : Type 0 where
  pub looks : AreLookedAt choice interfaces looked
  pub long : length tapped.tallies.items ≡ length looked
  pub tallies : AreTalliesIf looked packets tapped.tallies.items
  pub taps : AreTaps choice.taps looked packets tapped.taps.items
  pub points : tapped.points.items ≡ names_from choice looked [] 0 interfaces
  pub are_copies : copies ≡ copies_in looked tapped.taps.items packets
  pub strays : tapped.strays.items ≡ strays_in looked tapped.taps.items packets
  pub point_of : (owners : List (Option ℕ)) × AreOwners choice looked interfaces tapped.points.items owners × ArePointsOf owners tapped.point_of.items
  pub way_of : AreWays copies tapped.way_of.items
  pub carried : AreSums copies tapped.carried.items
  pub time : AreInTime copies
  pub few : length copies ≤ length packets
  pub numbers : HaveOwnNumbers copies
  pub directions : (i : ℕ) (c : CaughtFields) → slice_get copies i ≡ Some c → c.direction < 320
  pub places : (direction point : ℕ) → slice_get tapped.point_of.items direction ≡ Some point → point < 64
