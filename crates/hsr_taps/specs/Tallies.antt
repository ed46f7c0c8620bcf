-- What came at each interface.
use Rattle.std.specs.Prelude.{ℕ, ◌≡◌, ◌+◌, ◌*◌, ◌<◌, ◌%◌, ◌^◌, ◌==◌, ◌&&◌, ◌||◌, min, nat_lt, nat_le, Bool, true, false, if◌then◌else◌, List, [], length, filter, count_by, slice_get, Some, is_some, option_map, unwrap_or, Result, Ok, Err}
use Rattle.std.specs.List.{list_any}
use Rattle.hsr_capture_reader.specs.Fields.{InterfaceFields, PacketFields}
use Rattle.hsr_frame_copies.specs.Contents.{CopyFields, copy_of}
use Rattle.hsr_frame_copies.specs.declared.contents.NoCopy.{NoCopy}
use Rattle.hsr_frame_copies.specs.declared.contents.NoCopy.TheVariants.{Unread, Malformed, Untagged}
use Rattle.hsr_taps.specs.Asked.{ChoiceFields}
use Rattle.hsr_taps.specs.declared.choice.TapsAsked.{TapsAsked}
use Rattle.hsr_taps.specs.declared.choice.TapsAsked.TheVariants as asked
use Rattle.hsr_taps.specs.declared.direction.Taps.{Taps}
use Rattle.hsr_taps.specs.declared.direction.Taps.TheVariants as taps
use Rattle.hsr_taps.specs.declared.tally.Tally.{Tally}

-- ---- what is looked at

-- an interface that is Ethernet (link type 1), and among those that are asked for, if any are
abbrev pub is_looked_at : ChoiceFields → ℕ → InterfaceFields → Bool
is_looked_at choice i interface = (interface.link == 1) && ((length choice.interfaces == 0) || list_any (λ j. j == i) choice.interfaces)

-- whether an interface is looked at, by what is known of each
abbrev pub is_at : List Bool → ℕ → Bool
is_at looked i = unwrap_or (slice_get looked i) false

-- ---- what a packet is

abbrev pub is_cut : PacketFields → Bool
is_cut p = nat_lt (length p.octets) p.length

-- its flags tell a direction
abbrev pub is_flagged : PacketFields → Bool
is_flagged p = is_some p.way

-- a copy of a tagged frame, whose path has a lane
abbrev pub has_lane : ℕ → Result CopyFields NoCopy → Bool
has_lane lane (Ok c) = c.path % 2 == lane
has_lane lane (Err what) = false

abbrev pub is_untagged : Result CopyFields NoCopy → Bool
is_untagged (Err (Untagged frame)) = true
is_untagged (Err (Malformed fault)) = false
is_untagged (Err Unread) = false
is_untagged (Ok c) = false

abbrev pub is_malformed : Result CopyFields NoCopy → Bool
is_malformed (Err (Malformed fault)) = true
is_malformed (Err (Untagged frame)) = false
is_malformed (Err Unread) = false
is_malformed (Ok c) = false

abbrev pub is_unread : Result CopyFields NoCopy → Bool
is_unread (Err Unread) = true
is_unread (Err (Untagged frame)) = false
is_unread (Err (Malformed fault)) = false
is_unread (Ok c) = false

-- ---- how many

-- how many packets there are, and what they are
abbrev pub tally_of : List PacketFields → Tally
tally_of packets = record {
  packets = length packets;
  untagged = count_by (λ p. is_untagged (copy_of p)) packets;
  malformed = count_by (λ p. is_malformed (copy_of p)) packets;
  unread = count_by (λ p. is_unread (copy_of p)) packets;
  cut = count_by is_cut packets;
  lane_a = count_by (λ p. has_lane 0 (copy_of p)) packets;
  lane_b = count_by (λ p. has_lane 1 (copy_of p)) packets;
  flagged = count_by is_flagged packets;
}

-- the packets of an interface
abbrev pub came_at : ℕ → List PacketFields → List PacketFields
came_at i packets = filter (λ p. p.interface == i) packets

-- of an interface that is looked at, what came there; nothing of others
abbrev pub tally_at : List PacketFields → ℕ → Bool → Tally
tally_at packets i true = tally_of (came_at i packets)
tally_at packets i false = tally_of []

-- ---- how directions are told apart

-- copies of tagged frames
abbrev pub tagged : Tally → ℕ
tagged t = t.lane_a + t.lane_b

-- the rarer lane has a tenth or more of the copies
abbrev pub has_both : Tally → Bool
has_both t = nat_lt 0 (min t.lane_a t.lane_b) && nat_le (tagged t) (min t.lane_a t.lane_b * 10)

-- by flags, where packets have them; else by lane, where both are there; else there is one direction
abbrev pub taps_by : TapsAsked → Tally → Taps
taps_by asked.One t = taps.One
taps_by asked.Both t = taps.Both
taps_by asked.Auto t = if nat_lt 0 t.flagged then taps.Flags else (if has_both t then taps.Both else taps.One)

-- ---- of all interfaces

pub record AreLookedAt (choice : ChoiceFields) (interfaces : List InterfaceFields) (looked : List Bool) : Type 0 where
  pub each : (i : ℕ) → slice_get looked i ≡ option_map (is_looked_at choice i) (slice_get interfaces i)

-- of each interface what came there, if it is looked at
abbrev pub AreTallies : List Bool → List PacketFields → List Tally → Type 0
AreTallies looked packets tallies = (i : ℕ) (own : Tally) → slice_get tallies i ≡ Some own → own ≡ tally_at packets i (is_at looked i)

-- no sum of lanes is greater than 64 bits have room for
abbrev pub HaveRoom : List Tally → Type 0
HaveRoom tallies = (i : ℕ) (own : Tally) → slice_get tallies i ≡ Some own → tagged own < 2 ^ 60
