-- The scenes, each a list of stimuli. Places are milliseconds from a scene's start.
--     groups, others, addressed   what comes by a ring
--     supervisions                supervision, readable and not
--     malformed                   octets that are no frame
--     forgetting, numbers         one frame again, after a time; numbers that wrap
--     filling, behind             a table that is exactly full, and what comes then
--     node                        whom a node hears
--     from_stations, to_stations  what comes by an interlink, and for stations there
--     station, stations_behind    whom a RedBox knows
use Rattle.std.specs.Prelude.{ℕ, zero, suc, ◌+◌, ◌-◌, ◌*◌, ◌/◌, ◌%◌, ◌^◌, min, nat_le, Bool, List, [], ◌∷◌, ◌++◌, Option, Some, None, if◌then◌else◌}
use Rattle.hsr_stimuli.specs.Scene.{end_tlv, experimental, from, group_address, other, plain, shaped, source, supervision, tag_at, tagged, tlv, turned, usual_load, with_port}
use Rattle.hsr_stimuli.specs.declared.rule.Rule.{Rule}
use Rattle.hsr_stimuli.specs.declared.rule.Rule.TheVariants as rule
use Rattle.hsr_stimuli.specs.declared.scene.Scene.{Scene}
use Rattle.hsr_stimuli.specs.declared.scene.Stimulus.{Stimulus}
use Rattle.hsr_stimuli.specs.declared.shape.Form.TheVariants.{Plain, InVlan, Tagged, TaggedInVlan, CutVlan, TwoVlans, VlanBehind, CutTag, TwoTags}
use Rattle.hsr_stimuli.specs.declared.shape.Load.{Load}
use Rattle.hsr_stimuli.specs.declared.shape.Load.TheVariants.{Filled}
use Rattle.hsr_stimuli.specs.declared.shape.Tag.{Tag}

-- ---- by a ring

-- priority 1 in VLAN 100
abbrev pub control : ℕ
control = 0x2064

abbrev pub group_shaped : Scene → ℕ → Rule → Tag → Load → Stimulus
group_shaped scene ms rule tag load = shaped scene ms rule group_address (source scene) (Tagged tag) load

-- path 5
abbrev pub other_path : ℕ → Tag
other_path number = record { first = 0x5000 + 52; number = number }

-- with a size that isn't that of its payload
abbrev pub wrong_size : Scene → ℕ → Tag
wrong_size scene number = record { first = (tag_at scene number).first + 100; number = number }

-- with the size of a payload of so many octets
abbrev pub sized : Scene → ℕ → ℕ → Tag
sized scene len number = record { first = (tag_at scene number).first - 46 + len; number = number }

-- frames to a group, of every form; those of 40 octets of payload are the least that a cable carries
unfoldable pub groups : Scene → List Stimulus
groups scene =
    tagged scene 0 rule.ToGroup group_address 0
    ∷ tagged (turned scene) 1 rule.ToGroupSecond group_address 0
    ∷ tagged scene 2 rule.ToGroupAgain group_address 0
    ∷ shaped scene 3 rule.InVlan group_address (source scene) (TaggedInVlan control (tag_at scene 1)) usual_load
    ∷ group_shaped scene 4 rule.OtherPath (other_path 2) usual_load
    ∷ group_shaped scene 5 rule.WrongSize (wrong_size scene 3) usual_load
    ∷ group_shaped scene 6 rule.LeastPayload (sized scene 40 4) (Filled 40)
    ∷ group_shaped scene 7 rule.LongestPayload (sized scene 1500 5) (Filled 1500)
    ∷ plain scene 8 rule.Untagged group_address
    ∷ []

-- frames to another node
unfoldable pub others : Scene → List Stimulus
others scene =
    let dst = other scene.own 500 in
    tagged scene 10 rule.ToAnother dst 10 ∷ tagged (turned scene) 11 rule.ToAnotherSecond dst 10 ∷ tagged scene 12 rule.ToAnotherAgain dst 10 ∷ []

-- frames to the device, and one from its own address
unfoldable pub addressed : Scene → List Stimulus
addressed scene =
    tagged scene 20 rule.ToDevice scene.own 20
    ∷ tagged (turned scene) 21 rule.ToDeviceSecond scene.own 20
    ∷ tagged scene 22 rule.ToDeviceAgain scene.own 20
    ∷ shaped scene 23 rule.FromDevice group_address scene.own (Tagged (tag_at scene 21)) usual_load
    ∷ []

-- ---- supervision

-- TLV1 of types 23, 20 and 21, a RedBox's TLV of type 30; then what can't be read: the value of a TLV cut off, another type or length of
-- TLV1, another length of a RedBox's TLV
unfoldable pub supervisions : Scene → List Stimulus
supervisions scene =
    let src = source scene in
    let of_node = tlv 23 6 src in
    supervision scene 30 rule.SupervisionHsr 30 of_node end_tlv
    ∷ supervision scene 31 rule.SupervisionRedBox 31 (tlv 23 6 (other scene.own 501)) (tlv 30 6 src)
    ∷ supervision scene 32 rule.SupervisionDiscard 32 (tlv 20 6 src) end_tlv
    ∷ supervision scene 33 rule.SupervisionAccept 33 (tlv 21 6 src) end_tlv
    ∷ supervision scene 34 rule.SupervisionCutOff 34 of_node (tlv 5 200 src)
    ∷ supervision scene 35 rule.SupervisionKind 35 (tlv 22 6 src) end_tlv
    ∷ supervision scene 36 rule.SupervisionLength 36 (tlv 23 5 src) end_tlv
    ∷ supervision scene 37 rule.SupervisionRedBoxLength 37 of_node (tlv 30 5 src)
    ∷ []

-- ---- octets that are no frame

unfoldable pub malformed : Scene → List Stimulus
malformed scene =
    let src = source scene in
    let tag = tag_at scene 40 in
    shaped scene 40 rule.Short group_address src (CutVlan control) (Filled 0)
    ∷ shaped scene 41 rule.Long group_address src (Tagged tag) (Filled 1501)
    ∷ shaped scene 42 rule.LongUntagged group_address src Plain (Filled 1501)
    ∷ shaped scene 43 rule.GroupSource group_address group_address (Tagged tag) usual_load
    ∷ shaped scene 44 rule.TwoVlanTags group_address src (TwoVlans control) usual_load
    ∷ shaped scene 45 rule.VlanTagBehind group_address src (VlanBehind tag control) usual_load
    ∷ shaped scene 46 rule.ShortTag group_address src (CutTag tag) (Filled 0)
    ∷ shaped scene 47 rule.NestedTag group_address src (TwoTags tag) usual_load
    ∷ []

-- ---- what a table remembers

-- a frame, and the same one millisecond before it is forgotten, and when it is
unfoldable pub forgetting : Scene → List Stimulus
forgetting scene =
    tagged scene 0 rule.First group_address 0 ∷ tagged scene 399 rule.Remembered group_address 0 ∷ tagged scene 400 rule.Forgotten group_address 0 ∷ []

-- microseconds between frames that fill a table with so many entries, so that all are there for less than 400 ms; 1 ms at most
abbrev pub step_for : ℕ → ℕ
step_for entries = min 1000 (390000 / (entries + 4))

-- a least frame takes 7 microseconds at 100 Mbit/s
abbrev pub can_fill : ℕ → Bool
can_fill entries = nat_le 7 (step_for entries)

abbrev pub filling : Scene → ℕ → Rule → ℕ → ℕ → Stimulus
filling scene step rule index number = record (tagged scene 0 rule group_address number) { at = scene.start + step * index }

-- the first ones of a sequence
unfoldable pub below : (ℕ → Stimulus) → ℕ → List Stimulus
below f zero = []
below f (suc n) = below f n ++ f n ∷ []

abbrev pub fill : Scene → ℕ → ℕ → Stimulus
fill scene step n = filling scene step rule.Fill n n

-- the table is full: the first frame is remembered; with one entry more the second still is, but the first no longer
unfoldable pub behind : Scene → ℕ → ℕ → List Stimulus
behind scene step entries =
    filling scene step rule.Full entries 0
    ∷ filling scene step rule.OneMore (entries + 1) entries
    ∷ filling scene step rule.Kept (entries + 2) 1
    ∷ filling scene step rule.PushedOut (entries + 3) 0
    ∷ []

abbrev pub full_table : Scene → ℕ → List Stimulus
full_table scene entries = if can_fill entries then below (fill scene (step_for entries)) entries ++ behind scene (step_for entries) entries else []

-- ---- numbers

unfoldable pub numbers : Scene → List Stimulus
numbers scene =
    tagged scene 0 rule.NumberWraps group_address 65534
    ∷ tagged scene 1 rule.NumberWraps group_address 65535
    ∷ tagged scene 2 rule.NumberWraps group_address 0
    ∷ tagged scene 3 rule.NumberWraps group_address 1
    ∷ tagged scene 4 rule.NumberAgain group_address 65534
    ∷ tagged scene 5 rule.NumberAgain group_address 65535
    ∷ tagged scene 6 rule.NumberAgain group_address 0
    ∷ tagged scene 7 rule.NumberAgain group_address 1
    ∷ tagged (from scene 502) 8 rule.NumberOfAnother group_address 0
    ∷ []

-- ---- whom a node hears

-- supervision of a node of its own
abbrev pub node : Scene → ℕ → Stimulus
node scene n = let heard = from scene (1000 + n) in supervision heard n rule.Node 0 (tlv 23 6 (source heard)) end_tlv

-- ---- by an interlink

-- two stations, 400 and 401
unfoldable pub from_stations : Scene → List Stimulus
from_stations ring =
    let one = from (with_port ring 2) 400 in
    let two = from (with_port ring 2) 401 in
    plain one 0 rule.StationToAnother (other ring.own 500)
    ∷ plain two 1 rule.StationToGroup group_address
    ∷ plain one 2 rule.StationToDevice ring.own
    ∷ plain one 3 rule.StationToStation (source two)
    ∷ shaped two 4 rule.StationInVlan group_address (source two) (InVlan control) usual_load
    ∷ shaped one 5 rule.DeviceAtInterlink group_address ring.own Plain usual_load
    ∷ tagged one 6 rule.TaggedAtInterlink group_address 0
    ∷ []

-- what comes for one of them by the ring, and from its address
unfoldable pub to_stations : Scene → List Stimulus
to_stations ring =
    let station = other ring.own 400 in
    tagged ring 202 rule.ToStation station 7
    ∷ tagged (turned ring) 203 rule.ToStationSecond station 7
    ∷ tagged ring 204 rule.ToStationAgain station 7
    ∷ tagged (from ring 400) 205 rule.StationOnRing group_address 40000
    ∷ []

-- what the device numbered comes round the ring: its first number is known
unfoldable pub came_back : Scene → ℕ → List Stimulus
came_back ring start =
    tagged (from ring 400) 200 rule.CameBack (other ring.own 500) start
    ∷ tagged (from ring 401) 201 rule.GroupCameBack group_address ((start + 1) % 2 ^ 16)
    ∷ []

abbrev pub came_back_if : Scene → Option ℕ → List Stimulus
came_back_if ring None = []
came_back_if ring (Some start) = came_back ring start

-- ---- whom a RedBox knows

abbrev pub station : Scene → ℕ → Stimulus
station ring n = plain (from (with_port ring 2) (2000 + n)) n rule.Station ring.own

-- behind 64 stations: the oldest is known; with one more it isn't, but the second oldest still is
unfoldable pub stations_behind : Scene → List Stimulus
stations_behind ring =
    let oldest = other ring.own 2000 in
    tagged ring 300 rule.ToOldestStation oldest 0
    ∷ plain (from (with_port ring 2) 2064) 500 rule.StationMore ring.own
    ∷ tagged ring 700 rule.ToStationPushedOut oldest 1
    ∷ tagged ring 701 rule.ToStationKept (other ring.own 2001) 2
    ∷ []

-- one millisecond before a station is forgotten, and when it is
unfoldable pub last_station : Scene → List Stimulus
last_station ring =
    let dst = other ring.own 2100 in
    plain (from (with_port ring 2) 2100) 0 rule.Station ring.own
    ∷ tagged ring 59999 rule.ToStationRemembered dst 0
    ∷ tagged ring 60000 rule.ToStationForgotten dst 1
    ∷ []
