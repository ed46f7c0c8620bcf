-- The octets that leave a node by a port, and those that go up.
use Rattle.std.specs.Prelude.{ℕ, ◌==◌, ◌||◌, ◌&&◌, Bool, true, false, nat_lt, List, [], length, slice_get, unwrap_or, Option, Some, None, option_map, Result, Ok, Err, if◌then◌else◌}
use Rattle.hsr_frame.specs.Address.{is_group}
use Rattle.hsr_frame.specs.Grammar.{Fields, spelling}
use Rattle.hsr_frame.specs.Layout.{ethertype_hsr, ethertype_vlan, max_frame, max_payload}
use Rattle.hsr_frame.specs.declared.fault.FrameFault.{FrameFault}
use Rattle.hsr_frame.specs.declared.node.RingPort.{RingPort}
use Rattle.hsr_frame.specs.declared.node.RingPort.TheVariants.{A, B}
use Rattle.hsr_supervision.specs.Life as supervision
use Rattle.hsr_supervision.specs.Payload as payload
use Rattle.hsr_tag.specs.Seen.{classified}
use Rattle.hsr_tag.specs.Tag.{tag_of, tagged_spelling, untag_of}
use Rattle.hsr_tag.specs.declared.seen.Seen.{Seen}
use Rattle.hsr_tag.specs.declared.seen.Seen.TheVariants.{Plain, Tagged}
use Rattle.hsr_frame.specs.declared.node.About.{About}
use Rattle.hsr_frame.specs.declared.node.About.TheVariants.{Own, Proxied}
use Rattle.hsr_node.specs.declared.event.Event.{Event}
use Rattle.hsr_node.specs.declared.event.Event.TheVariants.{Send, Supervise, Arrive, Age}
use Rattle.hsr_node.specs.declared.event.Outcome.{Outcome}
use Rattle.hsr_node.specs.declared.event.Outcome.TheVariants.{Sent, Life, Judged, Aged}
use Rattle.hsr_node.specs.declared.place.Place.{Place}
use Rattle.hsr_node.specs.declared.place.Place.TheVariants.{Danh, RedBox, QuadBox, Station}
use Rattle.hsr_node.specs.declared.side.Side.{Side}
use Rattle.hsr_node.specs.declared.side.Side.TheVariants.{Ring, Edge}

-- ---- ports

-- A and B are on a ring, and so are a QuadBox's C and D, as the A and B of its other ring
abbrev pub ring_side : ℕ → Option Side
ring_side port = if port == 0 then Some (Ring A) else (if port == 1 then Some (Ring B) else None)

abbrev pub other_side : ℕ → Option Side
other_side port = if port == 2 then Some (Ring A) else (if port == 3 then Some (Ring B) else None)

-- what a port leads to, where the place has it
abbrev pub side_of : Place → ℕ → Option Side
side_of (Danh mac mode) port = ring_side port
side_of (RedBox mac mode) port = if port == 2 then Some Edge else ring_side port
side_of QuadBox port = if nat_lt port 2 then ring_side port else other_side port
side_of (Station macs) port = if port == 0 then Some Edge else None

abbrev pub is_ring : Side → Bool
is_ring (Ring port) = true
is_ring Edge = false

-- a tag has path 0 on A and 1 on B
abbrev pub path_of : RingPort → ℕ
path_of A = 0
path_of B = 1

-- ---- frames of a node's own

-- the frame with these fields, where there is one: no group sends it, its type is no tag's, and its payload fits
abbrev pub frame_of : Fields → Option Fields
frame_of f = if is_group f.src || (f.kind == ethertype_hsr) || (f.kind == ethertype_vlan) || nat_lt max_payload (length f.rest) then None else Some f

-- the address of a node on a ring
abbrev pub ring_address : Place → Option (List ℕ)
ring_address (Danh mac mode) = Some mac
ring_address (RedBox mac mode) = Some mac
ring_address QuadBox = None
ring_address (Station macs) = None

-- the address at a place among a node's own
abbrev pub address_at : Place → ℕ → Option (List ℕ)
address_at (Danh mac mode) from = if from == 0 then Some mac else None
address_at (RedBox mac mode) from = if from == 0 then Some mac else None
address_at QuadBox from = None
address_at (Station macs) from = slice_get macs.items from

-- the frame that a send asks for, by its source
abbrev pub asked_frame : Option (List ℕ) → List ℕ → Option ℕ → ℕ → List ℕ → Option Fields
asked_frame None dst vlan ethertype payload = None
asked_frame (Some src) dst vlan ethertype payload =
    frame_of (record { dst = dst; src = src; vlan = vlan; kind = ethertype; rest = payload })

-- what a supervision frame says: a RedBox names itself where it speaks for a station
abbrev pub life_said : List ℕ → About → ℕ → payload.Fields
life_said own Own life = supervision.life_said own None life
life_said own (Proxied mac) life = supervision.life_said mac (Some own) life

-- a supervision frame comes from the node's own address, whatever it is about
abbrev pub life_frame : Option (List ℕ) → About → ℕ → Option Fields
life_frame None about life = None
life_frame (Some own) about life = frame_of (supervision.life_frame own (life_said own about life))

-- ---- what leaves by a port

-- on a ring a frame has its number, and the path of the port
abbrev pub ring_octets : RingPort → ℕ → Fields → List ℕ
ring_octets port seq frame = tagged_spelling (tag_of frame (path_of port) seq)

-- a frame leaves plain at an edge, and on a ring with its number
abbrev pub octets_at : Side → Option ℕ → Fields → Option (List ℕ)
octets_at Edge seq frame = Some (spelling frame)
octets_at (Ring port) None frame = None
octets_at (Ring port) (Some seq) frame = Some (ring_octets port seq frame)

abbrev pub written : Option Side → Option ℕ → Option Fields → Option (List ℕ)
written None seq frame = None
written (Some side) seq None = None
written (Some side) seq (Some frame) = octets_at side seq frame

-- the frame that came, without its tag
abbrev pub plain_in : Result Seen FrameFault → Option Fields
plain_in (Err fault) = None
plain_in (Ok (Plain frame)) = Some frame
plain_in (Ok (Tagged frame)) = Some (untag_of frame)

-- the octets of that frame
abbrev pub plain_octets : List ℕ → Option (List ℕ)
plain_octets octets = option_map spelling (plain_in (classified octets))

-- the octets as they came, where they are no more than a frame may have
abbrev pub as_came : List ℕ → Option (List ℕ)
as_came octets = if nat_lt max_frame (length octets) then None else Some octets

-- what came to one port leaves by another: from ring to ring as it came, else as the plain frame that leaves there
abbrev pub forwarded : Option Side → Option Side → Option ℕ → List ℕ → Option (List ℕ)
forwarded None to seq octets = None
forwarded (Some from) None seq octets = None
forwarded (Some from) (Some to) seq octets =
    if is_ring from && is_ring to then as_came octets else written (Some to) seq (plain_in (classified octets))

-- ---- by event and outcome

abbrev pub ports_of : Outcome → List Bool
ports_of (Sent seq ports) = ports
ports_of (Life seq life ports) = ports
ports_of (Judged up ports seq cause) = ports
ports_of Aged = []

abbrev pub sent_octets : Place → Option Fields → Outcome → ℕ → Option (List ℕ)
sent_octets place frame (Sent seq ports) port = written (side_of place port) seq frame
sent_octets place frame _ port = None

abbrev pub life_octets : Place → About → Outcome → ℕ → Option (List ℕ)
life_octets place about (Life seq life ports) port = written (side_of place port) (Some seq) (life_frame (ring_address place) about life)
life_octets place about _ port = None

abbrev pub arrived_octets : Place → ℕ → List ℕ → Outcome → ℕ → Option (List ℕ)
arrived_octets place x octets (Judged up ports seq cause) port = forwarded (side_of place x) (side_of place port) seq octets
arrived_octets place x octets _ port = None

unfoldable pub passed_octets : Place → Event → Outcome → ℕ → Option (List ℕ)
passed_octets place (Send from dst vlan ethertype payload) outcome port =
    sent_octets place (asked_frame (address_at place from) dst vlan ethertype payload) outcome port
passed_octets place (Supervise about) outcome port = life_octets place about outcome port
passed_octets place (Arrive x copy) outcome port = arrived_octets place x copy.octets outcome port
passed_octets place Age outcome port = None

-- the octets that leave by a port, if something does
unfoldable pub copy_octets : Place → Event → Outcome → ℕ → Option (List ℕ)
copy_octets place event outcome port =
    if unwrap_or (slice_get (ports_of outcome) port) false then passed_octets place event outcome port else None

-- those among them that go on from ring to ring as they came
abbrev pub unchanged : Option Side → Option Side → List ℕ → Option (List ℕ)
unchanged None to octets = None
unchanged (Some from) None octets = None
unchanged (Some from) (Some to) octets = if is_ring from && is_ring to then as_came octets else None

abbrev pub arrived_unchanged : Place → ℕ → List ℕ → Outcome → ℕ → Option (List ℕ)
arrived_unchanged place x octets (Judged up ports seq cause) port = unchanged (side_of place x) (side_of place port) octets
arrived_unchanged place x octets _ port = None

abbrev pub passed_unchanged : Place → Event → Outcome → ℕ → Option (List ℕ)
passed_unchanged place (Arrive x copy) outcome port = arrived_unchanged place x copy.octets outcome port
passed_unchanged place _ outcome port = None

unfoldable pub unchanged_octets : Place → Event → Outcome → ℕ → Option (List ℕ)
unchanged_octets place event outcome port =
    if unwrap_or (slice_get (ports_of outcome) port) false then passed_unchanged place event outcome port else None

-- what goes up is the plain frame
abbrev pub raised : List ℕ → Outcome → Option (List ℕ)
raised octets (Judged up ports seq cause) = if up then plain_octets octets else None
raised octets _ = None

unfoldable pub up_octets : Event → Outcome → Option (List ℕ)
up_octets (Send from dst vlan ethertype payload) outcome = None
up_octets (Supervise about) outcome = None
up_octets (Arrive x copy) outcome = raised copy.octets outcome
up_octets Age outcome = None
