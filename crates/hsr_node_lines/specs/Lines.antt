-- The lines of a capture: what it asks of a node.
--     send_of, begun_by    what a packet asks for
--     came, went           what is told behind a packet that goes in, or leaves
--     told_from            packet by packet
--     lines_of             of a whole capture, for a device, or for ports A and B
use Rattle.std.specs.Prelude.{ℕ, ◌-◌, ◌/◌, ◌+◌, ◌&&◌, nat_le, ⊤, Bool, true, false, if◌then◌else◌, List, [], ◌∷◌, ◌++◌, length, replicate, codes, slice_set, Option, Some, None, option_map, Result, Ok, Err}
use Rattle.std.specs.List.{list_any}
use Rattle.hsr_capture_reader.specs.Fields.{InterfaceFields, PacketFields, capped_sum}
use Rattle.hsr_frame.specs.Egress.{is_supervision}
use Rattle.hsr_frame.specs.declared.fault.FrameFault.{FrameFault}
use Rattle.hsr_frame.specs.declared.node.RingPort.{RingPort}
use Rattle.hsr_frame.specs.declared.node.RingPort.TheVariants as port
use Rattle.hsr_frame_copies.specs.Contents.{CopyFields, copy_of, filled}
use Rattle.hsr_frame_copies.specs.declared.contents.NoCopy.{NoCopy}
use Rattle.hsr_node.specs.declared.role.Role.{Role}
use Rattle.hsr_node.specs.declared.role.Role.TheVariants.{Danh as IsDanh}
use Rattle.hsr_tag.specs.Seen.{classified}
use Rattle.hsr_tag.specs.declared.seen.Seen.{Seen}
use Rattle.hsr_tag.specs.declared.seen.Seen.TheVariants.{Plain, Tagged}
use Rattle.hsr_tap_device.specs.declared.device.End.{End}
use Rattle.hsr_tap_device.specs.declared.device.End.TheVariants.{B}
use Rattle.hsr_tap_device.specs.Device.{DeviceFields}
use Rattle.hsr_tap_device.specs.declared.device.Passing.{Passing}
use Rattle.hsr_tap_device.specs.declared.device.Passing.TheVariants.{Out}
use Rattle.hsr_tap_device.specs.declared.device.Tap.{Tap}
use Rattle.hsr_node_lines.specs.Faults.{◌>>=◌}
use Rattle.hsr_node_lines.specs.Own.{begins_send, handed_with}
use Rattle.hsr_node_lines.specs.Passage.{is_up, passage_of}
use Rattle.hsr_node_lines.specs.Spelled.{Asked, send, life, arrive, line_text}
use Rattle.hsr_node_lines.specs.Taps.{taps_of}
use Rattle.hsr_node_lines.specs.declared.fault.LinesFault.{LinesFault}
use Rattle.hsr_node_lines.specs.declared.fault.LinesFault.TheVariants as fault
use Rattle.hsr_node_lines.specs.declared.own.Handed.{Handed}
use Rattle.hsr_node_lines.specs.declared.own.Danh.{Danh}
use Rattle.hsr_node_lines.specs.declared.passage.Passage.{Passage}

-- ---- what a packet asks for

-- to send the frame that octets are; nothing where they are none
abbrev pub send_of : ℕ → Result Seen FrameFault → Option Asked
send_of at (Err why) = None
send_of at (Ok (Plain f)) = Some (send (record { at = at; dst = f.dst; kind = f.kind; payload = f.rest; vlan = f.vlan }))
send_of at (Ok (Tagged t)) = Some (send (record { at = at; dst = t.dst; kind = t.kind; payload = t.payload; vlan = t.vlan }))

-- a ring port of a DANH
abbrev pub port_of : End → RingPort
port_of B = port.B
port_of _ = port.A

-- ---- what was told

-- the lines, how many packets gave none, when each number of the device was begun last, and what the host handed down
pub record ToldFields : Type 0 where
  pub text : List ℕ
  pub skipped : ℕ
  pub begun : List (Option ℕ)
  pub handed : List Handed

-- none of the 65536 numbers was begun
unfoldable pub none_begun : List (Option ℕ)
none_begun = replicate 65536 None

abbrev pub nothing_told : ToldFields
nothing_told = record { text = []; skipped = 0; begun = none_begun; handed = [] }

-- with one more packet that gave no line
abbrev pub skips : ToldFields → ToldFields
skips t = record t { skipped = capped_sum t.skipped 1 }

-- a line has at most 4096 octets
abbrev pub with_text : ToldFields → List ℕ → ToldFields
with_text t line = if nat_le (length line) 4096 then record t { text = t.text ++ line ++ codes "\n" } else skips t

abbrev pub with_texts : ToldFields → Option (List ℕ) → ToldFields
with_texts t None = skips t
with_texts t (Some line) = with_text t line

-- the line of what is asked for, if there is one
abbrev pub with_line : ToldFields → Option Asked → ToldFields
with_line t asked = with_texts t (option_map line_text asked)

-- ---- packet by packet

-- what comes in at a port
abbrev pub arrived : ToldFields → ℕ → End → List ℕ → ToldFields
arrived t at end octets = with_line t (Some (arrive at (port_of end) octets))

abbrev pub is_life : Result Seen FrameFault → Bool
is_life (Ok (Plain f)) = is_supervision f.dst f.kind
is_life _ = false

-- what the host hands down
abbrev pub handed_down : ToldFields → ℕ → List ℕ → ToldFields
handed_down t at octets =
    let told = with_line t (send_of at (classified octets)) in
    if is_life (classified octets) then record told { handed = handed_with told.handed (record { at = at; octets = octets }) } else told

-- the send that a copy begins: of supervision the node's own
abbrev pub begun_by : ℕ → CopyFields → List ℕ → Option Asked
begun_by at copy octets = if is_supervision copy.dst copy.kind then Some (life at) else send_of at (classified octets)

abbrev pub left_by : Danh → ToldFields → ℕ → Result CopyFields NoCopy → List ℕ → ToldFields
left_by danh t at (Err _) octets = t
left_by danh t at (Ok copy) octets =
    if begins_send danh t.begun t.handed at copy octets
    then (let told = with_line t (begun_by at copy octets) in record told { begun = slice_set told.begun copy.seq (Some at) })
    else t

-- what leaves by a port
abbrev pub left : Option Danh → ToldFields → ℕ → PacketFields → ToldFields
left None t at p = t
left (Some danh) t at p = left_by danh t at (copy_of p) (filled p)

-- a packet that goes in
abbrev pub came : ToldFields → ℕ → End → PacketFields → ToldFields
came t at end p = if is_up end then handed_down t at (filled p) else arrived t at end (filled p)

abbrev pub went : Option Danh → ToldFields → ℕ → End → PacketFields → ToldFields
went danh t at end p = if is_up end then t else left danh t at p

-- of over 2048 octets no line has room
abbrev pub passed : Option Danh → ToldFields → ℕ → Option Passage → PacketFields → ToldFields
passed danh t at None p = t
passed danh t at (Some passage) p =
    if passage.is_in
    then (if nat_le p.length 2048 then came t at passage.end p else skips t)
    else (if nat_le p.length 2048 then went danh t at passage.end p else t)

-- ---- a whole capture

-- what decides which lines there are: what each interface is, the first packet's moment, from when until when packets count, in
-- microseconds since then, both included, and the device, if one is given
pub record SceneFields : Type 0 where
  pub taps : List (Option Tap)
  pub start : ℕ
  pub from : ℕ
  pub until : Option ℕ
  pub danh : Option Danh

-- microseconds since the first packet
abbrev pub moment_in : SceneFields → PacketFields → ℕ
moment_in scene p = (p.moment - scene.start) / 1000

abbrev pub is_until : ℕ → Option ℕ → Bool
is_until at None = true
is_until at (Some until) = nat_le at until

abbrev pub told_at : SceneFields → ToldFields → ℕ → PacketFields → Result ToldFields LinesFault
told_at scene t at p =
    if nat_le scene.from at && is_until at scene.until
    then (passage_of scene.taps p >>= λ passage. Ok (passed scene.danh t at passage p))
    else Ok t

abbrev pub packet_told : SceneFields → ToldFields → PacketFields → Result ToldFields LinesFault
packet_told scene t p = told_at scene t (moment_in scene p) p

abbrev pub told_from : SceneFields → ToldFields → List PacketFields → Result ToldFields LinesFault
told_from scene t [] = Ok t
told_from scene t (p ∷ packets) = packet_told scene t p >>= λ told. told_from scene told packets

-- a device is a DANH
abbrev pub of_danh : Role → Result ⊤ LinesFault
of_danh IsDanh = Ok tt
of_danh _ = Err fault.Role

abbrev pub as_danh : Option DeviceFields → Result ⊤ LinesFault
as_danh None = Ok tt
as_danh (Some d) = of_danh d.owner.role

-- what the host sends is seen at an interface
abbrev pub can_come : Passing → Bool
can_come Out = false
can_come _ = true

abbrev pub hands_down : Option Tap → Bool
hands_down None = false
hands_down (Some tap) = is_up tap.end && can_come tap.passing

abbrev pub is_host_seen : List (Option Tap) → Bool
is_host_seen taps = list_any hands_down taps

-- all that the host sends is in the capture
abbrev pub has_host : Option Bool → List (Option Tap) → Bool
has_host None taps = is_host_seen taps
has_host (Some said) taps = said

abbrev pub danh_by : DeviceFields → Option (List ℕ) → List (Option Tap) → Option Danh
danh_by d None taps = None
danh_by d (Some mac) taps = Some (record { mac = mac; has_host = has_host d.host taps; within = d.times.within })

abbrev pub danh_of : Option DeviceFields → List (Option Tap) → Option Danh
danh_of None taps = None
danh_of (Some d) taps = danh_by d d.owner.mac taps

abbrev pub from_of : Option DeviceFields → ℕ
from_of None = 0
from_of (Some d) = d.times.from

abbrev pub until_of : Option DeviceFields → Option ℕ
until_of None = None
until_of (Some d) = d.times.until

unfoldable pub scene_of : Option DeviceFields → List InterfaceFields → ℕ → Result SceneFields LinesFault
scene_of device interfaces start = do
  _ ← as_danh device
  taps ← taps_of (option_map (λ d. d.interfaces) device) interfaces
  Ok (record { taps = taps; start = start; from = from_of device; until = until_of device; danh = danh_of device taps })

abbrev pub start_of : List PacketFields → ℕ
start_of [] = 0
start_of (p ∷ packets) = p.moment

-- the lines, and how many packets at the device's ends gave none
pub record LinesFields : Type 0 where
  pub text : List ℕ
  pub skipped : ℕ

-- of packets in the order of time
unfoldable pub lines_of : Option DeviceFields → List InterfaceFields → List PacketFields → Result LinesFields LinesFault
lines_of device interfaces packets = do
  scene ← scene_of device interfaces (start_of packets)
  told ← told_from scene nothing_told packets
  Ok (record { text = told.text; skipped = told.skipped })
