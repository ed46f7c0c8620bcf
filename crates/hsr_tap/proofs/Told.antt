-- What is told, of its parts.
use Rattle.std.proofs.Common.{◌≡◌, ℕ, List, Option, Result, Ok}
use Rattle.hsr_capture_reader.specs.Capture.{CaptureFields, capture_of}
use Rattle.hsr_capture_reader.specs.Fields.{PacketFields}
use Rattle.hsr_node_lines.specs.Faults.{Fails}
use Rattle.hsr_node_lines.specs.Lines.{LinesFields, lines_of}
use Rattle.hsr_node_lines.specs.declared.fault.LinesFault.{LinesFault}
use Rattle.hsr_node_lines.specs.declared.fault.LinesFault.TheVariants as lines
use Rattle.hsr_tap_device.specs.Device.{DeviceFields}
use Rattle.hsr_tap.specs.Tapping.{AreInOrder, Describes, HasLines, IsTold, IsUnlined}

pub has_lines : (given : Option DeviceFields) (capture : CaptureFields) (packets : List PacketFields) (told : Result LinesFields LinesFault) → AreInOrder capture.packets packets
    → lines_of given capture.interfaces packets ≡ told → HasLines given capture told
has_lines given capture packets told in_order is = record { packets = packets; in_order = in_order; are_lines = is }

pub unlined : (given : Option DeviceFields) (capture : CaptureFields) (packets : List PacketFields) (e : LinesFault) → AreInOrder capture.packets packets
    → Fails e (lines_of given capture.interfaces packets) → IsUnlined given capture e
unlined given capture packets lines.Role in_order h = has_lines given capture packets _ in_order h
unlined given capture packets (lines.Link link) in_order h = has_lines given capture packets _ in_order h
unlined given capture packets (lines.NoSuchName name) in_order h = has_lines given capture packets _ in_order h
unlined given capture packets (lines.NoDirection packet) in_order h = has_lines given capture packets _ in_order h
unlined given capture packets lines.NoMemory in_order h = tt

pub is_told : (given : Option DeviceFields) (capture : CaptureFields) (fcs : ℕ) (octets : List ℕ) (told : Result LinesFields LinesFault) → capture_of fcs octets ≡ Ok capture → HasLines given capture told
    → Describes given (λ document. IsTold document fcs octets told)
is_told given capture fcs octets told is has = λ document describes. record { device = given; capture = capture; is_device = describes; is_capture = is; has_lines = has }
