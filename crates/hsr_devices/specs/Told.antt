-- The address of which a supervision frame that came told a node.
use Rattle.std.specs.Prelude.{ℕ, Bool, false, List, Option, Some, None, Result, Ok, Err, if◌then◌else◌}
use Rattle.hsr_frame.specs.Address.{is_same_address}
use Rattle.hsr_frame.specs.declared.fault.FrameFault.{FrameFault}
use Rattle.hsr_frame.specs.declared.node.RingPort.{RingPort}
use Rattle.hsr_node.specs.declared.event.Event.{Event}
use Rattle.hsr_node.specs.declared.event.Event.TheVariants.{Arrive}
use Rattle.hsr_node.specs.declared.place.Place.{Place}
use Rattle.hsr_supervision.specs.Payload.{Fields, read_of}
use Rattle.hsr_supervision.specs.declared.payload.SupFault.{SupFault}
use Rattle.hsr_tag.specs.Seen.{classified, is_told, payload_in}
use Rattle.hsr_tag.specs.declared.seen.Seen.{Seen}
use Rattle.hsr_devices.specs.Known.{hears_with}

abbrev pub about_of : Result Fields SupFault → Option (List ℕ)
about_of (Ok said) = Some said.about
about_of (Err fault) = None

abbrev pub told_in : List ℕ → Result Seen FrameFault → Option (List ℕ)
told_in own seen = if is_told own seen then about_of (read_of (payload_in seen)) else None

abbrev pub told_with : Option (List ℕ × RingPort) → Result Seen FrameFault → Option (List ℕ)
told_with None seen = None
told_with (Some ear) seen = told_in ear.0 seen

abbrev pub told_by : Place → Event → Option (List ℕ)
told_by place (Arrive port copy) = told_with (hears_with place port) (classified copy.octets)
told_by place event = None

abbrev pub is_mac : List ℕ → Option (List ℕ) → Bool
is_mac mac None = false
is_mac mac (Some other) = is_same_address other mac
