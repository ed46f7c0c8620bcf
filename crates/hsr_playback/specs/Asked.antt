-- What a passage asks of the reference.
use Rattle.std.specs.Prelude.{ℕ, ◌&&◌, Bool, true, false, List, Option, Some, None, Result, Ok, Err, if◌then◌else◌}
use Rattle.hsr_frame.specs.Address.{is_same_address}
use Rattle.hsr_frame.specs.Egress.{is_supervision}
use Rattle.hsr_frame.specs.Grammar.{Fields}
use Rattle.hsr_frame.specs.declared.fault.FrameFault.{FrameFault}
use Rattle.hsr_frame.specs.declared.fault.FrameFault.TheVariants.{Long}
use Rattle.hsr_frame.specs.declared.fault.SendFault.TheVariants.{ReservedType, TooLong}
use Rattle.hsr_frame.specs.declared.node.About.{About}
use Rattle.hsr_frame.specs.declared.node.About.TheVariants as about
use Rattle.hsr_supervision.specs.Payload.{read_of, Fields as Payload}
use Rattle.hsr_supervision.specs.declared.payload.SupFault.{SupFault}
use Rattle.hsr_tag.specs.Seen.{classified}
use Rattle.hsr_tag.specs.Tag.{TaggedFields, untag_of}
use Rattle.hsr_tag.specs.declared.seen.Seen.{Seen}
use Rattle.hsr_tag.specs.declared.seen.Seen.TheVariants.{Plain, Tagged}
use Rattle.hsr_node.specs.declared.event.Event.{Event}
use Rattle.hsr_node.specs.declared.event.Event.TheVariants.{Send, Supervise, Arrive}
use Rattle.hsr_tap_device.specs.declared.device.End.{End}
use Rattle.hsr_tap_device.specs.declared.device.End.TheVariants as at
use Rattle.hsr_playback.specs.Own.{own_frame}
use Rattle.hsr_playback.specs.declared.asked.Asked.{Asked}
use Rattle.hsr_playback.specs.declared.asked.Asked.TheVariants.{Nothing, Arrival, Handed, Refused, Own}
use Rattle.hsr_playback.specs.declared.passage.Heading.{Heading}
use Rattle.hsr_playback.specs.declared.passage.Heading.TheVariants.{In, Out}
use Rattle.hsr_playback.specs.declared.passage.Passage.{Passage}

-- the number of the port at an end; none up
abbrev pub port_at : End → Option ℕ
port_at at.A = Some 0
port_at at.B = Some 1
port_at at.C = Some 2
port_at at.I = Some 2
port_at at.D = Some 3
port_at at.Up = None

abbrev pub arrival : ℕ → List ℕ → Event
arrival port octets = Arrive port (record { probe = None; octets = octets })

abbrev pub send_of : Fields → Event
send_of f = Send 0 f.dst f.vlan f.kind f.rest

-- what octets ask that the host handed down: a send of the plain frame that they are
abbrev pub handed : Result Seen FrameFault → Asked
handed (Ok (Plain f)) = Handed (send_of f)
handed (Ok (Tagged f)) = Refused ReservedType
handed (Err Long) = Refused TooLong
handed (Err _) = Refused ReservedType

abbrev pub about_of : List ℕ → List ℕ → About
about_of own told = if is_same_address told own then about.Own else about.Proxied told

-- what a frame of the device's own asks that no interface shows: of supervision a supervision about that node, else a send
abbrev pub said_or_sent : TaggedFields → Option (List ℕ) → Event
said_or_sent f None = send_of (untag_of f)
said_or_sent f (Some told) = Supervise (about_of f.src told)

abbrev pub told_by : Result Payload SupFault → Option (List ℕ)
told_by (Ok said) = Some said.about
told_by (Err fault) = None

abbrev pub told_in : TaggedFields → Option (List ℕ)
told_in f = if is_supervision f.dst f.kind then told_by (read_of f.payload) else None

abbrev pub own_asked : TaggedFields → Event
own_asked f = said_or_sent f (told_in f)

abbrev pub came_in : Option ℕ → List ℕ → Asked
came_in None octets = handed (classified octets)
came_in (Some port) octets = Arrival (arrival port octets)

abbrev pub went_out : Bool → Option TaggedFields → Asked
went_out begins None = Nothing
went_out begins (Some f) = if begins then Own (own_asked f) else Nothing

abbrev pub asked_at : Heading → Option (List ℕ) → Bool → Passage → Asked
asked_at In own begins p = came_in (port_at p.end) p.octets
asked_at Out own begins p = went_out begins (own_frame own p)

abbrev pub asked_by : Option (List ℕ) → Bool → Passage → Asked
asked_by own begins p = asked_at p.heading own begins p
