-- The copies that the reference lets out at tapped ends.
use Rattle.std.specs.Prelude.{ℕ, ◌-◌, ◌==◌, ◌&&◌, Bool, true, false, is_some, List, [], ◌∷◌, ◌++◌, length, slice_get, unwrap_or, Option, Some, None, Result, Ok, Err, if◌then◌else◌}
use Rattle.hsr_frame.specs.declared.fault.FrameFault.{FrameFault}
use Rattle.hsr_frame.specs.declared.node.Cause.{Cause}
use Rattle.hsr_tag.specs.Seen.{classified}
use Rattle.hsr_tag.specs.declared.seen.Seen.{Seen}
use Rattle.hsr_tag.specs.declared.seen.Seen.TheVariants.{Plain, Tagged}
use Rattle.hsr_node.specs.Copies.{copy_octets, up_octets}
use Rattle.hsr_node.specs.Record.{number_in}
use Rattle.hsr_node.specs.Words.{role_in}
use Rattle.hsr_node.specs.declared.event.Event.{Event}
use Rattle.hsr_node.specs.declared.event.Event.TheVariants.{Send, Supervise, Arrive, Age}
use Rattle.hsr_node.specs.declared.event.Outcome.{Outcome}
use Rattle.hsr_node.specs.declared.event.Outcome.TheVariants as outcome
use Rattle.hsr_node.specs.declared.event.StepFault.{StepFault}
use Rattle.hsr_node.specs.declared.event.StepFault.TheVariants as refused
use Rattle.hsr_node.specs.declared.place.Place.{Place}
use Rattle.hsr_tap_device.specs.Words.{end_number, has_end, has_lane}
use Rattle.hsr_tap_device.specs.declared.device.End.{End}
use Rattle.hsr_tap_device.specs.declared.device.End.TheVariants as at
use Rattle.hsr_playback.specs.Asked.{port_at}
use Rattle.hsr_playback.specs.Passages.{missing}
use Rattle.hsr_playback.specs.declared.expected.Expected.{Expected}
use Rattle.hsr_playback.specs.declared.passage.Passage.{Passage}
use Rattle.hsr_playback.specs.declared.playing.Said.{Said}
use Rattle.hsr_playback.specs.declared.playing.Said.TheVariants as said
use Rattle.hsr_playback.specs.declared.taps.Taps.{Taps}

-- what goes in at an end is captured
abbrev pub has_in : Taps → End → Bool
has_in taps end = unwrap_or (slice_get taps.ins (end_number end)) false

-- what leaves by an end is captured
abbrev pub has_out : Taps → End → Bool
has_out taps end = unwrap_or (slice_get taps.outs (end_number end)) false

-- what copies come from: a passage by its index, and the end by which it came; none where the device sent by itself
pub record From : Type 0 where
  pub passage : Passage
  pub index : ℕ
  pub by : Option End

-- ---- one copy

abbrev pub octets_at : Option ℕ → Place → Event → Outcome → Option (List ℕ)
octets_at None place event said = up_octets event said
octets_at (Some port) place event said = copy_octets place event said port

-- the octets that leave by an end, if some do; a QuadBox's C has the number of a RedBox's interlink
abbrev pub octets_by : Place → Event → Outcome → End → Option (List ℕ)
octets_by place event said end = if has_end (role_in place) end then octets_at (port_at end) place event said else None

abbrev pub number_by : Result Seen FrameFault → Option ℕ
number_by (Ok (Tagged f)) = Some f.seq
number_by (Ok (Plain f)) = None
number_by (Err fault) = None

-- the number of the tagged frame that came
abbrev pub number_that_came : Event → Option ℕ
number_that_came (Arrive port c) = number_by (classified c.octets)
number_that_came _ = None

-- a number of the node's own counter
abbrev pub is_numbered : Outcome → End → Bool
is_numbered said end = is_some (number_in said) && has_lane end

abbrev pub is_life : Outcome → Bool
is_life (outcome.Life seq life ports) = true
is_life _ = false

-- what wasn't captured of the cause is at the copy's end; supervision is formed anew
abbrev pub kept_of : Event → Passage → List ℕ → ℕ
kept_of (Supervise about) p octets = length octets
kept_of _ p octets = length octets - missing p

abbrev pub copy_by : From → Event → Outcome → End → List ℕ → Expected
copy_by from event said out octets = record {
  out = out;
  moment = from.passage.moment;
  by = from.by;
  packet = from.passage.packet;
  cause = from.index;
  octets = octets;
  kept = kept_of event from.passage octets;
  is_numbered = is_numbered said out;
  is_life = is_life said && has_lane out;
  number = number_that_came event;
}

-- ---- all copies

-- the copy of these octets, if some leave
abbrev pub copy_if : From → Event → Outcome → End → Option (List ℕ) → List Expected
copy_if from event said end None = []
copy_if from event said end (Some octets) = copy_by from event said end octets ∷ []

-- the copy that leaves by an end, if that is tapped and one does
abbrev pub copy_at : Taps → Place → From → Event → Outcome → End → List Expected
copy_at taps place from event said end = if has_out taps end then copy_if from event said end (octets_by place event said end) else []

-- the copies that leave by those of some ends that are tapped
abbrev pub copies_by : Taps → Place → From → Event → Outcome → List End → List Expected
copies_by taps place from event said [] = []
copies_by taps place from event said (end ∷ ends) = copy_at taps place from event said end ++ copies_by taps place from event said ends

-- the ends by which what came leaves, and those by which a node's own frames do
abbrev pub ends_after : Event → List End
ends_after (Arrive port c) = at.Up ∷ at.I ∷ at.A ∷ at.B ∷ at.C ∷ at.D ∷ []
ends_after _ = at.A ∷ at.B ∷ at.I ∷ []

abbrev pub copies_of : Taps → Place → From → Event → Outcome → List Expected
copies_of taps place from event said = copies_by taps place from event said (ends_after event)

-- ---- what is said

abbrev pub done_of : Outcome → Option Said
done_of (outcome.Judged up ports seq cause) = Some (said.Judged cause)
done_of (outcome.Sent seq ports) = Some said.Sent
done_of (outcome.Life seq life ports) = None
done_of outcome.Aged = None

abbrev pub refused_of : StepFault → Option Said
refused_of (refused.Send fault) = Some (said.Refused fault)
refused_of _ = None

abbrev pub said_of : Result Outcome StepFault → Option Said
said_of (Ok done) = done_of done
said_of (Err fault) = refused_of fault
