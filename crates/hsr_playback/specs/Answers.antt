-- What the reference answers: the node of the bench, with the numbers that the device gave.
--     Machine    the node, the frames of stations that it numbered, and the numbers that the device gives next
--     stepped    one event: what the node answers to it, with the device's numbers
use Rattle.std.specs.Prelude.{ℕ, ◌+◌, ◌%◌, ◌==◌, Bool, List, [], ◌∷◌, Option, Some, None, option_map, unwrap_or, Result, Ok, Err, if◌then◌else◌}
use Rattle.hsr_frame.specs.Grammar.{Fields}
use Rattle.hsr_frame.specs.declared.fault.FrameFault.{FrameFault}
use Rattle.hsr_tag.specs.Seen.{classified}
use Rattle.hsr_tag.specs.declared.seen.Seen.{Seen}
use Rattle.hsr_tag.specs.declared.seen.Seen.TheVariants.{Plain, Tagged}
use Rattle.hsr_node.specs.Record.{number_in}
use Rattle.hsr_node.specs.Step.{node_step}
use Rattle.hsr_node.specs.declared.event.Event.{Event}
use Rattle.hsr_node.specs.declared.event.Event.TheVariants.{Send, Supervise, Arrive, Age}
use Rattle.hsr_node.specs.declared.event.Outcome.{Outcome}
use Rattle.hsr_node.specs.declared.event.Outcome.TheVariants as outcome
use Rattle.hsr_node.specs.declared.event.StepFault.{StepFault}
use Rattle.hsr_node.specs.declared.node.Node.{Node}
use Rattle.hsr_node.specs.declared.place.Place.{Place}
use Rattle.hsr_playback.specs.Asked.{arrival}
use Rattle.hsr_playback.specs.Known.{octets_known}
use Rattle.hsr_playback.specs.Taken.{next_of}
use Rattle.hsr_playback.specs.declared.known.Given.{Given}
use Rattle.hsr_playback.specs.declared.taken.Taken.{Taken}

pub record Machine (capacity : ℕ) : Type 0 where
  pub node : Node capacity
  pub place : Place
  -- frames of stations that it numbered, the latest first
  pub given : List Given
  -- the numbers that the device gives next
  pub next : ℕ
  pub next_life : ℕ

-- ---- numbers of an outcome

-- the number that the device gave, if the reference gave one
abbrev pub numbered : Option ℕ → ℕ → Option ℕ
numbered seq number = option_map (λ _. number) seq

-- an outcome with the numbers that the device gave
abbrev pub renumbered : Outcome → ℕ → ℕ → Outcome
renumbered (outcome.Sent seq ports) number life = outcome.Sent (numbered seq number) ports
renumbered (outcome.Life seq earlier ports) number life = outcome.Life number life ports
renumbered (outcome.Judged up ports seq cause) number life = outcome.Judged up ports (numbered seq number) cause
renumbered outcome.Aged number life = outcome.Aged

-- the number after one that was given, if one was
abbrev pub after_number : ℕ → Option ℕ → ℕ → ℕ
after_number next None number = next
after_number next (Some reference) number = next_of number

abbrev pub after_life : ℕ → Outcome → ℕ → ℕ
after_life next (outcome.Life seq earlier ports) life = next_of life
after_life next _ life = next

-- ---- frames of stations

abbrev pub source_of : Result Seen FrameFault → Option (List ℕ)
source_of (Ok (Plain f)) = Some f.src
source_of (Ok (Tagged f)) = None
source_of (Err fault) = None

abbrev pub noted_from : List Given → ℕ → Option (List ℕ) → ℕ → ℕ → List Given
noted_from given at None reference device = given
noted_from given at (Some source) reference device = record { at = at; source = source; device = device; reference = reference } ∷ given

-- a frame that came and was numbered
abbrev pub noted : List Given → ℕ → Event → ℕ → ℕ → List Given
noted given at (Arrive port c) reference device = noted_from given at (source_of (classified c.octets)) reference device
noted given at _ reference device = given

abbrev pub noted_if : List Given → ℕ → Event → Option ℕ → ℕ → List Given
noted_if given at event None device = given
noted_if given at event (Some reference) device = noted given at event reference device

-- an arrival from the ring as the reference knows it, where that is by another number
abbrev pub event_known : List Given → ℕ → Event → Option Event
event_known given at (Arrive port c) = if port == 2 then None else option_map (arrival port) (octets_known given at (classified c.octets))
event_known given at _ = None

-- ---- a step

-- with the node as an event left it
abbrev pub applied : (capacity : ℕ) → Machine capacity → Result Outcome StepFault × Node capacity → Result Outcome StepFault × Machine capacity
applied capacity m after = (after.0, record m { node = after.1 })

-- these numbers are the device's latest
abbrev pub counted : {capacity : ℕ} → Machine capacity → ℕ → Event → Outcome → ℕ → ℕ → Machine capacity
counted m at event said number life = record m {
  given = noted_if m.given at event (number_in said) number;
  next = after_number m.next (number_in said) number;
  next_life = after_life m.next_life said life;
}

abbrev pub answered : {capacity : ℕ} → Machine capacity → ℕ → Event → ℕ → ℕ → Result Outcome StepFault → Result Outcome StepFault × Machine capacity
answered m at event number life (Err fault) = (Err fault, m)
answered m at event number life (Ok said) = (Ok (renumbered said number life), counted m at event said number life)

-- what the node answers to an event, with the device's numbers: those that were taken over, else the next ones
unfoldable pub stepped : (capacity : ℕ) → Machine capacity → ℕ → Event → Taken → Result Outcome StepFault × Machine capacity
stepped capacity m at event taken =
    let after = applied capacity m (node_step capacity m.node at (unwrap_or (event_known m.given at event) event)) in
    answered after.1 at event (unwrap_or taken.number m.next) (unwrap_or taken.life m.next_life) after.0
