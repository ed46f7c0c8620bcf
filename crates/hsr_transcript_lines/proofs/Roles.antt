-- What the record of a node tells only of its own ports, and of copies that are of a send.
--     IsEntryOf   an entry of a node at this place
use Rattle.std.specs.Prelude.{ℕ, ◌<◌, ◌≡◌, Bool, true, List, Option, Some}
use Rattle.hsr_node.specs.Record.{has_port}
use Rattle.hsr_node.specs.declared.entry.Entry.{Entry}
use Rattle.hsr_node.specs.declared.event.Event.{Event}
use Rattle.hsr_node.specs.declared.event.Event.TheVariants.{Arrive}
use Rattle.hsr_node.specs.declared.event.Outcome.{Outcome}
use Rattle.hsr_node.specs.declared.event.Outcome.TheVariants.{Sent, Life, Judged, Aged}
use Rattle.hsr_node.specs.declared.event.Probe.{Probe}
use Rattle.hsr_node.specs.declared.place.Place.{Place}
use Rattle.hsr_node.specs.Place.{ports}

-- the place has a port of this number
abbrev pub IsPortOf : Place → ℕ → Type 0
IsPortOf place port = port < ports place

-- nothing leaves by a port that the place hasn't
abbrev pub AreExitsOf : Place → List Bool → Type 0
AreExitsOf place ports = (port : ℕ) → has_port ports port ≡ true → IsPortOf place port

-- a copy names a send
pub record IsNamed (probe : Option Probe) : Type 0 where
  pub send : Probe
  pub named : probe ≡ Some send

abbrev pub IsEventOf : Place → Event → Type 0
IsEventOf place (Arrive port carried) = IsPortOf place port × IsNamed carried.probe
IsEventOf place _ = Unit {0}

abbrev pub IsOutcomeOf : Place → Outcome → Type 0
IsOutcomeOf place (Sent seq ports) = AreExitsOf place ports
IsOutcomeOf place (Life seq life ports) = AreExitsOf place ports
IsOutcomeOf place (Judged up ports seq cause) = AreExitsOf place ports
IsOutcomeOf place Aged = Unit {0}

pub record IsEntryOf (place : Place) (x : Entry) : Type 0 where
  pub event : IsEventOf place x.event
  pub outcome : IsOutcomeOf place x.outcome
