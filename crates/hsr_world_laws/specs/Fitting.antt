-- Sends that octets can spell, since addresses, VLAN tags and types fit.
use Rattle.std.specs.Prelude.{ℕ, List}
use Rattle.std.specs.List.{All, AllByRecursion}
use Rattle.hsr_run_laws.specs.Run.{record_in}
use Rattle.hsr_topology.specs.declared.end.End.{End}
use Rattle.hsr_node.specs.Record.{Each}
use Rattle.hsr_node.specs.declared.entry.Entry.{Entry}
use Rattle.hsr_node.specs.declared.place.Place.{Place}
use Rattle.hsr_world_laws.specs.Closing.{AreFrames}
use Rattle.hsr_world_laws.specs.Fit.{FitsEvent, FitsPlace, FitsStep}
use Rattle.hsr_world_laws.specs.World.{new_world, run}
use Rattle.hsr_world_steps.specs.declared.step.Step.{Step}

-- where nodes and events are such, each send is a frame that octets can spell
abbrev pub FitFrames : Type 0
FitFrames = (places : List Place) (records : List (List Entry)) → All FitsPlace places → ((n : ℕ) → Each (λ x past. FitsEvent x.event) (record_in records n)) → AreFrames places records

-- and so it is where nodes and steps are, after any of them from the first world on
abbrev pub AlwaysFrames : Type 0
AlwaysFrames = (capacity room : ℕ) (places : List Place) (links : List (List End)) (steps : List Step) → All FitsPlace places → AllByRecursion FitsStep steps
    → AreFrames (run capacity steps (new_world room places links)).places (run capacity steps (new_world room places links)).records
