-- The word for each reason why a step is refused or a drain doesn't end.
use Rattle.std.specs.Prelude.{ℕ, List, codes}
use Rattle.hsr_node.specs.Refusal.{node_word}
use Rattle.hsr_world_steps.specs.declared.step.DrainFault.{DrainFault}
use Rattle.hsr_world_steps.specs.declared.step.DrainFault.TheVariants as drain
use Rattle.hsr_world_steps.specs.declared.step.WorldFault.{WorldFault}
use Rattle.hsr_world_steps.specs.declared.step.WorldFault.TheVariants as world

abbrev pub world_word : WorldFault → List ℕ
world_word world.NoSuchNode = codes "no-such-node"
world_word world.NoSuchLink = codes "no-such-link"
world_word world.NoSuchPort = codes "no-such-port"
world_word world.Busy = codes "busy"
world_word world.Nothing = codes "nothing"
world_word world.TooLong = codes "too-long"
world_word (world.Node fault) = node_word fault
world_word world.NoMemory = codes "memory"

abbrev pub drain_word : DrainFault → List ℕ
drain_word drain.Unsettled = codes "unsettled"
drain_word (drain.World fault) = world_word fault
