-- Why a world refuses a step.
use Rattle.hsr_node.specs.declared.event.StepFault.{StepFault}
use Rattle.hsr_node.specs.declared.event.StepFault.TheVariants as node
use Rattle.hsr_world_steps.specs.declared.step.WorldFault.{WorldFault}
use Rattle.hsr_world_steps.specs.declared.step.WorldFault.TheVariants as world

-- a node refuses the event of the step; an allocation that fails in it is told as one that fails in the world
abbrev pub world_fault : StepFault → WorldFault
world_fault node.NoMemory = world.NoMemory
world_fault fault = world.Node fault
