use Rattle.hsr_world_laws.proofs.Wires as wires
use Rattle.hsr_world_laws.proofs.law.step_placed.Goals as goal

pub returns : goal.returns
returns c = wires.step_placed
