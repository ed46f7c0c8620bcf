use Rattle.std.proofs.Common.{◌≡◌, drop}
use Rattle.hsr_plan_sweep.specs.Audience.{first_in_need}
use Rattle.hsr_plan_sweep.proofs.audience.Audience.first_in_need.Given as goal

abbrev pub invariant-loop-node : goal.invariant-loop-node
invariant-loop-node l = first_in_need l.self l.stream l.at (drop l.node-index l.nodes) ≡ first_in_need l.self l.stream l.at l.nodes
