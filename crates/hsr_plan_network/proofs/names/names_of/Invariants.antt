use Rattle.std.proofs.Common.{◌≡◌, [], drop}
use Rattle.hsr_plan_network.specs.Names.{met}
use Rattle.hsr_plan_network.proofs.names.names_of.Given as goal

abbrev pub invariant-loop-ring : goal.invariant-loop-ring
invariant-loop-ring l = met l.names.items (drop l.ring-index l.rings) ≡ met [] l.rings
