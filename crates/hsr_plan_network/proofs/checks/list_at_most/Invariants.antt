use Rattle.std.proofs.Common.{◌≡◌, drop}
use Rattle.hsr_plan_network.specs.Checks.{list_at_most}
use Rattle.hsr_plan_network.proofs.checks.list_at_most.Given as goal

abbrev pub invariant-loop-ring : goal.invariant-loop-ring
invariant-loop-ring l = list_at_most l.left (drop l.ring-index l.rings) ≡ list_at_most l.most l.rings
