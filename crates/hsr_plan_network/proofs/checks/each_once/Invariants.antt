use Rattle.std.proofs.Common.{◌≡◌, drop}
use Rattle.hsr_plan_network.specs.Checks.{each_once}
use Rattle.hsr_plan_network.proofs.checks.each_once.Given as goal

abbrev pub invariant-loop-i : goal.invariant-loop-i
invariant-loop-i l = each_once (drop l.i l.names) ≡ each_once l.names
