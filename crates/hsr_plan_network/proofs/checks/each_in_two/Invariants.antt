use Rattle.std.proofs.Common.{◌≡◌, drop}
use Rattle.hsr_plan_network.specs.Checks.{each_passes, in_two}
use Rattle.hsr_plan_network.proofs.checks.each_in_two.Given as goal

abbrev pub invariant-loop-name : goal.invariant-loop-name
invariant-loop-name l = each_passes (in_two l.rings) (drop l.name-index l.names) ≡ each_passes (in_two l.rings) l.names
