use Rattle.std.proofs.Common.{◌≡◌, drop}
use Rattle.hsr_plan_network.specs.Checks.{each_passes, is_new}
use Rattle.hsr_plan_network.proofs.checks.each_new.Given as goal

abbrev pub invariant-loop-name : goal.invariant-loop-name
invariant-loop-name l = each_passes (is_new l.rings) (drop l.name-index l.names) ≡ each_passes (is_new l.rings) l.names
