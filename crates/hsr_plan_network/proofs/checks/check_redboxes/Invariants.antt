use Rattle.std.proofs.Common.{◌≡◌, drop}
use Rattle.hsr_plan_network.specs.Checks.{each_passes, redbox_passes}
use Rattle.hsr_plan_network.proofs.checks.check_redboxes.Given as goal

abbrev pub invariant-loop-redbox : goal.invariant-loop-redbox
invariant-loop-redbox l = each_passes (redbox_passes l.rings) (drop l.redbox-index l.redboxes) ≡ each_passes (redbox_passes l.rings) l.redboxes
