use Rattle.std.proofs.Common.{◌≡◌, drop}
use Rattle.hsr_plan_network.specs.Checks.{each_passes, mode_passes}
use Rattle.hsr_plan_network.proofs.checks.check_modes.Given as goal

abbrev pub invariant-loop-mode : goal.invariant-loop-mode
invariant-loop-mode l = each_passes (mode_passes l.rings) (drop l.mode-index l.modes) ≡ each_passes (mode_passes l.rings) l.modes
