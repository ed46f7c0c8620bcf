use Rattle.std.proofs.Common.{◌≡◌, drop}
use Rattle.hsr_plan_network.specs.Checks.{each_passes}
use Rattle.hsr_plan_schedule.specs.Publishing.{fits}
use Rattle.hsr_plan_schedule.proofs.publishing.all_fit.Given as goal

abbrev pub invariant-loop-name : goal.invariant-loop-name
invariant-loop-name l = each_passes (fits l.publication l.stream) (drop l.name-index l.names) ≡ each_passes (fits l.publication l.stream) l.names
