use Rattle.std.proofs.Common.{◌≡◌, drop}
use Rattle.hsr_plan_network.specs.Checks.{each_passes}
use Rattle.hsr_plan_schedule.specs.Senders.{receives}
use Rattle.hsr_plan_schedule.proofs.senders.check_receivers.Given as goal

abbrev pub invariant-loop-name : goal.invariant-loop-name
invariant-loop-name l = each_passes (receives l.nodes l.senders l.dst) (drop l.name-index l.names) ≡ each_passes (receives l.nodes l.senders l.dst) l.names
