use Rattle.std.proofs.Common.{◌≡◌}
use Rattle.hsr_node.specs.declared.event.Probe.{Probe}
use Rattle.hsr_deliveries.specs.Counted.{losses_in}
use Rattle.hsr_deliveries.specs.Delivered.{lost_below}
use Rattle.hsr_deliveries.proofs.losses.losses_by_send.Given as goal

abbrev pub invariant-loop-link : goal.invariant-loop-link
invariant-loop-link g l = (send : Probe) → losses_in l.kept send ≡ lost_below l.closed.run send l.link
