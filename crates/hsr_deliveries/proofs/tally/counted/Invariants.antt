use Rattle.std.proofs.Common.{◌≡◌, count_by, take}
use Rattle.hsr_node.specs.declared.event.Probe.{Probe}
use Rattle.hsr_run_laws.specs.Once.{delivers}
use Rattle.hsr_deliveries.specs.Counted.{times_in}
use Rattle.hsr_deliveries.proofs.tally.counted.Given as goal

abbrev pub invariant-loop-i : goal.invariant-loop-i
invariant-loop-i l = (send : Probe) → times_in l.counts send ≡ count_by (delivers send) (take l.i l.entries)
