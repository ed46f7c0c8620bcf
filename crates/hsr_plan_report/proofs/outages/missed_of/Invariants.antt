use Rattle.std.proofs.Common.{◌≡◌}
use Rattle.hsr_plan_report.specs.Outages.{missed_of}
use Rattle.hsr_plan_report.proofs.outages.missed_of.Given as goal

abbrev pub invariant-loop-node : goal.invariant-loop-node
invariant-loop-node l = l.missed.items ≡ missed_of l.node l.cuts
