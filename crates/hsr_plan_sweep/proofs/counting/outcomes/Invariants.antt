use Rattle.std.proofs.Common.{◌≡◌, ◌++◌, drop}
use Rattle.hsr_plan_sweep.specs.Counting.{outcomes}
use Rattle.hsr_plan_sweep.proofs.counting.outcomes.Given as goal

abbrev pub invariant-loop-index : goal.invariant-loop-index
invariant-loop-index l = l.list.items ++ outcomes l.audience l.streams l.index (drop l.index l.sends) ≡ outcomes l.audience l.streams 0 l.sends
