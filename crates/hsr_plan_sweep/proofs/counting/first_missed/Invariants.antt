use Rattle.std.proofs.Common.{◌≡◌, drop}
use Rattle.hsr_plan_sweep.specs.Counting.{first_missed}
use Rattle.hsr_plan_sweep.proofs.counting.first_missed.Given as goal

abbrev pub invariant-loop-index : goal.invariant-loop-index
invariant-loop-index l = first_missed l.audience l.streams l.index (drop l.index l.sends) ≡ first_missed l.audience l.streams 0 l.sends
