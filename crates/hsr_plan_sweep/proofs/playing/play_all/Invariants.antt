use Rattle.std.proofs.Common.{◌≡◌, false, length}
use Rattle.hsr_plan_sweep.specs.Variants.{plan_in}
use Rattle.hsr_plan_sweep.proofs.Plays.{IsSoFar}
use Rattle.hsr_plan_sweep.proofs.playing.play_all.Given as goal

abbrev pub invariant-loop-some : goal.invariant-loop-some
invariant-loop-some g l = IsSoFar (plan_in l.swept.without_events l.swept.text) l.swept.ground l.cases l.rest l.plays.items
    × (l.is_shown ≡ false → g.E.Write.contents l.errors ≡ g.E.Write.contents l.initial.errors)

abbrev pub decreases-loop-some : goal.decreases-loop-some
decreases-loop-some g l = length l.rest
