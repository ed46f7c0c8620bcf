use Rattle.std.proofs.Common.{◌≡◌, length}
use Rattle.hsr_downs.specs.Switches.{is_down, is_down_from}
use Rattle.hsr_downs.proofs.switching.is_down.Given as goal

abbrev pub invariant-loop-change : goal.invariant-loop-change
invariant-loop-change l = is_down_from l.link l.is_down l.rest ≡ is_down l.link l.changes

abbrev pub decreases-loop-change : goal.decreases-loop-change
decreases-loop-change l = length l.rest
