use Rattle.std.proofs.Common.{◌≡◌, ◌++◌, length}
use Rattle.hsr_downs.specs.Downs.{downs_in}
use Rattle.hsr_downs.proofs.downing.downs_in.Given as goal

abbrev pub invariant-loop-change : goal.invariant-loop-change
invariant-loop-change l = l.list.items ++ downs_in l.rest ≡ downs_in l.changes

abbrev pub decreases-loop-change : goal.decreases-loop-change
decreases-loop-change l = length l.rest
