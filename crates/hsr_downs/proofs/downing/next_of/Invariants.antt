use Rattle.std.proofs.Common.{◌≡◌, drop}
use Rattle.hsr_downs.specs.Downs.{next_of}
use Rattle.hsr_downs.proofs.downing.next_of.Given as goal

abbrev pub invariant-loop-i : goal.invariant-loop-i
invariant-loop-i l = next_of l.link (drop l.i l.changes) ≡ next_of l.link l.changes
