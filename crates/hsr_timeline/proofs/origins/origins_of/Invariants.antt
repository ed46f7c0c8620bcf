use Rattle.std.proofs.Common.{◌≡◌, ◌++◌, drop}
use Rattle.hsr_timeline.specs.Causes.{origins_from}
use Rattle.hsr_timeline.specs.IndexedCauses.{value_of}
use Rattle.hsr_timeline.proofs.origins.origins_of.Given as goal

abbrev pub invariant-loop-i : goal.invariant-loop-i
invariant-loop-i l =
    l.origins.items ++ origins_from (value_of l.fn.planned) (value_of l.fn.passed) l.fn.node l.i (drop l.i l.entries) ≡ origins_from (value_of l.fn.planned) (value_of l.fn.passed) l.fn.node 0 l.entries
