use Rattle.std.proofs.Common.{◌≡◌, ◌++◌, drop}
use Rattle.hsr_timeline.specs.Hops.{hops_from}
use Rattle.hsr_timeline.proofs.hopping.list_link.Given as goal

abbrev pub invariant-loop-j : goal.invariant-loop-j
invariant-loop-j g l =
    l.hops.items ++ hops_from l.closed.run l.fn.link l.j (drop l.j l.rows) ≡ l.initial.hops.items ++ hops_from l.closed.run l.fn.link 0 l.rows
