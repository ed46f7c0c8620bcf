use Rattle.std.proofs.Common.{◌≡◌, ◌++◌, drop}
use Rattle.hsr_load.specs.Carried.{transits_from}
use Rattle.hsr_load.proofs.carrying.transits_by.Given as goal

abbrev pub invariant-loop-j : goal.invariant-loop-j
invariant-loop-j g l =
    l.list.items ++ transits_from l.closed.run l.fn.link l.fn.dir l.j (drop l.j l.rows) ≡ transits_from l.closed.run l.fn.link l.fn.dir 0 l.rows
