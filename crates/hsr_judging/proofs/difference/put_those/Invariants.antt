use Rattle.std.proofs.Common.{◌≡◌, ◌++◌, drop}
use Rattle.hsr_judging.specs.Differences.{those}
use Rattle.hsr_judging.proofs.difference.put_those.Given as goal

-- what was put and what is left are all that is put
abbrev pub invariant-loop-k : goal.invariant-loop-k
invariant-loop-k l = l.found.items ++ those (drop l.k l.all) ≡ l.fn.found.items ++ those l.all
