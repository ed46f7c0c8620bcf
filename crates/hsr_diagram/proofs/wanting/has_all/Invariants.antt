use Rattle.std.proofs.Common.{◌≡◌, drop}
use Rattle.hsr_diagram.specs.Wanted.{has_all}
use Rattle.hsr_diagram.proofs.wanting.has_all.Given as goal

abbrev pub invariant-loop-i : goal.invariant-loop-i
invariant-loop-i g l = has_all l.closed.run (drop l.i l.sends) ≡ has_all l.closed.run l.sends
