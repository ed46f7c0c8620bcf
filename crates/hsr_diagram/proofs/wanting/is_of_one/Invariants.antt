use Rattle.std.proofs.Common.{◌≡◌, drop}
use Rattle.hsr_diagram.specs.Wanted.{is_of_one}
use Rattle.hsr_diagram.proofs.wanting.is_of_one.Given as goal

abbrev pub invariant-loop-i : goal.invariant-loop-i
invariant-loop-i g l = is_of_one l.closed.run (drop l.i l.sends) l.shown ≡ is_of_one l.closed.run l.sends l.shown
