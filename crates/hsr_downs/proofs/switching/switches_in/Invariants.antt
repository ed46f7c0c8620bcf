use Rattle.std.proofs.Common.{◌≡◌}
use Rattle.hsr_downs.specs.Switches.{switches_below}
use Rattle.hsr_downs.proofs.switching.switches_in.Given as goal

abbrev pub invariant-loop-i : goal.invariant-loop-i
invariant-loop-i l = l.list.items ≡ switches_below l.links l.changes l.i
