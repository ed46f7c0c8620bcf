use Rattle.std.proofs.Common.{◌≡◌, drop}
use Rattle.hsr_downs.specs.Switches.{has_up, has_up_from}
use Rattle.hsr_downs.proofs.switching.has_up.Given as goal

abbrev pub invariant-loop-number : goal.invariant-loop-number
invariant-loop-number l = has_up_from l.node l.changes l.number (drop l.number l.links) ≡ has_up l.node l.changes l.links
