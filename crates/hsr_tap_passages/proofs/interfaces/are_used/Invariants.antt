use Rattle.std.proofs.Common.{◌≡◌, drop}
use Rattle.hsr_tap_passages.specs.Interfaces.{are_used}
use Rattle.hsr_tap_passages.proofs.interfaces.are_used.Given as goal

-- what is left answers for all
abbrev pub invariant-loop-i : goal.invariant-loop-i
invariant-loop-i l = are_used l.indexes l.i (drop l.i l.named) ≡ are_used l.indexes 0 l.named
