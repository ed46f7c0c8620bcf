use Rattle.std.proofs.Common.{◌≡◌, ◌++◌, drop, map}
use Rattle.hsr_tap_passages.specs.Interfaces.{tap_at}
use Rattle.hsr_tap_passages.proofs.interfaces.taps_at.Given as goal

-- what the interfaces so far are, and what is left, are what all are
abbrev pub invariant-loop-k : goal.invariant-loop-k
invariant-loop-k l = l.taps.items ++ map (tap_at l.named) (drop l.k l.indexes) ≡ map (tap_at l.named) l.indexes
