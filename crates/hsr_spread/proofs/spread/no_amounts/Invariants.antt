use Rattle.std.proofs.Common.{◌≡◌, [], replicate}
use Rattle.hsr_spread.specs.Spreads.{lists_of}
use Rattle.hsr_spread.proofs.spread.no_amounts.Given as goal

abbrev pub invariant-loop-k : goal.invariant-loop-k
invariant-loop-k l = lists_of l.amounts.items ≡ replicate l._k []
