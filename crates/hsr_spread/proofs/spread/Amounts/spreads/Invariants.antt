use Rattle.std.proofs.Common.{◌≡◌, List, length}
use Rattle.hsr_spread.specs.Spreads.{AreSpreads, AreTold}
use Rattle.hsr_spread.specs.declared.spread.Told.{Told}
use Rattle.hsr_spread.proofs.spread.Amounts.spreads.Given as goal

-- of each so far
abbrev pub invariant-loop-k : goal.invariant-loop-k
invariant-loop-k l = record {
  long : length l.spreads.items ≡ l.k;
  spreads : (told : List Told) → AreTold told l.self → AreSpreads told l.spreads.items;
}
