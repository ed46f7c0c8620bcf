use Rattle.std.proofs.Common.{◌≡◌, length, reverse, take}
use Rattle.hsr_number_runs.specs.Nearest.{AreTold}
use Rattle.hsr_number_runs.proofs.elsewhere.elsewhere_of.Given as goal

-- what is told of each sender so far
abbrev pub invariant-loop-i : goal.invariant-loop-i
invariant-loop-i l = record {
  long : length l.told.items ≡ l.senders;
  told : AreTold (reverse (take l.i l.in_runs)) l.i l.told.items;
}
