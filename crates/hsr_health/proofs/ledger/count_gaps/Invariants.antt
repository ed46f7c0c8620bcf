use Rattle.std.proofs.Common.{◌≡◌, length, drop}
use Rattle.hsr_health.specs.Numbering.{with_gaps}
use Rattle.hsr_health.proofs.ledger.count_gaps.Given as goal

-- with those that are left it is the whole
abbrev pub invariant-loop-gap : goal.invariant-loop-gap
invariant-loop-gap l = record {
  long : length l.numbers.items ≡ length l.fn.numbers.items;
  numbers : with_gaps (drop l.gap-index l.gaps) l.numbers.items ≡ with_gaps l.gaps l.fn.numbers.items;
}
