use Rattle.std.proofs.Common.{◌≡◌, length}
use Rattle.hsr_health.specs.Counted.{AreSkewed}
use Rattle.hsr_health.proofs.counts.with_skews.Given as goal

-- those so far have skews
abbrev pub invariant-loop-k : goal.invariant-loop-k
invariant-loop-k l = record {
  long : length l.all.items ≡ l.k;
  all : AreSkewed l.counts l.skews l.all.items;
}
