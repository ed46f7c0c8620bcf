use Rattle.std.proofs.Common.{◌≡◌, length}
use Rattle.hsr_health.specs.Whole.{AreAlike, HaveLives}
use Rattle.hsr_health.proofs.known.all_with_lives.Given as goal

-- those so far
abbrev pub invariant-loop-k : goal.invariant-loop-k
invariant-loop-k l = record {
  long : length l.all.items ≡ l.k;
  alike : AreAlike l.counts l.all.items;
  lives : HaveLives l.lives l.all.items;
}
