use Rattle.std.proofs.Common.{◌≡◌, length}
use Rattle.hsr_health.specs.Counted.{AreJoined}
use Rattle.hsr_health.proofs.directions.joined.Given as goal

-- those so far
abbrev pub invariant-loop-d : goal.invariant-loop-d
invariant-loop-d l = record {
  long : length l.new.items ≡ l.d;
  all : AreJoined l.ring l.way_0 l.way_1 l.most l.all l.new.items;
}
