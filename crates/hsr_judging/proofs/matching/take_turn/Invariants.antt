use Rattle.std.proofs.Common.{◌≡◌, ◌≤◌, ◌++◌, length, drop}
use Rattle.hsr_judging.specs.Matching.{over_front, turned, views}
use Rattle.hsr_judging.proofs.matching.take_turn.Given as goal

-- what the copies so far have, and what is left, are what all have
abbrev pub invariant-loop-k : goal.invariant-loop-k
invariant-loop-k l = record {
  gots : l.next.items ++ (turned l.turn l.expected l.alone.items (drop l.k l.gots) (views (drop l.k l.observed))).0
      ≡ (turned l.turn l.expected l.fn.alone.items l.gots (views l.observed)).0;
  alone : (turned l.turn l.expected l.alone.items (drop l.k l.gots) (views (drop l.k l.observed))).1
      ≡ (turned l.turn l.expected l.fn.alone.items l.gots (views l.observed)).1;
  long : length l.next.items ≡ l.k;
  from : l.from ≤ over_front l.turn.window l.last l.expected;
}
