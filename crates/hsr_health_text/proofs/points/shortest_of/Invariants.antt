use Rattle.std.proofs.Common.{◌≡◌, ◌<◌, length}
use Rattle.hsr_health_text.specs.Points.{shortest_of}
use Rattle.hsr_health_text.proofs.points.shortest_of.Given as goal

pub record Shortest (l : goal.Live-loop-k) : Type 0 where
  pub value : l.shortest ≡ shortest_of l.spans l.kept l.k
  pub there : l.shortest < length l.kept

abbrev pub invariant-loop-k : goal.invariant-loop-k
invariant-loop-k l = Shortest l
