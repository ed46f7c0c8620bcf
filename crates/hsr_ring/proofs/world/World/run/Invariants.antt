use Rattle.std.proofs.Common.{drop}
use Rattle.hsr_ring.proofs.Stopped.{RunsOn}
use Rattle.hsr_ring.proofs.world.World.run.Given as goal

abbrev pub invariant-loop-place : goal.invariant-loop-place
invariant-loop-place g l = RunsOn g.row.C l.place (drop l.place l.steps) l.steps l.self l.fn.self
