use Rattle.std.proofs.Common.{drop}
use Rattle.hsr_ring.proofs.Orders.{PlaysOn}
use Rattle.hsr_ring.proofs.playing.play.Given as goal

abbrev pub invariant-loop-place : goal.invariant-loop-place
invariant-loop-place g l = PlaysOn g.row.C l.place (drop l.place l.orders) l.orders l.world l.fn.world
