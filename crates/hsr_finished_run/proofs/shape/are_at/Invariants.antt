use Rattle.std.proofs.Common.{◌≡◌, ◌↔◌, drop, map}
use Rattle.hsr_node.specs.Kept.{Record}
use Rattle.hsr_finished_run.proofs.shape.are_at.Given as goal

-- what is left answers for all
abbrev pub invariant-loop-node : goal.invariant-loop-node
invariant-loop-node g l = (map (λ (r : Record). r.place) (drop l.node l.kept) ≡ l.left) ↔ (map (λ (r : Record). r.place) l.kept ≡ l.fn.places)
