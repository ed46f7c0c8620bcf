use Rattle.std.proofs.Common.{◌≡◌, map}
use Rattle.hsr_world_links.specs.Touching.{touching_in}
use Rattle.hsr_world_links.specs.Views.{span_view}
use Rattle.hsr_world_links.proofs.touching.new_touching.Given as goal

abbrev pub invariant-loop-node : goal.invariant-loop-node
invariant-loop-node l = map (λ links. links.items) l.all.items ≡ touching_in l.node (map span_view l.spans)
