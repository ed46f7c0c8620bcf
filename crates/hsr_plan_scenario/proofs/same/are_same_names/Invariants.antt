use Rattle.std.proofs.Common.{◌≡◌, ◌++◌, map, take}
use Rattle.hsr_plan_scenario.proofs.same.are_same_names.Given as goal

abbrev pub invariant-loop-name : goal.invariant-loop-name
invariant-loop-name l = map (λ name. name.items) (take l.name-index l.names) ++ map (λ node. node.name) l.left ≡ map (λ node. node.name) l.nodes
