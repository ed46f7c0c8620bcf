use Rattle.std.proofs.Common.{◌≡◌, ◌≤◌, map}
use Rattle.hsr_timeline.specs.Fronts.{lists_of}
use Rattle.hsr_run_names.specs.Naming.{nodes_told, told_by}
use Rattle.hsr_run_names.proofs.naming.entries.Given as goal

abbrev pub invariant-loop-node : goal.invariant-loop-node
invariant-loop-node g l =
    (map (λ entries. map told_by entries.items) l.all.items ≡ nodes_told l.closed.run (map (λ list. lists_of list.items) l.streams) l.node)
    × (l.node ≤ l.node-end)
