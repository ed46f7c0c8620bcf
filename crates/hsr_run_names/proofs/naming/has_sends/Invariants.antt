use Rattle.std.proofs.Common.{◌≡◌, ◌≤◌, map}
use Rattle.hsr_timeline.specs.Fronts.{lists_of}
use Rattle.hsr_run_names.specs.Naming.{has_sends}
use Rattle.hsr_run_names.proofs.naming.has_sends.Given as goal

abbrev pub invariant-loop-node : goal.invariant-loop-node
invariant-loop-node g l =
    (l.has_all ≡ has_sends l.closed.run (map (λ list. lists_of list.items) l.streams) l.node) × (l.node ≤ l.node-end)
