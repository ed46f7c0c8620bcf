use Rattle.std.proofs.Common.{◌≡◌}
use Rattle.hsr_diagram.specs.Free.{AreTaken, end_of}
use Rattle.hsr_diagram.specs.Panels.{IsChain}
use Rattle.hsr_diagram.proofs.paneling.row.Given as goal

abbrev pub invariant-loop : goal.invariant-loop
invariant-loop l =
    IsChain l.topology.links l.fn.first.left.node l.lanes.items × (end_of l.fn.first.left.node l.lanes.items ≡ l.last.right.node) × AreTaken l.fn.free.items l.lanes.items l.free.items
