use Rattle.std.proofs.Common.{◌≡◌, ◌++◌, ◌≤◌}
use Rattle.hsr_report.specs.Report.{node_lines}
use Rattle.hsr_report.proofs.reporting.put_nodes.Given as goal

abbrev pub invariant-loop-node : goal.invariant-loop-node
invariant-loop-node g l = (l.text.items ≡ l.fn.text.items ++ node_lines l.naming l.closed.run l.node) × (l.node ≤ l.node-end)
