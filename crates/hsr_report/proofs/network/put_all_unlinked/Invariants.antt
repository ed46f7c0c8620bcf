use Rattle.std.proofs.Common.{◌≡◌, ◌++◌, ◌≤◌}
use Rattle.hsr_report.specs.Report.{unlinked_lines}
use Rattle.hsr_report.proofs.network.put_all_unlinked.Given as goal

abbrev pub invariant-loop-node : goal.invariant-loop-node
invariant-loop-node g l = (l.text.items ≡ l.fn.text.items ++ unlinked_lines l.naming l.closed.run l.node) × (l.node ≤ l.node-end)
