use Rattle.std.proofs.Common.{◌≡◌, ◌++◌, ◌≤◌}
use Rattle.hsr_report.specs.Report.{unlinked_ports}
use Rattle.hsr_report.proofs.network.put_unlinked_ports.Given as goal

abbrev pub invariant-loop-port : goal.invariant-loop-port
invariant-loop-port g l = (l.text.items ≡ l.fn.text.items ++ unlinked_ports l.naming l.closed.run l.fn.node l.port) × (l.port ≤ l.port-end)
