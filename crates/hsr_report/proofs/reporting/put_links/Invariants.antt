use Rattle.std.proofs.Common.{◌≡◌, ◌++◌, ◌≤◌}
use Rattle.hsr_report.specs.Report.{link_lines}
use Rattle.hsr_report.proofs.reporting.put_links.Given as goal

abbrev pub invariant-loop-link : goal.invariant-loop-link
invariant-loop-link g l = (l.text.items ≡ l.fn.text.items ++ link_lines l.closed.run l.link) × (l.link ≤ l.link-end)
