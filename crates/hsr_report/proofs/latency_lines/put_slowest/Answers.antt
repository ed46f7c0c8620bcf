use Rattle.std.proofs.Common.{codes}
use Rattle.std.specs.Fmt.{decimal}
use Rattle.hsr_naming.specs.Naming.{node_text}
use Rattle.hsr_report.specs.LatencyLines.{slowest_text}
use Rattle.hsr_report.proofs.Appending.{two_counts}
use Rattle.hsr_report.proofs.latency_lines.put_slowest.Goals as goal

pub returns : goal.returns
unfolding slowest_text
returns c =
    two_counts c.put_next.result c.args.text.now.items c.put_count.new.text.items c.put_next.new.text.items (codes "latency worst ") (decimal c.args.time)
    (codes " ") (node_text c.args.naming.now c.args.node) c.in_ok-put_count.ensures c.put_next.ensures
