use Rattle.std.proofs.Common.{codes}
use Rattle.std.specs.Fmt.{decimal}
use Rattle.hsr_report.specs.DeliveryLines.{tally_text}
use Rattle.hsr_report.proofs.Appending.{two_counts}
use Rattle.hsr_report.proofs.delivery_lines.put_tally.Goals as goal

pub returns : goal.returns
unfolding tally_text
returns c =
    two_counts c.put_count-2.result c.args.text.now.items c.put_count.new.text.items c.put_count-2.new.text.items (codes "deliveries ") (decimal c.args.sends)
    (codes " complete ") (decimal c.args.complete) c.in_ok-put_count.ensures c.put_count-2.ensures
