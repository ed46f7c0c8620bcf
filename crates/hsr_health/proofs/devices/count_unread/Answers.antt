use Rattle.std.proofs.Common.{◌∙◌, ap, arith}
use Rattle.hsr_health.specs.Counted.{changed}
use Rattle.hsr_health.specs.Whole.{one_unreadable}
use Rattle.hsr_health.proofs.Living.{unread_more}
use Rattle.hsr_health.proofs.devices.count_unread.Goals as goal

pub loop-i-preserved : goal.loop-i-preserved
loop-i-preserved c =
    let old = c.loop-i.counts.items in
    unread_more c.args.of_copy.now c.args.unread.now c.loop-i.i _ c.args.counts.now.items old c.count_unreadable.new.counts.items (omega (arith, c.loop-i-test.true)) c.count_unreadable.ensures.long
    (c.count_unreadable.ensures.counts ∙ ap (λ n. changed one_unreadable n old) c.source_of.ensures) c.loop-i.invariant
