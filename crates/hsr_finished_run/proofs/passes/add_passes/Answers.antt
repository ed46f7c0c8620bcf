use Rattle.std.proofs.Common.{◌∙◌, ◌<◌, ◌+◌, arith, rules}
use Rattle.hsr_finished_run.proofs.Receiving.{empty_more}
use Rattle.hsr_finished_run.proofs.passes.add_passes.Goals as goal

pub loop-number-preserved : goal.loop-number-preserved
loop-number-preserved c =
    let longer = empty_more c.loop-number.passes.items c.add_pass.new.passes.items c.new.result c.loop-number.number c.loop-number.invariant.count c.loop-number.invariant.workers c.new.ensures c.in_ok-add_pass.ensures in
    let below : c.loop-number.number < c.args.worker + 1 = search rules in
    record { count = longer.count; start = omega (arith, c.loop-number.invariant.start); end = omega (arith, below); workers = longer.workers; receipts = λ w. longer.receipts w ∙ c.loop-number.invariant.receipts w }
