use Rattle.std.proofs.Common.{◌∙◌, ap, ◌++◌, List}
use Rattle.std.proofs.lemmas.Result.{on_ok_weaker}
use Rattle.hsr_node.specs.declared.entry.Receipt.{Receipt}
use Rattle.hsr_finished_run.specs.Passes.{other_in}
use Rattle.hsr_finished_run.proofs.Receiving.{long_enough, other_set}
use Rattle.hsr_finished_run.proofs.passes.add_other.Goals as goal

pub returns-clause-workers : goal.returns-clause-workers
returns-clause-workers c =
    on_ok_weaker c.add_receipt.result
    (λ is. (other_set c.add_passes.new.passes.items c.from.result c.args.node c.args.place c.args.entry.now c.index_mut.result.now c.add_receipt.new.pass c.in_ok-receipt.receipt
    c.in_ok-add_passes.ensures.workers (long_enough c.add_passes.new.passes.items c.args.passes.now.items c.args.entry.now.worker c.in_ok-add_passes.ensures.count) c.from.ensures c.if-worker-eq0.false c.index_mut.ensures.value c.in_ok-receipt.ensures is).0)
    c.add_receipt.ensures

pub returns-clause-receipts : goal.returns-clause-receipts
returns-clause-receipts c =
    on_ok_weaker c.add_receipt.result
    (λ is w. (other_set c.add_passes.new.passes.items c.from.result c.args.node c.args.place c.args.entry.now c.index_mut.result.now c.add_receipt.new.pass c.in_ok-receipt.receipt
    c.in_ok-add_passes.ensures.workers (long_enough c.add_passes.new.passes.items c.args.passes.now.items c.args.entry.now.worker c.in_ok-add_passes.ensures.count) c.from.ensures c.if-worker-eq0.false c.index_mut.ensures.value c.in_ok-receipt.ensures is).1 w
    ∙ ap (λ (rs : List Receipt). rs ++ other_in w c.args.node c.args.place c.args.entry.now) (c.in_ok-add_passes.ensures.receipts w))
    c.add_receipt.ensures
