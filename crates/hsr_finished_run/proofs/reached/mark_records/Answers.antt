use Rattle.std.proofs.Common.{ap, arith}
use Rattle.hsr_node.specs.Kept.{Record}
use Rattle.hsr_finished_run.specs.Workers.{most_in}
use Rattle.hsr_finished_run.proofs.Idle.{below_kept}
use Rattle.hsr_finished_run.proofs.reached.mark_records.Goals as goal

pub mark_record-requires : goal.mark_record-requires
mark_record-requires g c =
    let low = below_kept c.args.kept.now c.loop-node.node c.index-kept-node.result c.loop-node-test.true in
    let is = ap (λ (r : Record). most_in r.entries) c.index-kept-node.is in
    let here = ap most_in c.entries.ensures.entries in
    let most = c.requires in
    let count = c.loop-node.invariant.count in
    omega (arith, low, is, here, most, count)
