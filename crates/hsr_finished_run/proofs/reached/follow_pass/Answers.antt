use Rattle.hsr_finished_run.proofs.Reaching.{follow_at}
use Rattle.hsr_finished_run.proofs.reached.follow_pass.Goals as goal

pub returns-clause-follow : goal.returns-clause-follow
returns-clause-follow g c passes rest h =
    follow_at c.args.turns.now passes rest c.args.pass.now c.args.all.now.items c.index_mut.result.now c.follow.new.reached c.worker-worker.result c.from.result c.receipts.result.now
    c.worker-worker.ensures c.from.ensures c.receipts.ensures c.requires c.index_mut.ensures.value (c.in_ok-follow.ensures passes) h
