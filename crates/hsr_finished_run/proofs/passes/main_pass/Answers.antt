use Rattle.std.proofs.Common.{◌∙◌}
use Rattle.hsr_finished_run.proofs.MainPass.{up_to_more}
use Rattle.hsr_finished_run.proofs.passes.main_pass.Goals as goal

pub loop-i-preserved : goal.loop-i-preserved
loop-i-preserved g c = (
  c.in_ok-keep_next.ensures.worker ∙ c.loop-i.invariant.0,
  up_to_more c.args.kept.now c.args.plan.now c.loop-i.i c.index-plan-i.result c.loop-i.next.items c.keep_next.new.next.items c.loop-i.pass.receipts c.keep_next.new.pass.receipts
      c.loop-i-test.true c.index-plan-i.is (c.in_ok-keep_next.ensures.kept c.if-not-branch.false) c.loop-i.invariant.1,
)
