use Rattle.std.proofs.Common.{refl}
use Rattle.hsr_plan_sweep.proofs.Whole.{unswept_so}
use Rattle.hsr_plan_sweep.proofs.sweeping.swept_text.Goals as goal

pub returns-in-Ok-clause-none : goal.returns-in-Ok-clause-none
returns-in-Ok-clause-none g c =
    unswept_so c.swept_plan.result c.args.text.now c.args.text.now c.in-Ok.plan c.args.asked c.in-Ok.ensures.plan refl c.swept_plan.ensures.none
