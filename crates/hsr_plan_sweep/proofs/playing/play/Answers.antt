use Rattle.hsr_plan_sweep.specs.Variants.{plan_in}
use Rattle.hsr_plan_sweep.proofs.Plays.{told_by_count}
use Rattle.hsr_plan_sweep.proofs.playing.play.Goals as goal

pub returns-in-Ok : goal.returns-in-Ok
returns-in-Ok c =
    told_by_count (plan_in c.args.swept.now.without_events c.args.swept.now.text) c.args.swept.now.ground c.args.case c.in-Ok.plan c.counted.result c.in-Ok.ensures.plan c.counted.ensures.case c.counted.ensures.count
    c.counted.ensures.none
