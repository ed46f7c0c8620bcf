use Rattle.hsr_plan_scenario.proofs.Rising.{moments_rise}
use Rattle.hsr_plan_scenario.proofs.sends.send_moments.Goals as goal

pub returns-in-Ok-clause-rise : goal.returns-in-Ok-clause-rise
returns-in-Ok-clause-rise c = moments_rise c.args.orders.now c.in-Ok.moments.items c.in-Ok.ensures
