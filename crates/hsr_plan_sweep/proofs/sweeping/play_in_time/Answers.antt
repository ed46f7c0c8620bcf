use Rattle.hsr_plan_sweep.specs.Variants.{plan_in}
use Rattle.hsr_plan_sweep.proofs.Whole.{played_so, unswept_fault, unswept_meaning}
use Rattle.hsr_plan_sweep.proofs.sweeping.play_in_time.Goals as goal

pub returns-in-Ok-plays_or_line-clause-played : goal.returns-in-Ok-plays_or_line-clause-played
returns-in-Ok-plays_or_line-clause-played g c =
    played_so c.in-Ok-plays_or_line.plays.items (plan_in c.args.asked.without_events c.args.text.now) c.args.plan.now c.args.asked c.in-Ok.meaning c.requires c.in-Ok.ensures.ok c.in-Ok-plays_or_line.ensures.played

pub returns-in-Err-clause-none : goal.returns-in-Err-clause-none
returns-in-Err-clause-none g c = λ told. unswept_fault c.in-Err.fault c.args.plan.now c.args.asked (c.line_of.ensures told) c.in-Err.ensures.err
