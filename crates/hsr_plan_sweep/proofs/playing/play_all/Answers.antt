use Rattle.std.proofs.Common.{◌≡◌, ◌∙◌}
use Rattle.hsr_plan_sweep.specs.Variants.{plan_in}
use Rattle.hsr_plan_sweep.proofs.Plays.{more_so_far}
use Rattle.hsr_plan_sweep.proofs.playing.play_all.Goals as goal

pub loop-some-preserved : goal.loop-some-preserved
loop-some-preserved g c = (
  more_so_far (plan_in c.args.swept.now.without_events c.args.swept.now.text) c.args.swept.now.ground c.args.cases.now c.loop-some.rest.now c.in-Some.some.now c.in-Some.others.now c.loop-some.plays.items
      c.play_next.new.plays.items c.loop-some.invariant.0 c.in-Some.ensures.all c.in-Ok.ensures,
  (λ hidden. c.show.ensures hidden ∙ c.loop-some.invariant.1 hidden),
)
