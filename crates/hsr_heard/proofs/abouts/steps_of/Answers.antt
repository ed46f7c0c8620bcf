use Rattle.std.proofs.Common.{◌-◌, arith}
use Rattle.std.proofs.lemmas.Option.{slice_get-get_or}
use Rattle.hsr_heard.proofs.Subjects.{step_more}
use Rattle.hsr_heard.proofs.abouts.steps_of.Goals as goal

pub loop-k-preserved : goal.loop-k-preserved
loop-k-preserved c =
    let frames = c.args.frames.now in
    let k = c.loop-k.k in
    record {
      one = omega arith;
      all = step_more frames k _ _ c.loop-k.steps.items _ _ _ (slice_get-get_or frames (k - 1) c.index-frames-k.result (omega (arith, c.loop-k-test.true)))
          (slice_get-get_or frames k c.index-frames-k-in-loop-k.result (omega (arith, c.loop-k-test.true))) c.step.ensures c.in_ok-push.ensures.items c.loop-k.invariant.all;
    }
