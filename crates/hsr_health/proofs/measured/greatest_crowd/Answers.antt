use Rattle.std.proofs.Common.{arith}
use Rattle.std.proofs.lemmas.Option.{slice_get_within}
use Rattle.hsr_health.proofs.Measuring.{crowd_more, greatest_most, greatest_there}
use Rattle.hsr_health.proofs.measured.greatest_crowd.Goals as goal

pub loop-crowd-preserved : goal.loop-crowd-preserved
loop-crowd-preserved c =
    let crowds = c.args.crowds.now in
    let i = c.loop-crowd.crowd-index in
    let before = c.loop-crowd.invariant in
    record {
      frames = crowd_more crowds i _ _ _ (omega arith) before.frames c.greater-most.ensures.frames;
      there = greatest_there crowds i _ _ _ (omega arith) c.greater-most.ensures.greater before.there;
      most = greatest_most crowds i _ _ _ (omega arith) c.greater-most.ensures.greater before.most;
    }

pub returns-clause-greatest : goal.returns-clause-greatest
returns-clause-greatest c = record {
  there = c.loop-crowd.invariant.there;
  most = λ k crowd at_k. c.loop-crowd.invariant.most k crowd (let below = slice_get_within c.args.crowds.now k crowd at_k in omega (arith, below)) at_k;
}
