use Rattle.std.proofs.Common.{arith, length, map}
use Rattle.std.proofs.lemmas.List.{length-map}
use Rattle.std.proofs.lemmas.Option.{slice_get_within}
use Rattle.hsr_sightings.specs.Crowding.{begun_by}
use Rattle.hsr_sightings.proofs.Crowding.{old_more}
use Rattle.hsr_sightings.proofs.late.recent_from.Goals as goal

pub loop-k-preserved : goal.loop-k-preserved
loop-k-preserved c =
    old_more c.args.copies.now c.args.things.now c.args.from c.loop-k.k c.args.at c.moment_at.result (omega arith) c.moment_at.ensures
    (omega (arith, c.if-saturating_sub-lt-FORGET_TIME.false, c.saturating_sub.ensures)) c.loop-k.invariant

pub returns : goal.returns
returns c =
    let things = c.args.things.now in
    let long = length-map things (begun_by c.args.copies.now) in
    record {
      behind = omega (arith, c.requires);
      within = omega (arith, long);
      old = λ k b le below at_k. c.loop-k.invariant k b le (omega (arith, below, c.loop-k-test.false)) at_k;
      recent = λ b at_end. let below = slice_get_within (map (begun_by c.args.copies.now) things) (length things) b at_end in absurd (omega (arith, below, long));
    }
