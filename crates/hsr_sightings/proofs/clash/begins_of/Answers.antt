use Rattle.std.proofs.Common.{arith, sym}
use Rattle.std.proofs.lemmas.Option.{slice_get_within}
use Rattle.hsr_frame_groups.specs.Frames.{past_of}
use Rattle.hsr_sightings.specs.Frames.{begins}
use Rattle.hsr_sightings.proofs.Clashing.{begins_by}
use Rattle.hsr_sightings.proofs.Counting.{long_more, told_more}
use Rattle.hsr_sightings.proofs.clash.begins_of.Goals as goal

pub loop-i-preserved : goal.loop-i-preserved
loop-i-preserved c =
    let copies = c.args.copies.now in
    let i = c.loop-i.i in
    record {
      long = long_more c.loop-i.told.items _ i _ c.loop-i.invariant.long c.in_ok-push.ensures.items;
      each = told_more (λ k x. begins (past_of copies k) x) copies c.loop-i.told.items _ i _ c.loop-i.invariant.long c.in_ok-push.ensures.items
          (λ d here. sym (begins_by copies c.args.firsts.now c.requires i d here)) c.loop-i.invariant.each;
    }

pub returns : goal.returns
returns c = record {
  each = λ i x here. c.loop-i.invariant.each i x (let below = slice_get_within c.args.copies.now i x here in omega (arith, below)) here;
  long = omega (arith, c.loop-i.invariant.long);
}
