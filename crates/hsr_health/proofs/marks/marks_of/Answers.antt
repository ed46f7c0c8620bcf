use Rattle.std.proofs.Common.{◌∙◌, ap, arith, false, get_or, refl, sym}
use Rattle.std.proofs.lemmas.Option.{get_or_from_slice_get, same_Some, slice_get_read, slice_get_within}
use Rattle.hsr_frame_groups.specs.Frames.{past_of}
use Rattle.hsr_health.specs.Counted.{mark_but_late, mark_by}
use Rattle.hsr_sightings.specs.Copies.{is_clash}
use Rattle.hsr_sightings.specs.Frames.{begins}
use Rattle.hsr_sightings.proofs.Counting.{long_more, told_more}
use Rattle.hsr_taps.specs.Tallies.{is_at}
use Rattle.hsr_health.proofs.marks.marks_of.Goals as goal

pub loop-i-preserved : goal.loop-i-preserved
loop-i-preserved c =
    let copies = c.args.copies.now in
    let ring = c.args.ring.now in
    let by_lane = is_at c.args.is_by_lane.now in
    let i = c.loop-i.i in
    let own = slice_get_read copies _ i c.index-copies-i.result refl (omega arith) c.index-copies-i.is in
    record {
      long = long_more c.loop-i.marks.items _ i _ c.loop-i.invariant.long c.in_ok-push.ensures.items;
      each = told_more (λ k x. mark_but_late by_lane ring (past_of copies k) x) copies c.loop-i.marks.items _ i _ c.loop-i.invariant.long c.in_ok-push.ensures.items
          (λ d here.
          let past = past_of copies i in
          let began = get_or c.args.began.now i false in
          let clashes = get_or c.args.clashes.now i false in
          c.mark_by.ensures ∙ ap (mark_by by_lane ring began clashes false) (same_Some _ d (sym own ∙ here))
          ∙ ap (λ b. mark_by by_lane ring b clashes false d) (get_or_from_slice_get c.args.began.now i (begins past d) false (c.requires.began.each i d here))
          ∙ ap (λ b. mark_by by_lane ring (begins past d) b false d) (get_or_from_slice_get c.args.clashes.now i (is_clash past d) false (c.requires.clashes.each i d here))) c.loop-i.invariant.each;
    }

pub returns : goal.returns
returns c = record {
  each = λ i x here. c.loop-i.invariant.each i x (let below = slice_get_within c.args.copies.now i x here in omega (arith, below)) here;
  long = omega (arith, c.loop-i.invariant.long);
}
