use Rattle.std.proofs.Common.{◌≡◌, ◌-◌, ◌∙◌, Some, ap, arith, refl, sym}
use Rattle.std.specs.Prelude.{nat_le, slice_get, slice_index}
use Rattle.std.proofs.lemmas.Option.{get_or_from_slice_get, same_Some, slice_get_read, slice_get_within}
use Rattle.hsr_frame_groups.specs.Frames.{CaughtFields, past_of}
use Rattle.hsr_sightings.specs.Copies.{is_late}
use Rattle.hsr_sightings.specs.Ring.{forget_time}
use Rattle.hsr_sightings.proofs.Counting.{long_more, told_more}
use Rattle.hsr_sightings.proofs.Demanding.{late_by}
use Rattle.hsr_sightings.proofs.late.lates_of.Goals as goal

pub loop-i-preserved : goal.loop-i-preserved
loop-i-preserved c =
    let copies = c.args.copies.now in
    let all = c.args.sightings.now in
    let of_copy = c.args.of_copy.now in
    let i = c.loop-i.i in
    let own = slice_get_read copies _ i c.index-copies-i.result refl (omega arith) c.index-copies-i.is in
    record {
      long = long_more c.loop-i.told.items _ i _ c.loop-i.invariant.long c.in_ok-push.ensures.items;
      each = λ ring are. told_more (λ k x. is_late ring (past_of copies k) x) copies c.loop-i.told.items _ i _ c.loop-i.invariant.long c.in_ok-push.ensures.items
          (λ d here.
          let of_d = are.own i d here in
          let number : slice_index of_copy i ≡ of_d.0 = get_or_from_slice_get of_copy i of_d.0 0 of_d.1 in
          let at_k : slice_get all (slice_index of_copy i) ≡ Some of_d.2.seen = ap (slice_get all) number ∙ of_d.2.numbered in
          c.late_at.ensures of_d.2.seen at_k ∙ ap (λ (x : CaughtFields). nat_le forget_time (x.at - of_d.2.seen.at)) (same_Some _ d (sym own ∙ here))
          ∙ sym (late_by ring copies all of_copy i of_d.0 d of_d.2.seen are here of_d.1 of_d.2.numbered)) (c.loop-i.invariant.each ring are);
    }

pub returns : goal.returns
returns c = λ ring are. record {
  each = λ i x here. c.loop-i.invariant.each ring are i x (let below = slice_get_within c.args.copies.now i x here in omega (arith, below)) here;
  long = omega (arith, c.loop-i.invariant.long);
}
