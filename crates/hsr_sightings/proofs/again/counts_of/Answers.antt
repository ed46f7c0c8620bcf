use Rattle.std.proofs.Common.{◌≡◌, ◌∙◌, ◌<◌, ◌≤◌, ◌^◌, Some, ap, arith, refl, subst, sym}
use Rattle.std.specs.Prelude.{slice_get}
use Rattle.std.proofs.lemmas.Option.{slice_get_read, slice_get_within}
use Rattle.hsr_frame_groups.specs.Frames.{frame_time, past_of}
use Rattle.hsr_recent_table.specs.declared.previous.Keyed.{Keyed}
use Rattle.hsr_recent_table.specs.Previous.{IsPreviousOf}
use Rattle.hsr_sightings.specs.Again.{count_by_previous}
use Rattle.hsr_sightings.specs.Copies.{carried_before}
use Rattle.hsr_sightings.proofs.Carrying.{are_keys, carried_keys, carried_next, count_small, keys_in_time}
use Rattle.hsr_sightings.proofs.Counting.{long_more, read_is, small_more, told_more}
use Rattle.hsr_sightings.proofs.Indexes.{no_later}
use Rattle.hsr_sightings.proofs.again.counts_of.Goals as goal

pub next-requires : goal.next-requires
next-requires c =
    let copies = c.args.copies.now in
    let firsts = c.args.firsts.now in
    let i = c.loop-i.i in
    let x = c.index-copies-i.result in
    let here = slice_get_read copies _ i x refl (omega arith) c.index-copies-i.is in
    no_later (carried_keys copies firsts) i c.keyed.result c.loop-i.previous c.loop-i.invariant.come ((are_keys copies firsts).each i x here ∙ ap Some (sym c.keyed.ensures))

pub loop-i-preserved : goal.loop-i-preserved
loop-i-preserved c =
    let copies = c.args.copies.now in
    let firsts = c.args.firsts.now in
    let counts = c.loop-i.counts.items in
    let i = c.loop-i.i in
    let x = c.index-copies-i.result in
    let found = c.in_ok-found.found in
    let keys = carried_keys copies firsts in
    let are = are_keys copies firsts in
    let here = slice_get_read copies _ i x refl (omega arith) c.index-copies-i.is in
    let own : slice_get keys i ≡ Some c.keyed.result = are.each i x here ∙ ap Some (sym c.keyed.ensures) in
    let is : IsPreviousOf frame_time keys i c.keyed.result found = c.in_ok-found.ensures.found frame_time keys c.loop-i.invariant.come in
    let value : count_by_previous counts found ≡ carried_before (past_of copies i) x
    = carried_next copies firsts keys counts i x found c.requires are here (subst (λ (t : Keyed). IsPreviousOf frame_time keys i t found) c.keyed.ensures is) c.loop-i.invariant.each in
    let le : count_by_previous counts found ≤ i = count_small keys counts i c.keyed.result found is c.loop-i.invariant.long c.loop-i.invariant.small in
    let few : count_by_previous counts found < 2 ^ 32 = omega (arith, le, c.requires.few) in
    let same = c.as_slice.ensures.value in
    let count : c.count_by-count.result ≡ count_by_previous counts found
    = c.count_by-count.ensures (subst (λ l. count_by_previous l found < 2 ^ 32) (sym same) few) ∙ ap (λ l. count_by_previous l found) same in
    record {
      long = long_more counts _ i _ c.loop-i.invariant.long c.in_ok-push.ensures.items;
      come = c.in_ok-found.ensures.come frame_time keys (keys_in_time copies firsts keys c.requires are) own c.loop-i.invariant.come;
      each = told_more (λ k d. carried_before (past_of copies k) d) copies counts _ i _ c.loop-i.invariant.long c.in_ok-push.ensures.items
          (read_is (λ d. carried_before (past_of copies i) d) copies i x _ here (count ∙ value)) c.loop-i.invariant.each;
      small = small_more counts _ i _ c.loop-i.invariant.long c.in_ok-push.ensures.items (omega (arith, count, le)) c.loop-i.invariant.small;
    }

pub returns : goal.returns
returns c = record {
  each = λ i x here. c.loop-i.invariant.each i x (let below = slice_get_within c.args.copies.now i x here in omega (arith, below)) here;
  long = omega (arith, c.loop-i.invariant.long);
}
