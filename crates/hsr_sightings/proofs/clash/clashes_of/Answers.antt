use Rattle.std.proofs.Common.{◌≡◌, ◌∙◌, Some, ap, arith, map, refl, subst, sym}
use Rattle.std.specs.Prelude.{slice_get}
use Rattle.std.proofs.lemmas.Option.{slice_get_read, slice_get_within}
use Rattle.hsr_frame_groups.specs.Frames.{frame_time, past_of}
use Rattle.hsr_recent_table.specs.declared.previous.Keyed.{Keyed}
use Rattle.hsr_recent_table.specs.Previous.{IsPreviousOf}
use Rattle.hsr_sightings.specs.Clash.{copy_key}
use Rattle.hsr_sightings.specs.Copies.{is_clash}
use Rattle.hsr_sightings.proofs.Clashing.{clash_at, key_at, keys_in_time}
use Rattle.hsr_sightings.proofs.Counting.{long_more, read_is, told_more}
use Rattle.hsr_sightings.proofs.Indexes.{no_later}
use Rattle.hsr_sightings.proofs.clash.clashes_of.Goals as goal

pub next-requires : goal.next-requires
next-requires c =
    let copies = c.args.copies.now in
    let keys = map copy_key copies in
    let i = c.loop-i.i in
    let x = c.index-copies-i.result in
    let here = slice_get_read copies _ i x refl (omega arith) c.index-copies-i.is in
    no_later keys i c.keyed.result c.loop-i.previous c.loop-i.invariant.come (key_at copies keys refl i x here ∙ ap Some (sym c.keyed.ensures))

pub loop-i-preserved : goal.loop-i-preserved
loop-i-preserved c =
    let copies = c.args.copies.now in
    let firsts = c.args.firsts.now in
    let keys = map copy_key copies in
    let i = c.loop-i.i in
    let x = c.index-copies-i.result in
    let found = c.in_ok-found.found in
    let here = slice_get_read copies _ i x refl (omega arith) c.index-copies-i.is in
    let own : slice_get keys i ≡ Some c.keyed.result = key_at copies keys refl i x here ∙ ap Some (sym c.keyed.ensures) in
    let is : IsPreviousOf frame_time keys i (copy_key x) found
    = subst (λ (t : Keyed). IsPreviousOf frame_time keys i t found) c.keyed.ensures (c.in_ok-found.ensures.found frame_time keys c.loop-i.invariant.come) in
    record {
      long = long_more c.loop-i.clashes.items _ i _ c.loop-i.invariant.long c.in_ok-push.ensures.items;
      come = c.in_ok-found.ensures.come frame_time keys (keys_in_time copies firsts keys c.requires refl) own c.loop-i.invariant.come;
      each = told_more (λ k d. is_clash (past_of copies k) d) copies c.loop-i.clashes.items _ i _ c.loop-i.invariant.long c.in_ok-push.ensures.items
          (read_is (λ d. is_clash (past_of copies i) d) copies i x _ here (c.clash_by.ensures ∙ clash_at copies firsts keys found c.requires refl i x here is)) c.loop-i.invariant.each;
    }

pub returns : goal.returns
returns c = record {
  each = λ i x here. c.loop-i.invariant.each i x (let below = slice_get_within c.args.copies.now i x here in omega (arith, below)) here;
  long = omega (arith, c.loop-i.invariant.long);
}
