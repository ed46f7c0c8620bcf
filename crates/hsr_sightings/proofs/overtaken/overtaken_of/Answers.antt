use Rattle.std.proofs.Common.{◌≡◌, ◌+◌, ◌∙◌, Some, ap, arith, map, refl, subst, sym}
use Rattle.std.specs.Prelude.{slice_get, slice_index}
use Rattle.std.proofs.lemmas.Option.{get_or_from_slice_get, same_Some, slice_get_read}
use Rattle.hsr_frame_groups.specs.Frames.{CaughtFields, frame_time, past_of}
use Rattle.hsr_recent_table.specs.declared.previous.Keyed.{Keyed}
use Rattle.hsr_recent_table.specs.Previous.{IsPreviousOf}
use Rattle.hsr_sightings.specs.Copies.{times_before, top_before, top_in}
use Rattle.hsr_sightings.specs.Keys.{beside_key}
use Rattle.hsr_sightings.specs.Passed.{TellsTop, beside_keyed, top_by}
use Rattle.hsr_sightings.proofs.Indexes.{no_later}
use Rattle.hsr_sightings.proofs.Passing.{key_at, keys_in_time, overtaken_step, top_step, top_told, tops_more}
use Rattle.hsr_sightings.proofs.overtaken.overtaken_of.Goals as goal

pub keyed-requires : goal.keyed-requires
keyed-requires c = c.requires.read.directions c.loop-i.i _ (slice_get_read c.args.copies.now _ c.loop-i.i c.index-copies-i.result refl (omega arith) c.index-copies-i.is)

pub next-requires : goal.next-requires
next-requires c =
    let copies = c.args.copies.now in
    let keys = map beside_keyed copies in
    let i = c.loop-i.i in
    let x = c.index-copies-i.result in
    let here = slice_get_read copies _ i x refl (omega arith) c.index-copies-i.is in
    no_later keys i c.keyed.result c.loop-i.previous c.loop-i.invariant.come (key_at copies keys refl i x here ∙ ap Some (sym c.keyed.ensures))

pub loop-i-preserved : goal.loop-i-preserved
loop-i-preserved c =
    let copies = c.args.copies.now in
    let firsts = c.args.firsts.now in
    let carried = c.args.carried.now in
    let keys = map beside_keyed copies in
    let tops = c.loop-i.tops.items in
    let i = c.loop-i.i in
    let x = c.index-copies-i.result in
    let found = c.in_ok-found.found in
    let top = c.top_by-top.result in
    let here = slice_get_read copies _ i x refl (omega arith) c.index-copies-i.is in
    let own : slice_get keys i ≡ Some c.keyed.result = key_at copies keys refl i x here ∙ ap Some (sym c.keyed.ensures) in
    let is : IsPreviousOf frame_time keys i (beside_keyed x) found
    = subst (λ (t : Keyed). IsPreviousOf frame_time keys i t found) c.keyed.ensures (c.in_ok-found.ensures.found frame_time keys c.loop-i.invariant.come) in
    let top_is : top ≡ top_by tops found = c.top_by-top.ensures ∙ ap (λ l. top_by l found) c.as_slice.ensures.value in
    let told : TellsTop copies x.at (top_before (past_of copies i) x) top
    = subst (TellsTop copies x.at (top_before (past_of copies i) x)) (sym top_is) (top_told copies firsts keys tops i i c.requires.read refl c.loop-i.invariant.tops (omega arith) x here found is) in
    let count : slice_index carried i ≡ times_before (past_of copies i) x = get_or_from_slice_get carried i (times_before (past_of copies i) x) 0 (c.requires.carried.each i x here) in
    let after : TellsTop copies x.at (top_in (beside_key x) (past_of copies (i + 1))) c.top_after.result
    = subst (TellsTop copies x.at (top_in (beside_key x) (past_of copies (i + 1)))) (sym c.top_after.ensures) (top_step copies i x (slice_index carried i) top here count told) in
    record {
      come = c.in_ok-found.ensures.come frame_time keys (keys_in_time copies firsts keys c.requires.read refl) own c.loop-i.invariant.come;
      tops = tops_more copies i tops _ c.top_after.result c.in_ok-push.ensures.items c.loop-i.invariant.tops
          (λ d there. subst (λ (y : CaughtFields). TellsTop copies y.at (top_in (beside_key y) (past_of copies (i + 1))) c.top_after.result) (same_Some x d (sym here ∙ there)) after);
      told = overtaken_step copies carried i x top c.overtaken_in-own.result c.loop-i.overtaken.items _ _ c.requires.carried here told c.overtaken_in-own.ensures c.in_ok-put_overtaken.ensures
          c.loop-i.invariant.told;
    }
