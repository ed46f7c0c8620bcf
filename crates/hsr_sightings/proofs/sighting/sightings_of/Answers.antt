use Rattle.std.proofs.Common.{◌≡◌, ◌∙◌, ◌<◌, Some, ap, arith, get_or, length, refl, replicate, rules, ℕ, subst, sym}
use Rattle.std.specs.Prelude.{slice_index}
use Rattle.std.proofs.lemmas.List.{get_or-replicate, length-replicate}
use Rattle.std.proofs.lemmas.Option.{get_or_from_slice_get, slice_get_read, slice_get_within}
use Rattle.hsr_frame_groups.specs.Frames.{frame_time}
use Rattle.hsr_recent_table.specs.declared.previous.Keyed.{Keyed}
use Rattle.hsr_recent_table.specs.Previous.{IsPreviousOf}
use Rattle.hsr_sightings.specs.Finding.{AreFound}
use Rattle.hsr_sightings.specs.Seen.{sighting_keyed}
use Rattle.hsr_sightings.proofs.Gathering.{all_found, are_keys, keys_in_time, left_read, none_found, previous_is, sighting_keys}
use Rattle.hsr_sightings.proofs.Indexes.{no_later}
use Rattle.hsr_sightings.proofs.sighting.sightings_of.Goals as goal

pub loop-i-init : goal.loop-i-init
loop-i-init c =
    let ring = c.args.ring.now in
    let copies = c.args.copies.now in
    let counts = c.in_ok-vec.field-0.items in
    let zeros : counts ≡ replicate 64 0 = search rules in
    let long : length counts ≡ 64 = ap length zeros ∙ length-replicate {A = ℕ} 64 0 in
    record {
      come = c.new-previous.ensures (sighting_keys ring copies c.args.firsts.items);
      found = subst (λ l. AreFound ring copies 0 l c.args.firsts.items counts) (sym c.in_ok-with_capacity.ensures.items)
          (none_found ring copies c.args.firsts.items counts c.requires.read.frames.long long (λ point n at. sym (get_or_from_slice_get counts point n 0 at) ∙ ap (λ l. get_or l point 0) zeros
          ∙ get_or-replicate {A = ℕ} 64 point 0 0 (let below = slice_get_within counts point n at in omega (arith, below, long))));
      left = λ k from. refl;
    }

pub next-requires : goal.next-requires
next-requires c =
    let copies = c.args.copies.now in
    let firsts = c.args.firsts.items in
    let ring = c.args.ring.now in
    let i = c.loop-i.i in
    let x = c.index-copies-i.result in
    let here = slice_get_read copies _ i x refl (omega arith) c.index-copies-i.is in
    let inside : i < length firsts = omega (arith, c.requires.read.frames.long) in
    let key : c.keyed.result ≡ sighting_keyed ring (slice_index firsts i) x
    = c.keyed.ensures ∙ ap (λ f. sighting_keyed ring f x) (left_read firsts c.loop-i.found.of_copy.items i c.index.result.now inside c.loop-i.invariant.left c.index.ensures) in
    no_later (sighting_keys ring copies firsts) i c.keyed.result c.loop-i.previous c.loop-i.invariant.come ((are_keys ring copies firsts).each i x here ∙ ap Some (sym key))

pub put_copy-requires-clause-previous : goal.put_copy-requires-clause-previous
put_copy-requires-clause-previous c =
    let copies = c.args.copies.now in
    let firsts = c.args.firsts.items in
    let ring = c.args.ring.now in
    let keys = sighting_keys ring copies firsts in
    let i = c.loop-i.i in
    let x = c.index-copies-i.result in
    let found = c.in_ok-own.own in
    let here = slice_get_read copies _ i x refl (omega arith) c.index-copies-i.is in
    let inside : i < length firsts = omega (arith, c.requires.read.frames.long) in
    let key : c.keyed.result ≡ sighting_keyed ring (slice_index firsts i) x
    = c.keyed.ensures ∙ ap (λ f. sighting_keyed ring f x) (left_read firsts c.loop-i.found.of_copy.items i c.index.result.now inside c.loop-i.invariant.left c.index.ensures) in
    let is = subst (λ (t : Keyed). IsPreviousOf frame_time keys i t found) key (c.in_ok-own.ensures.found frame_time keys c.loop-i.invariant.come) in
    previous_is ring copies firsts keys i x found c.requires.read c.requires.places (are_keys ring copies firsts) here is

pub loop-i-preserved : goal.loop-i-preserved
loop-i-preserved c =
    let copies = c.args.copies.now in
    let firsts = c.args.firsts.items in
    let ring = c.args.ring.now in
    let keys = sighting_keys ring copies firsts in
    let are = are_keys ring copies firsts in
    let i = c.loop-i.i in
    let x = c.index-copies-i.result in
    let here = slice_get_read copies _ i x refl (omega arith) c.index-copies-i.is in
    let inside : i < length firsts = omega (arith, c.requires.read.frames.long) in
    let key : c.keyed.result ≡ sighting_keyed ring (slice_index firsts i) x
    = c.keyed.ensures ∙ ap (λ f. sighting_keyed ring f x) (left_read firsts c.loop-i.found.of_copy.items i c.index.result.now inside c.loop-i.invariant.left c.index.ensures) in
    record {
      come = c.in_ok-own.ensures.come frame_time keys (keys_in_time ring copies firsts keys c.requires.read are) (are.each i x here ∙ ap Some (sym key)) c.loop-i.invariant.come;
      found = c.in_ok-put_copy.ensures.found;
      left = λ k from. c.in_ok-put_copy.ensures.left k (omega (arith, from)) ∙ c.loop-i.invariant.left k (omega (arith, from));
    }

pub returns : goal.returns
returns c = all_found c.args.ring.now c.args.copies.now c.loop-i.found.all.items c.loop-i.found.of_copy.items c.loop-i.found.begun.items c.loop-i.i (omega arith) c.loop-i.invariant.found
