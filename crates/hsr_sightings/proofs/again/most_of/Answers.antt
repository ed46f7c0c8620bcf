use Rattle.std.proofs.Common.{◌≡◌, ◌∙◌, ◌+◌, ◌<◌, ℕ, ap, arith, get_or, length, max, refl, replicate, reverse, rules, set, subst, sym}
use Rattle.std.specs.Prelude.{slice_index}
use Rattle.std.proofs.lemmas.List.{get_or-replicate, length-replicate, length-set, take_all}
use Rattle.std.proofs.lemmas.Option.{get_or_from_slice_get, slice_get_read, slice_get_within}
use Rattle.hsr_frame_groups.specs.Frames.{past_of}
use Rattle.hsr_sightings.specs.Again.{AreMost}
use Rattle.hsr_sightings.specs.Copies.{carried_before}
use Rattle.hsr_sightings.proofs.Most.{most_more, most_none}
use Rattle.hsr_sightings.proofs.again.most_of.Goals as goal

pub loop-i-init : goal.loop-i-init
loop-i-init c =
    let most = c.in_ok-most.most.items in
    let zeros : most ≡ replicate 512 0 = search rules in
    let long : length most ≡ 512 = ap length zeros ∙ length-replicate {A = ℕ} 512 0 in
    record {
      long = long;
      most = most_none c.args.copies.now most (λ d n at. sym (get_or_from_slice_get most d n 0 at) ∙ ap (λ l. get_or l d 0) zeros
          ∙ get_or-replicate {A = ℕ} 512 d 0 0 (let below = slice_get_within most d n at in omega (arith, below, long)));
    }

pub put_most-requires : goal.put_most-requires
put_most-requires c =
    let copies = c.args.copies.now in
    let i = c.loop-i.i in
    let few = c.requires.read.1.directions i _ (slice_get_read copies _ i c.index-copies-i.result refl (omega arith) c.index-copies-i.is) in
    omega (arith, few, c.loop-i.invariant.long)

pub loop-i-preserved : goal.loop-i-preserved
loop-i-preserved c =
    let copies = c.args.copies.now in
    let counts = c.args.counts.now in
    let most = c.loop-i.most.items in
    let i = c.loop-i.i in
    let x = c.index-copies-i.result in
    let here = slice_get_read copies _ i x refl (omega arith) c.index-copies-i.is in
    let few = c.requires.read.1.directions i x here in
    let inside : x.direction < length most = omega (arith, few, c.loop-i.invariant.long) in
    let count : slice_index counts i ≡ carried_before (past_of copies i) x = get_or_from_slice_get counts i (carried_before (past_of copies i) x) 0 (c.requires.counts.each i x here) in
    let put = subst (λ d. c.put_most.new.most.items ≡ set most d (max (slice_index counts i + 1) (slice_index most d))) c.direction.ensures c.put_most.ensures in
    record {
      long = ap length c.put_most.ensures ∙ length-set most _ _ ∙ c.loop-i.invariant.long;
      most = most_more copies i (slice_index counts i) x most _ here count put inside c.loop-i.invariant.most;
    }

pub returns-clause-most : goal.returns-clause-most
returns-clause-most c =
    let copies = c.args.copies.now in
    subst (λ past. AreMost past c.loop-i.most.items) (ap reverse (take_all c.loop-i.i copies (omega arith))) c.loop-i.invariant.most
