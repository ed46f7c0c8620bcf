use Rattle.std.proofs.Common.{◌+◌, ◌∙◌, arith, refl, subst, sym}
use Rattle.std.specs.Prelude.{slice_index}
use Rattle.std.proofs.lemmas.Option.{slice_get_read}
use Rattle.hsr_sightings.specs.Demand.{IsDemand}
use Rattle.hsr_sightings.proofs.Demanding.{demand_step, number_within, numbered_at}
use Rattle.hsr_sightings.proofs.late.needed_of.Goals as goal

pub bounds-sightings-number : goal.bounds-sightings-number
bounds-sightings-number c = number_within c.args.ring.now c.args.copies.now c.args.sightings.now c.args.of_copy.now c.loop-i.i c.requires.sightings c.loop-i-test.true

pub loop-i-preserved : goal.loop-i-preserved
loop-i-preserved c =
    let ring = c.args.ring.now in
    let copies = c.args.copies.now in
    let all = c.args.sightings.now in
    let of_copy = c.args.of_copy.now in
    let i = c.loop-i.i in
    let x = c.index-copies-i.result in
    let old = c.loop-i.demand in
    let here = slice_get_read copies _ i x refl (omega arith) c.index-copies-i.is in
    let at_k = slice_get_read all _ (slice_index of_copy i) c.index-sightings-number.result refl (number_within ring copies all of_copy i c.requires.sightings c.loop-i-test.true) c.index-sightings-number.is in
    record {
      demand = subst (λ l. IsDemand ring copies (i + 1) l c.put_copy.new.demand.most.items) (sym c.put_copy.ensures.begun)
          (subst (IsDemand ring copies (i + 1) _) (sym c.put_copy.ensures.most)
          (demand_step ring copies all of_copy i (slice_index of_copy i) x _ old.begun.items old.most.items c.requires.numbers c.requires.sightings (omega arith) here
          (numbered_at ring copies all of_copy i c.requires.sightings c.loop-i-test.true) at_k c.loop-i.invariant.demand));
      long = c.put_copy.ensures.long ∙ c.loop-i.invariant.long;
    }
