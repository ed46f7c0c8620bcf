use Rattle.std.proofs.Common.{◌∙◌, ap, arith, length, subst, sym}
use Rattle.hsr_sightings.specs.Copies.{is_late}
use Rattle.hsr_sightings.specs.Read.{AreSightings, TellsEach}
use Rattle.hsr_health.proofs.seen.seen_of.Goals as goal

pub with_lates-marked-requires : goal.with_lates-marked-requires
with_lates-marked-requires c =
    let ring = c.args.ring.now in
    let copies = c.args.copies.now in
    let told = c.in_ok-lates.ensures ring
    (subst (λ l. AreSightings ring copies l c.as_slice-numbers.result.now) (sym c.as_slice-all.ensures.value)
    (subst (λ l. AreSightings ring copies c.in_ok-sightings.sightings.all.items l) (sym c.as_slice-numbers.ensures.value) c.in_ok-sightings.ensures)) in
    omega (arith, told.long, c.requires.framed.1.marks.long, ap length c.as_slice-is_late.ensures.value)

pub returns : goal.returns
returns c = λ taps framed.
    let ring = c.args.ring.now in
    let copies = c.args.copies.now in
    let told = subst (TellsEach (is_late ring) copies) (sym c.as_slice-is_late.ensures.value)
    (c.in_ok-lates.ensures ring
    (subst (λ l. AreSightings ring copies l c.as_slice-numbers.result.now) (sym c.as_slice-all.ensures.value)
    (subst (λ l. AreSightings ring copies c.in_ok-sightings.sightings.all.items l) (sym c.as_slice-numbers.ensures.value) c.in_ok-sightings.ensures))) in
    record {
      carried = framed.carried;
      sightings = c.in_ok-sightings.ensures;
      overtaken = framed.overtaken;
      marks = record {
        each = λ i x here. c.with_lates-marked.ensures.each i _ _ (framed.marks.each i x here) (told.each i x here);
        long = c.with_lates-marked.ensures.long ∙ framed.marks.long;
      };
    }
