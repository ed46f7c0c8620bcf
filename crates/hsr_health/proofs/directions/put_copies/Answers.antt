use Rattle.std.proofs.Common.{◌≡◌, ◌∙◌, arith, length, refl, subst}
use Rattle.std.proofs.lemmas.Option.{slice_get_read}
use Rattle.hsr_health.specs.Counted.{AreDirected, mark_of}
use Rattle.hsr_health.proofs.Directing.{directed_step}
use Rattle.hsr_health.proofs.Sourcing.{told_is}
use Rattle.hsr_sightings.specs.Copies.{times_before}
use Rattle.hsr_health.proofs.directions.put_copies.Goals as goal

pub loop-i-preserved : goal.loop-i-preserved
loop-i-preserved c =
    let copies = c.args.copies.now in
    let i = c.loop-i.i in
    let here = slice_get_read copies _ i c.index-copies-i.result refl (omega arith) c.index-copies-i.is in
    record {
      long = c.put_copy.ensures.long ∙ c.loop-i.invariant.long;
      all = λ is_by_lane ring carries marks none.
          directed_step is_by_lane ring copies i _ _ c.index-copies-i.result c.loop-i.all.items _ here (told_is times_before copies c.args.carried.now i c.index-copies-i.result _ carries here (omega arith))
          (c.index-marks-i.is ∙ told_is (mark_of is_by_lane ring) copies c.args.marks.now i c.index-copies-i.result c.index-marks-i.result marks here (omega arith)) c.put_copy.ensures.all (c.loop-i.invariant.all is_by_lane ring carries marks none);
    }

pub returns-clause-all : goal.returns-clause-all
returns-clause-all c = λ is_by_lane ring carries marks none.
    let end : c.loop-i.i ≡ length c.args.copies.now = omega arith in
    subst (λ n. AreDirected ring c.args.copies.now n c.loop-i.all.items) end (c.loop-i.invariant.all is_by_lane ring carries marks none)
