use Rattle.std.proofs.Common.{◌∙◌, ap, arith, refl, slice_index, subst}
use Rattle.std.proofs.lemmas.List.{take_all}
use Rattle.std.proofs.lemmas.Option.{slice_get_read}
use Rattle.hsr_health.specs.Broken.{AreMarked}
use Rattle.hsr_health.proofs.Breaking.{marks_read}
use Rattle.hsr_health.proofs.broken.marks_by.Goals as goal

pub loop-i-preserved : goal.loop-i-preserved
loop-i-preserved c =
    let seen = c.args.seen.now in
    let i = c.loop-i.i in
    record {
      long = c.put_mark.ensures.long ∙ c.loop-i.invariant.long;
      marks = marks_read c.args.of_copy.now c.args.way seen i _ c.loop-i.marks.items _ _ _ (slice_get_read seen _ i c.index-seen-i.result refl (omega arith) c.index-seen-i.is) (c.source_of-source.ensures ∙ ap (slice_index c.args.of_copy.now) c.first.ensures) c.came_by.ensures c.put_mark.ensures.marks c.loop-i.invariant.marks;
    }

pub returns-clause-marks : goal.returns-clause-marks
returns-clause-marks c = subst (λ l. AreMarked c.args.of_copy.now c.args.way l c.loop-i.marks.items) (take_all c.loop-i.i c.args.seen.now (omega arith)) c.loop-i.invariant.marks
