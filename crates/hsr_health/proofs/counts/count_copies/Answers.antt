use Rattle.std.proofs.Common.{◌≡◌, ◌∙◌, arith, length, refl, subst}
use Rattle.std.specs.Prelude.{slice_index}
use Rattle.std.proofs.lemmas.Option.{slice_get-get_or, slice_get_read}
use Rattle.hsr_health.specs.Counted.{AreCounted}
use Rattle.hsr_health.proofs.Sourcing.{counts_step, told_is}
use Rattle.hsr_health.proofs.counts.count_copies.Goals as goal

pub loop-i-preserved : goal.loop-i-preserved
loop-i-preserved c =
    let copies = c.args.copies.now in
    let of_copy = c.args.of_copy.now in
    let i = c.loop-i.i in
    let here = slice_get_read copies _ i c.index-copies-i.result refl (omega arith) c.index-copies-i.is in
    record {
      long = c.count_copy.ensures.long ∙ c.loop-i.invariant.long;
      counts = λ is_by_lane ring macs told sources none.
          counts_step is_by_lane ring copies macs of_copy i (slice_index of_copy i) c.index-copies-i.result _ c.loop-i.counts.items _ here sources (slice_get-get_or of_copy i 0 (omega arith))
          (c.index-marks-i.is ∙ told_is _ copies c.args.marks.now i c.index-copies-i.result c.index-marks-i.result told here (omega arith)) c.count_copy.ensures.counts (c.loop-i.invariant.counts is_by_lane ring macs told sources none);
    }

pub returns-clause-counts : goal.returns-clause-counts
returns-clause-counts c = λ is_by_lane ring macs told sources none.
    let end : c.loop-i.i ≡ length c.args.copies.now = omega arith in
    subst (λ n. AreCounted is_by_lane ring c.args.copies.now macs n c.loop-i.counts.items) end (c.loop-i.invariant.counts is_by_lane ring macs told sources none)
