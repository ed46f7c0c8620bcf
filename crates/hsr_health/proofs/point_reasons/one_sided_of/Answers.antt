use Rattle.std.proofs.Common.{◌∙◌, ap, arith, false, not, ◌&&◌}
use Rattle.std.proofs.lemmas.List.FromFn.{get_or-map-range_with_len}
use Rattle.std.specs.Prelude.{slice_index_or}
use Rattle.hsr_health.specs.Told.{is_one_sided, saw_group}
use Rattle.hsr_health.proofs.Finding.{range_more}
use Rattle.hsr_sightings.specs.Sightings.{sees_both_ways}
use Rattle.hsr_health.proofs.point_reasons.one_sided_of.Goals as goal

pub loop-point-preserved : goal.loop-point-preserved
loop-point-preserved c =
    let ring = c.args.ring.now in
    let copies = c.args.copies.now in
    let point = c.loop-point.point in
    let both = ap (λ l. slice_index_or l point false) c.requires ∙ get_or-map-range_with_len (sees_both_ways ring copies) 0 _ point point false (omega arith) (omega arith) in
    range_more (is_one_sided ring copies) point c.loop-point.flags.items _ c.is_one_sided.result c.loop-point.invariant c.in_ok-push.ensures.items
    (c.is_one_sided.ensures ∙ ap (λ b. saw_group ring copies point && not b) both)
