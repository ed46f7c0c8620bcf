use Rattle.std.proofs.Common.{◌++◌, ◌∷◌, [], ◌∙◌, ap, arith, map, sym}
use Rattle.std.specs.List.{range_with_len}
use Rattle.std.proofs.lemmas.List.FromFn.{map-range_with_len_more}
use Rattle.hsr_sightings.specs.Sightings.{sees_both_ways}
use Rattle.hsr_health.proofs.broken.both_ways_of.Goals as goal

pub loop-point-preserved : goal.loop-point-preserved
loop-point-preserved c =
    c.in_ok-push.ensures.items ∙ ap (λ l. l ++ c.sees_both_ways.result ∷ []) c.loop-point.invariant
    ∙ ap (λ b. map (sees_both_ways c.args.ring.now c.args.copies.now) (range_with_len 0 c.loop-point.point) ++ b ∷ []) c.sees_both_ways.ensures ∙ sym (map-range_with_len_more (sees_both_ways c.args.ring.now c.args.copies.now) 0 c.loop-point.point c.loop-point.point (omega arith))
