use Rattle.std.proofs.Common.{◌≡◌, ◌+◌, ◌∙◌, ap, length}
use Rattle.std.specs.Prelude.{slice_get}
use Rattle.std.proofs.lemmas.List.{length_push}
use Rattle.hsr_taps.specs.Came.{owner_by}
use Rattle.hsr_taps.specs.Directions.{interface_of}
use Rattle.hsr_taps.proofs.Tallying.{all_more}
use Rattle.hsr_taps.proofs.tapping.points_by_direction.Goals as goal

pub loop-direction-preserved : goal.loop-direction-preserved
loop-direction-preserved c =
    let owners = c.args.owners.now in
    let i = c.loop-direction.direction in
    record {
      long = ap length c.in_ok-push.ensures.items ∙ length_push c.loop-direction.points.items c.owner_of.result ∙ ap (λ n. n + 1) c.loop-direction.invariant.long;
      points = all_more (λ k x. x ≡ owner_by (slice_get owners (interface_of k))) c.loop-direction.points.items _ i c.owner_of.result c.loop-direction.invariant.long c.in_ok-push.ensures.items
          c.loop-direction.invariant.points c.owner_of.ensures;
    }
