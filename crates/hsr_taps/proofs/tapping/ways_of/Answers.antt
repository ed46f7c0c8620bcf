use Rattle.std.proofs.Common.{◌≡◌, ◌+◌, ◌∙◌, ap, length}
use Rattle.std.specs.Prelude.{slice_index}
use Rattle.std.proofs.lemmas.List.{length_push}
use Rattle.hsr_taps.specs.Came.{way_by}
use Rattle.hsr_taps.proofs.Tallying.{all_more}
use Rattle.hsr_taps.proofs.tapping.ways_of.Goals as goal

pub loop-direction-preserved : goal.loop-direction-preserved
loop-direction-preserved c =
    let lane_a = c.args.lane_a.now in
    let lane_b = c.args.lane_b.now in
    let i = c.loop-direction.direction in
    record {
      long = ap length c.in_ok-push.ensures.items ∙ length_push c.loop-direction.ways.items c.way_by.result ∙ ap (λ n. n + 1) c.loop-direction.invariant.long;
      ways = all_more (λ k x. x ≡ way_by (slice_index lane_a k) (slice_index lane_b k)) c.loop-direction.ways.items _ i c.way_by.result c.loop-direction.invariant.long c.in_ok-push.ensures.items
          c.loop-direction.invariant.ways c.way_by.ensures;
    }
