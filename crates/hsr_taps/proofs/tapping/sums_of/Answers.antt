use Rattle.std.proofs.Common.{◌≡◌, ◌+◌, ◌-◌, ◌^◌, ◌∙◌, ap, arith, length, min}
use Rattle.std.specs.Prelude.{slice_index}
use Rattle.std.proofs.lemmas.List.{length_push}
use Rattle.hsr_taps.proofs.Tallying.{all_more}
use Rattle.hsr_taps.proofs.tapping.sums_of.Goals as goal

pub loop-direction-preserved : goal.loop-direction-preserved
loop-direction-preserved c =
    let lane_a = c.args.lane_a.now in
    let lane_b = c.args.lane_b.now in
    let i = c.loop-direction.direction in
    record {
      long = ap length c.in_ok-push.ensures.items ∙ length_push c.loop-direction.sums.items _ ∙ ap (λ n. n + 1) c.loop-direction.invariant.long;
      sums = all_more (λ k x. x ≡ min (slice_index lane_a k + slice_index lane_b k) (2 ^ 64 - 1)) c.loop-direction.sums.items _ i _ c.loop-direction.invariant.long c.in_ok-push.ensures.items
          c.loop-direction.invariant.sums (omega arith);
    }
