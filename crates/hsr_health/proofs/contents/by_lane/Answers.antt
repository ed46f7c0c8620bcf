use Rattle.std.specs.Prelude.{slice_get}
use Rattle.hsr_health.specs.Whole.{is_lane}
use Rattle.hsr_health.proofs.Finding.{range_more}
use Rattle.hsr_taps.specs.Directions.{interface_of}
use Rattle.std.proofs.Common.{ℕ}
use Rattle.hsr_health.proofs.contents.by_lane.Goals as goal

pub loop-d-preserved : goal.loop-d-preserved
loop-d-preserved c =
    range_more (λ (d : ℕ). is_lane (slice_get c.args.taps.now (interface_of d))) c.loop-d.d c.loop-d.lanes.items _ c.is_lane.result c.loop-d.invariant c.in_ok-push.ensures.items c.is_lane.ensures
