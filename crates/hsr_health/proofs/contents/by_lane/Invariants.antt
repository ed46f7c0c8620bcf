use Rattle.std.proofs.Common.{◌≡◌, map}
use Rattle.std.specs.Prelude.{slice_get}
use Rattle.std.specs.List.{range_with_len}
use Rattle.hsr_health.specs.Whole.{is_lane}
use Rattle.hsr_taps.specs.Directions.{interface_of}
use Rattle.hsr_health.proofs.contents.by_lane.Given as goal

-- the directions so far
abbrev pub invariant-loop-d : goal.invariant-loop-d
invariant-loop-d l = l.lanes.items ≡ map (λ d. is_lane (slice_get l.taps (interface_of d))) (range_with_len 0 l.d)
