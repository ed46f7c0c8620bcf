use Rattle.std.proofs.Common.{◌≡◌, take}
use Rattle.std.specs.List.{flat_map}
use Rattle.hsr_plan_sweep.specs.Verdict.{points_by}
use Rattle.hsr_plan_sweep.proofs.verdict.points.Given as goal

abbrev pub invariant-loop-played : goal.invariant-loop-played
invariant-loop-played l = l.list.items ≡ flat_map points_by (take l.played-index l.plays)
