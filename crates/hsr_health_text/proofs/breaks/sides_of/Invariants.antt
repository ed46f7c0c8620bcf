use Rattle.std.proofs.Common.{◌≡◌}
use Rattle.hsr_health_text.specs.Breaks.{sides_of}
use Rattle.hsr_health_text.proofs.breaks.sides_of.Given as goal

abbrev pub invariant-loop-point : goal.invariant-loop-point
invariant-loop-point l = l.sides ≡ sides_of l.spans l.breaks l.base l.point
