use Rattle.std.proofs.Common.{◌≡◌, drop}
use Rattle.hsr_taps.specs.Named.{asked_for}
use Rattle.hsr_taps.proofs.points.asked_for.Given as goal

-- what is left answers for all
abbrev pub invariant-loop-point : goal.invariant-loop-point
invariant-loop-point l = asked_for l.i l.name (drop l.point-index l.points) ≡ asked_for l.i l.fn.name l.points
