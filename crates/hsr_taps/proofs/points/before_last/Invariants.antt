use Rattle.std.proofs.Common.{◌≡◌, length}
use Rattle.hsr_taps.specs.Named.{before_last}
use Rattle.hsr_taps.proofs.points.before_last.Given as goal

-- what is left answers for all
abbrev pub invariant-loop-last : goal.invariant-loop-last
invariant-loop-last l = before_last l.octet l.front ≡ before_last l.octet l.text

abbrev pub decreases-loop-last : goal.decreases-loop-last
decreases-loop-last l = length l.front
