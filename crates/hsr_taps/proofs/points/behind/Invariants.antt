use Rattle.std.proofs.Common.{◌≡◌, length}
use Rattle.hsr_taps.specs.Named.{behind}
use Rattle.hsr_taps.proofs.points.behind.Given as goal

-- what is left answers for all
abbrev pub invariant-loop-first : goal.invariant-loop-first
invariant-loop-first l = behind l.octet l.rest ≡ behind l.octet l.text

abbrev pub decreases-loop-first : goal.decreases-loop-first
decreases-loop-first l = length l.rest
