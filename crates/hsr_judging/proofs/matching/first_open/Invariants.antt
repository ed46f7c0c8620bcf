use Rattle.std.proofs.Common.{◌≤◌}
use Rattle.hsr_judging.specs.Matching.{over_front}
use Rattle.hsr_judging.proofs.matching.first_open.Given as goal

-- all in front are over
abbrev pub invariant-loop-i : goal.invariant-loop-i
invariant-loop-i l = l.i ≤ over_front l.window l.at l.expected
