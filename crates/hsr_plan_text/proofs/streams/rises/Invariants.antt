use Rattle.std.proofs.Common.{◌≡◌, drop, None}
use Rattle.hsr_plan_text.specs.Streams.{rises}
use Rattle.hsr_plan_text.proofs.streams.rises.Given as goal

abbrev pub invariant-loop-at : goal.invariant-loop-at
invariant-loop-at l = rises l.last (drop l.at-index l.moments) ≡ rises None l.moments
