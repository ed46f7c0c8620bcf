use Rattle.std.proofs.Common.{◌≡◌, length}
use Rattle.hsr_plays.specs.Spans.{moment_behind}
use Rattle.hsr_certify.proofs.rising.moment_behind.Given as goal

abbrev pub invariant-loop-order : goal.invariant-loop-order
invariant-loop-order l = moment_behind l.moment l.rest ≡ moment_behind l.start l.steps

abbrev pub decreases-loop-order : goal.decreases-loop-order
decreases-loop-order l = length l.rest
