use Rattle.std.proofs.Common.{◌≡◌}
use Rattle.hsr_finished_run.specs.Next.{holds_from}
use Rattle.hsr_finished_run.proofs.next.next_place.Given as goal

-- what is left answers for all
abbrev pub invariant-loop-place : goal.invariant-loop-place
invariant-loop-place l = holds_from l.fn.worker l.entries l.place ≡ holds_from l.fn.worker l.entries l.fn.from
