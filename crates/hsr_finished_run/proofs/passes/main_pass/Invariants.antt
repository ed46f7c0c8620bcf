use Rattle.std.proofs.Common.{◌≡◌}
use Rattle.hsr_finished_run.proofs.MainPass.{IsUpTo}
use Rattle.hsr_finished_run.proofs.passes.main_pass.Given as goal

abbrev pub invariant-loop-i : goal.invariant-loop-i
invariant-loop-i g l = (l.pass.worker ≡ 0) × IsUpTo l.fn.kept l.plan l.i l.next.items l.pass.receipts
