use Rattle.std.proofs.Common.{◌≡◌, ◌↔◌, ◌++◌, List, drop, map}
use Rattle.hsr_finished_run.specs.Receipts.{planned_of}
use Rattle.hsr_finished_run.specs.declared.planned.Planned.{Planned}
use Rattle.hsr_finished_run.proofs.workers.after_receipts.Given as goal

-- what is left answers for all
abbrev pub invariant-loop-i : goal.invariant-loop-i
invariant-loop-i l = (rest : List Planned) → (map planned_of (drop l.i l.receipts) ++ rest ≡ l.left) ↔ (map planned_of l.receipts ++ rest ≡ l.fn.plan)
