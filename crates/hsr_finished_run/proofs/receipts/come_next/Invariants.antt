use Rattle.std.proofs.Common.{◌↔◌, ◌++◌, List, drop}
use Rattle.hsr_node.specs.declared.entry.Receipt.{Receipt}
use Rattle.hsr_run_index.specs.Turns.{place_at}
use Rattle.hsr_finished_run.specs.Next.{AreNext}
use Rattle.hsr_finished_run.proofs.receipts.come_next.Given as goal

-- what is left answers for all
abbrev pub invariant-loop-i : goal.invariant-loop-i
invariant-loop-i g l =
    (rest : List Receipt) → AreNext l.fn.worker l.turns (place_at l.next) (drop l.i l.receipts ++ rest) ↔ AreNext l.fn.worker l.turns (place_at l.fn.next) (l.receipts ++ rest)
