use Rattle.std.proofs.Common.{◌≡◌, drop}
use Rattle.hsr_run_index.specs.InOrder.{came, copies_of_passage}
use Rattle.hsr_run_index.specs.declared.agreement.Passage.TheVariants.{Taken}
use Rattle.hsr_run_index.proofs.agreement.takens_in_order.Given as goal

-- what is left answers for all
abbrev pub invariant-loop-at : goal.invariant-loop-at
invariant-loop-at l = copies_of_passage Taken l.fn.dir l.left ≡ came l.fn.port (drop l.at l.entries) → copies_of_passage Taken l.fn.dir l.fn.rows ≡ came l.fn.port l.entries
