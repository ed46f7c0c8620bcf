use Rattle.std.proofs.Common.{◌≡◌, ◌++◌, drop}
use Rattle.hsr_run_index.specs.InOrder.{came}
use Rattle.hsr_run_index.proofs.agreement.arrived.Given as goal

abbrev pub invariant-loop-at : goal.invariant-loop-at
invariant-loop-at l = l.copies.items ++ came l.fn.port (drop l.at l.entries) ≡ came l.fn.port l.entries
