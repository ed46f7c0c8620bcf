use Rattle.std.proofs.Common.{◌<◌, ℕ}
use Rattle.hsr_table_flaws.specs.Clear.{IsPlain}
use Rattle.hsr_table_flaws.proofs.clear.are_plain.Given as goal

abbrev pub invariant-loop-node : goal.invariant-loop-node
invariant-loop-node g l = (k : ℕ) → k < l.node → IsPlain l.closed.run k
