use Rattle.std.specs.Prelude.{◌≡◌}
use Rattle.hsr_ring.proofs.starting.expect_entries.Given as goal

abbrev pub invariant-loop-i : goal.invariant-loop-i
invariant-loop-i g l = l.nodes ≡ l.fn.nodes
