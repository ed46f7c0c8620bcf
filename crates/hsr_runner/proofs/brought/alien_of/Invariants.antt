use Rattle.std.proofs.Common.{◌≡◌, ◌<◌, ℕ, None}
use Rattle.hsr_run_laws.specs.Run.{record_of}
use Rattle.hsr_runner.specs.Brought.{first_alien}
use Rattle.hsr_runner.proofs.brought.alien_of.Given as goal

abbrev pub invariant-loop-node : goal.invariant-loop-node
invariant-loop-node g l = (k : ℕ) → k < l.node → first_alien k (record_of l.closed.run k) ≡ None
