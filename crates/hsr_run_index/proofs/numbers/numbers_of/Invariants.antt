use Rattle.std.proofs.Common.{◌≡◌, ℕ, take, slice_get}
use Rattle.hsr_node.specs.declared.event.Probe.{Probe}
use Rattle.hsr_run_index.specs.Indexed.{number_of}
use Rattle.hsr_run_index.specs.Origin.{given_of}
use Rattle.hsr_run_index.proofs.numbers.numbers_of.Given as goal

abbrev pub invariant-loop-node : goal.invariant-loop-node
invariant-loop-node g l = (k : ℕ) (p : Probe) → number_of l.given k p ≡ given_of p (slice_get (take l.node l.kept) k)
