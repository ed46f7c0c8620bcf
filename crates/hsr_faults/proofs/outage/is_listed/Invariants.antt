use Rattle.std.proofs.Common.{◌≡◌, ◌<◌, ℕ, slice_index_or}
use Rattle.hsr_faults.specs.declared.outage.Cut.{Cut}
use Rattle.hsr_faults.proofs.outage.is_listed.Given as goal

abbrev pub invariant-loop-at : goal.invariant-loop-at
invariant-loop-at l = (k : ℕ) (d : Cut) → k < l.at → (slice_index_or l.cuts k d).sender ≡ l.sender → (slice_index_or l.cuts k d).nodes.bits ≡ l.nodes.bits → ⊥
