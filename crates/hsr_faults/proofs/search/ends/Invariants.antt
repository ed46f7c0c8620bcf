use Rattle.std.proofs.Common.{◌≡◌, ◌<◌, ℕ, slice_index_or, true}
use Rattle.std.specs.Prelude.{◌↔◌}
use Rattle.hsr_bitset.specs.Numbers.{has_bit}
use Rattle.hsr_faults.specs.Sets.{Meet}
use Rattle.hsr_faults.specs.declared.channels.Channels.{Channels}
use Rattle.hsr_faults.proofs.search.ends.Given as goal

abbrev pub invariant-loop-node : goal.invariant-loop-node
invariant-loop-node l = (k : ℕ) (d : Channels) → k < l.node → (has_bit l.nodes.bits k ≡ true) ↔ Meet (slice_index_or l.into k d).words l.found.words
