use Rattle.std.proofs.Common.{ℕ, ◌<◌, ◌≡◌, true, List, length, slice_index_or}
use Rattle.hsr_audit.specs.Round.{is_joint_of}
use Rattle.hsr_topology.specs.declared.end.End.{End}
use Rattle.hsr_audit.proofs.round.are_joined.Given as goal

abbrev pub invariant-loop-k : goal.invariant-loop-k
invariant-loop-k l = (k : ℕ) (d : List End) → k < l.k → is_joint_of (slice_index_or l.links k d) k (length l.links) ≡ true
