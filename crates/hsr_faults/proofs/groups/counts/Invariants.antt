use Rattle.std.proofs.Common.{◌≡◌, ◌<◌, ℕ, length, slice_index_or}
use Rattle.std.specs.Prelude.{count_by}
use Rattle.hsr_faults.specs.Groups.{is_number}
use Rattle.hsr_faults.proofs.groups.counts.Given as goal

abbrev pub invariant-loop-group : goal.invariant-loop-group
invariant-loop-group l = (length l.counts.items ≡ l.group) × ((j d : ℕ) → j < l.group → slice_index_or l.counts.items j d ≡ count_by (is_number j) l.of)
