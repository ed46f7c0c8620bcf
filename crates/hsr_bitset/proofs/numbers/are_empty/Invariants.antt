use Rattle.std.proofs.Common.{◌<◌, ◌≤◌, ℕ}
use Rattle.std.specs.Prelude.{slice_index_or}
use Rattle.hsr_bitset.proofs.numbers.are_empty.Given as goal

abbrev pub invariant-loop-word : goal.invariant-loop-word
invariant-loop-word l = (i : ℕ) → i < l.word-index → slice_index_or l.words i 0 ≤ l.all
