use Rattle.std.proofs.Common.{◌≡◌, ◌≤◌, length}
use Rattle.hsr_duptable.specs.Notes.{unexpired_notes, IsRising}
use Rattle.hsr_duptable.specs.Chains.{notes_of, last_entries}
use Rattle.hsr_duptable.proofs.chain.drop_expired.Given as goal

-- what is left is the end of all, and has the same unexpired notes
abbrev pub invariant-loop-oldest : goal.invariant-loop-oldest
invariant-loop-oldest l = record {
  capacity : l.ring.capacity ≡ l.fn.ring.capacity;
  fewer : length l.ring.items ≤ length l.fn.ring.items;
  last : l.ring.items ≡ last_entries (length l.ring.items) l.fn.ring.items;
  rising : IsRising 0 (notes_of l.ring.items) l.at;
  rest : unexpired_notes l.forget l.at (notes_of l.ring.items) ≡ unexpired_notes l.forget l.at (notes_of l.fn.ring.items);
}

abbrev pub decreases-loop-oldest : goal.decreases-loop-oldest
decreases-loop-oldest l = length l.ring.items
