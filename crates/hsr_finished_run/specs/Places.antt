-- A fact of the entry at a place of a record, and of its past.
use Rattle.std.specs.Prelude.{ℕ, List, reverse, take, slice_index_or}
use Rattle.hsr_node.specs.declared.entry.Entry.{Entry}

-- P of the entry at a place, and of its past
abbrev pub HoldsAt : (Entry → List Entry → Type 0) → List Entry → ℕ → Type 0
HoldsAt P xs i = (d : Entry) → P (slice_index_or xs i d) (reverse (take i xs))
