-- The places of records at which a worker's entries come next.
--     holds_from    the places of its entries from a place on
--     IsNext        the first of them
--     AreNext       receipts of those that are left, node by node
pub use Rattle.hsr_run_index.specs.Turns.{IsNext, holds_from}
use Rattle.std.specs.Prelude.{ℕ, ◌<◌, ◌≡◌, List, length, filter_map, slice_index_or}
use Rattle.std.specs.List.{AllByRecursion}
use Rattle.hsr_node.specs.Kept.{Record}
use Rattle.hsr_node.specs.declared.entry.Receipt.{Receipt}
use Rattle.hsr_finished_run.specs.Receipts.{Shows, named}

-- a first place for each of `count` nodes
pub record AreFirst (count : ℕ) (next : List ℕ) : Type 0 where
  pub long : length next ≡ count
  pub first : AllByRecursion (λ n. n ≡ 0) next

-- those of a node, from its next place on
abbrev pub left_of : ℕ → List Record → List ℕ → ℕ → Record → List ℕ
left_of worker kept next k d = holds_from worker (slice_index_or kept k d).entries (slice_index_or next k 0)

-- the receipts show entries, and name, for each node, the places from its next one on
pub record AreNext (worker : ℕ) (kept : List Record) (next : ℕ → ℕ) (receipts : List Receipt) : Type 0 where
  pub shown : AllByRecursion (Shows kept) receipts
  pub names : (k : ℕ) (d : Record) → k < length kept → filter_map (named k) receipts ≡ holds_from worker (slice_index_or kept k d).entries (next k)
