-- Receipts that are their workers' entries, each once, and in the order of the records; and the plan that they tell.
--     names_of      the places of a node that a worker's receipts name
--     holds_of      the places of a record at which its entries stand
--     HasReceipts   right receipts of all workers
pub use Rattle.hsr_run_index.specs.Turns.{holds_of}
use Rattle.std.specs.Prelude.{ℕ, ◌<◌, ◌≡◌, ◌==◌, if◌then◌else◌, List, [], ◌∷◌, ◌++◌, length, map, filter_map, Option, Some, None, slice_get, slice_index_or}
use Rattle.hsr_node.specs.Kept.{Receipts, Record}
use Rattle.hsr_node.specs.declared.entry.Entry.{Entry}
use Rattle.hsr_node.specs.declared.entry.Receipt.{Receipt}
use Rattle.hsr_finished_run.specs.declared.planned.Planned.{Planned}

-- ---- what a receipt names

abbrev pub entry_in : ℕ → Option Record → Option Entry
entry_in place None = None
entry_in place (Some r) = slice_get r.entries place

-- the entry at a place of a node's record
abbrev pub entry_at : List Record → ℕ → ℕ → Option Entry
entry_at kept node place = entry_in place (slice_get kept node)

-- the receipt shows the entry that stands there
abbrev pub Shows : List Record → Receipt → Type 0
Shows kept r = entry_at kept r.node r.place ≡ Some r.entry

abbrev pub AreShown : List Record → List Receipt → ℕ → Type 0
AreShown kept receipts n = (i : ℕ) (d : Receipt) → i < n → Shows kept (slice_index_or receipts i d)

-- all receipts of a worker do, in the first n passes
abbrev pub IsShown : List Record → ℕ → List Receipts → ℕ → Type 0
IsShown kept worker passes n = (j : ℕ) (p : Receipts) → j < n → (slice_index_or passes j p).worker ≡ worker →
    AreShown kept (slice_index_or passes j p).receipts (length (slice_index_or passes j p).receipts)

-- ---- places

abbrev pub named : ℕ → Receipt → Option ℕ
named node r = if r.node == node then Some r.place else None

-- the places of a node that a worker's receipts name, one pass after another
abbrev pub names_of : ℕ → ℕ → List Receipts → List ℕ
names_of worker node [] = []
names_of worker node (p ∷ ps) = (if p.worker == worker then filter_map (named node) p.receipts else []) ++ names_of worker node ps

-- these are the same, for the first n nodes
abbrev pub IsPlaced : List Record → ℕ → List Receipts → ℕ → Type 0
IsPlaced kept worker passes n = (k : ℕ) (d : Record) → k < n → names_of worker k passes ≡ holds_of worker 0 (slice_index_or kept k d).entries

-- ---- the plan

abbrev pub planned_of : Receipt → Planned
planned_of r = record { node = r.node; at = r.entry.at; event = r.entry.event }

-- what the main worker, number 0, brought about in a pass, and one pass after another
abbrev pub done_in : Receipts → List Planned
done_in p = if p.worker == 0 then map planned_of p.receipts else []

abbrev pub done_of : List Receipts → List Planned
done_of [] = []
done_of (p ∷ ps) = done_in p ++ done_of ps

-- ---- workers

-- a worker's receipts are its entries, each once, in record order per node, and the main worker's are the plan
pub record IsRight (kept : List Record) (passes : List Receipts) (plan : List Planned) (worker : ℕ) : Type 0 where
  pub shown : IsShown kept worker passes (length passes)
  pub placed : IsPlaced kept worker passes (length kept)
  pub planned : worker ≡ 0 → done_of passes ≡ plan

abbrev pub RightBelow : List Record → List Receipts → List Planned → ℕ → Type 0
RightBelow kept passes plan n = (w : ℕ) → w < n → IsRight kept passes plan w

-- all workers' receipts are right
unfoldable pub HasReceipts : List Record → List Receipts → List Planned → Type 0
HasReceipts kept passes plan = (w : ℕ) → IsRight kept passes plan w

-- the lowest worker whose receipts are wrong
pub record IsFirstWrong (kept : List Record) (passes : List Receipts) (plan : List Planned) (worker : ℕ) : Type 0 where
  pub here : ¬ IsRight kept passes plan worker
  pub before : RightBelow kept passes plan worker
