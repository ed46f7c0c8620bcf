-- Passes that records and a plan tell of.
--     receipts_of   a worker's receipts, one pass after another
--     IsToldBy      a plan that records tell of
--     AreByPlan     the main worker's receipts by a plan, told or not
use Rattle.std.specs.Prelude.{ℕ, ◌+◌, ◌<◌, ◌≤◌, ◌≡◌, ◌==◌, ◌&&◌, not, if◌then◌else◌, Bool, List, [], ◌∷◌, ◌++◌, length, drop, take, map, filter_map, slice_index_or}
use Rattle.std.specs.List.{AllByRecursion}
use Rattle.hsr_node.specs.Kept.{Receipts, Record}
use Rattle.hsr_node.specs.declared.entry.Entry.{Entry}
use Rattle.hsr_node.specs.declared.entry.Receipt.{Receipt}
use Rattle.hsr_finished_run.specs.Finished.{IsPlanOf}
use Rattle.hsr_finished_run.specs.Next.{left_of}
use Rattle.hsr_finished_run.specs.Receipts.{Shows, holds_of, named, planned_of}
use Rattle.hsr_finished_run.specs.declared.planned.Planned.{Planned}

abbrev pub receipts_in : ℕ → Receipts → List Receipt
receipts_in w p = if p.worker == w then p.receipts else []

abbrev pub receipts_of : ℕ → List Receipts → List Receipt
receipts_of w [] = []
receipts_of w (p ∷ ps) = receipts_in w p ++ receipts_of w ps

-- the first pass is this worker's, the second the next one's, and so on
abbrev pub AreByWorker : ℕ → List Receipts → Type 0
AreByWorker n [] = Unit
AreByWorker n (p ∷ ps) = (p.worker ≡ n) × AreByWorker (n + 1) ps

-- ---- workers but the main one, in node and place order

abbrev pub is_other : ℕ → Entry → Bool
is_other w x = not (x.worker == 0) && x.worker == w

abbrev pub other_in : ℕ → ℕ → ℕ → Entry → List Receipt
other_in w k n x = if is_other w x then record { node = k; place = n; entry = x } ∷ [] else []

-- a worker's receipts of the entries of a node from the n-th on
abbrev pub others_in : ℕ → ℕ → ℕ → List Entry → List Receipt
others_in w k n [] = []
others_in w k n (x ∷ xs) = other_in w k n x ++ others_in w k (n + 1) xs

-- those of the nodes from the k-th on
abbrev pub others_of : ℕ → ℕ → List Record → List Receipt
others_of w k [] = []
others_of w k (r ∷ rs) = others_in w k 0 r.entries ++ others_of w (k + 1) rs

-- ---- the main worker, in the order of the plan

-- for each node the records tell of the main worker what is planned, and nothing is planned for other nodes
pub record IsToldBy (kept : List Record) (plan : List Planned) : Type 0 where
  pub nodes : (i : ℕ) (d : Planned) → i < length plan → (slice_index_or plan i d).node < length kept
  pub each : (k : ℕ) (d : Record) → k < length kept → IsPlanOf plan k (slice_index_or kept k d).entries

-- what is left of a record from a place on
abbrev pub left_at : List Record → List ℕ → ℕ → Record → List Entry
left_at kept next k d = drop (slice_index_or next k 0) (slice_index_or kept k d).entries

-- receipts of the main worker's entries up to the next places
pub record IsAhead (kept : List Record) (next : List ℕ) (receipts : List Receipt) : Type 0 where
  pub long : length next ≡ length kept
  pub shown : AllByRecursion (Shows kept) receipts
  pub names : (k : ℕ) (d : Record) → k < length kept → filter_map (named k) receipts ++ left_of 0 kept next k d ≡ holds_of 0 0 (slice_index_or kept k d).entries

abbrev pub nodes_of : List Receipt → List ℕ
nodes_of receipts = map (λ r. r.node) receipts

-- there's no such node, or no entry of the main worker is left in its record
abbrev pub IsOver : List Record → List ℕ → ℕ → Type 0
IsOver kept next k = (d : Record) → k < length kept → left_of 0 kept next k d ≡ []

-- the main worker's receipts for the first of a plan: of each node its first entries, in the order in which the plan names the nodes;
-- for all of the plan, or up to what no entry is left for
pub record AreByPlan (kept : List Record) (plan : List Planned) (receipts : List Receipt) : Type 0 where
  pub count : ℕ
  pub next : List ℕ
  pub below : count ≤ length plan
  pub ahead : IsAhead kept next receipts
  pub nodes : nodes_of receipts ≡ map (λ p. p.node) (take count plan)
  pub over : (d : Planned) → count < length plan → IsOver kept next (slice_index_or plan count d).node

-- from the next places on the records tell of the rest of a plan
pub record IsLeft (kept : List Record) (next : List ℕ) (rest : List Planned) : Type 0 where
  pub each : (k : ℕ) (d : Record) → k < length kept → IsPlanOf rest k (left_at kept next k d)

-- one more receipt, for what is planned next
pub record IsKeptNext (kept : List Record) (planned : Planned) (old new : List ℕ) (before after : List Receipt) : Type 0 where
  pub node : nodes_of after ≡ nodes_of before ++ planned.node ∷ []
  pub ahead : IsAhead kept old before → IsAhead kept new after
  pub left : (rest : List Planned) → IsLeft kept old (planned ∷ rest) → IsLeft kept new rest
  pub told : (rest : List Planned) → IsLeft kept old (planned ∷ rest) → map planned_of after ≡ map planned_of before ++ planned ∷ []

-- receipts of all that is planned, where the records tell of it
pub record AreMain (kept : List Record) (plan : List Planned) (receipts : List Receipt) : Type 0 where
  pub shown : AllByRecursion (Shows kept) receipts
  pub names : (k : ℕ) (d : Record) → k < length kept → filter_map (named k) receipts ≡ holds_of 0 0 (slice_index_or kept k d).entries
  pub told : map planned_of receipts ≡ plan
