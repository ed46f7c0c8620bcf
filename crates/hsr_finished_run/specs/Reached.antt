-- How far the receipts of each worker have come in the records.
--     IsKeptBy      a worker's receipts are its entries
--     AllFollow     what is left of each worker's receipts tells whether they are
--     IsMarked      workers' receipts that were right so far, and no longer are
use Rattle.std.specs.Prelude.{ℕ, ◌<◌, ◌≡◌, ◌↔◌, true, false, List, [], ◌∷◌, ◌++◌, length, slice_index_or}
use Rattle.hsr_node.specs.Kept.{Receipts, Record}
use Rattle.hsr_node.specs.declared.entry.Receipt.{Receipt}
use Rattle.hsr_finished_run.specs.Next.{AreNext, holds_from, left_of}
use Rattle.hsr_run_index.specs.Turns.{place_at}
use Rattle.hsr_finished_run.specs.Passes.{receipts_of}
use Rattle.hsr_finished_run.specs.Receipts.{IsPlaced, IsShown}
use Rattle.hsr_finished_run.specs.declared.reached.Reached.{Reached}

-- a worker's receipts are its entries, each once, in record order per node
abbrev pub IsKeptBy : List Record → List Receipts → ℕ → Type 0
IsKeptBy kept passes worker = IsShown kept worker passes (length passes) × IsPlaced kept worker passes (length kept)

-- nothing was received
pub record IsStart (r : Reached) : Type 0 where
  pub first : (node : ℕ) → place_at r.next node ≡ 0
  pub right : r.is_right ≡ true

-- one more worker, of which nothing was received
pub record IsMore (old new : List Reached) : Type 0 where
  pub more : Reached
  pub start : IsStart more
  pub is : new ≡ old ++ more ∷ []

-- what is left of a worker's receipts tells whether all are right
pub record Follows (kept : List Record) (passes : List Receipts) (worker : ℕ) (rest : List Receipt) (r : Reached) : Type 0 where
  pub right : r.is_right ≡ true → AreNext worker kept (place_at r.next) rest ↔ IsKeptBy kept passes worker
  pub wrong : r.is_right ≡ false → IsKeptBy kept passes worker → ⊥

-- so it is with each, where these passes are left
pub record AllFollow (kept : List Record) (passes rest : List Receipts) (rs : List Reached) : Type 0 where
  pub each : (w : ℕ) (d : Reached) → w < length rs → Follows kept passes w (receipts_of w rest) (slice_index_or rs w d)

-- no entry of a worker is left in the records of the first n nodes
abbrev pub AreUsedUp : List Record → ℕ → List ℕ → ℕ → Type 0
AreUsedUp kept w next n = (k : ℕ) (d : Record) → k < n → left_of w kept next k d ≡ []

-- the same of a worker that has come up to these places
abbrev pub HasUsedUp : List Record → ℕ → (ℕ → ℕ) → ℕ → Type 0
HasUsedUp kept w next n = (k : ℕ) (d : Record) → k < n → holds_from w (slice_index_or kept k d).entries (next k) ≡ []

-- those of which P doesn't hold are no longer right, and nothing else changes
pub record IsMarked (P : ℕ → (ℕ → ℕ) → Type 0) (old new : List Reached) : Type 0 where
  pub count : length new ≡ length old
  pub next : (w : ℕ) (d : Reached) → w < length old → (slice_index_or new w d).next ≡ (slice_index_or old w d).next
  pub right : (w : ℕ) (d : Reached) → w < length old →
      ((slice_index_or new w d).is_right ≡ true) ↔ (((slice_index_or old w d).is_right ≡ true) × P w (place_at (slice_index_or old w d).next))

-- right are just those whose receipts are their entries
pub record AreTold (kept : List Record) (passes : List Receipts) (count : ℕ) (rs : List Reached) : Type 0 where
  pub long : length rs ≡ count
  pub each : (w : ℕ) (d : Reached) → w < length rs → ((slice_index_or rs w d).is_right ≡ true) ↔ IsKeptBy kept passes w

-- the first that isn't right
pub record IsFirstLost (rs : List Reached) (worker : ℕ) : Type 0 where
  pub below : worker < length rs
  pub here : (d : Reached) → (slice_index_or rs worker d).is_right ≡ false
  pub before : (w : ℕ) (d : Reached) → w < worker → (slice_index_or rs w d).is_right ≡ true
