-- The places of a record at which a worker's entries stand, and which comes next.
--     holds_from    the places of its entries from a place on
--     IsNext        the first of them
--     IsBehind      the place behind its last entry before a place
use Rattle.std.specs.Prelude.{ℕ, ◌+◌, ◌<◌, ◌≤◌, ◌≡◌, ◌==◌, if◌then◌else◌, nat_eq, List, [], ◌∷◌, ◌++◌, drop, length, slice_index_or, unwrap_or, Vec}
use Rattle.std.specs.Global.{Global}
use Rattle.std.specs.Map.{lookup}
use Rattle.hsr_node.specs.Kept.{Record}
use Rattle.hsr_node.specs.declared.entry.Entry.{Entry}

-- the places at which a worker's entries stand, where they are numbered from n on
abbrev pub holds_of : ℕ → ℕ → List Entry → List ℕ
holds_of worker n [] = []
holds_of worker n (x ∷ xs) = (if x.worker == worker then n ∷ [] else []) ++ holds_of worker (n + 1) xs

-- the places from one on at which a worker's entries stand
abbrev pub holds_from : ℕ → List Entry → ℕ → List ℕ
holds_from worker entries from = holds_of worker from (drop from entries)

-- the first of them
pub record IsNext (worker : ℕ) (entries : List Entry) (from place : ℕ) : Type 0 where
  pub below : place < length entries
  pub holds : holds_from worker entries from ≡ place ∷ holds_from worker entries (place + 1)

-- ---- by an index

-- no entry of a worker stands from a place on and before another
abbrev pub IsPassed : List Entry → ℕ → ℕ → ℕ → Type 0
IsPassed entries worker from end = (p : ℕ) (d : Entry) → p < end → from ≤ p → (slice_index_or entries p d).worker ≡ worker → ⊥

-- the place behind a worker's last entry before a place; 0 where there is none
pub record IsBehind (worker : ℕ) (entries : List Entry) (place behind : ℕ) : Type 0 where
  pub passed : IsPassed entries worker behind place
  pub last : (p : ℕ) (d : Entry) → behind ≡ p + 1 → (p < place) × ((slice_index_or entries p d).worker ≡ worker)

-- for each of the first n entries, that of its own worker
pub record AreBehindIn (entries : List Entry) (behind : List ℕ) (n : ℕ) : Type 0 where
  pub long : length behind ≡ n
  pub each : (p : ℕ) (d : Entry) → p < n → IsBehind (slice_index_or entries p d).worker entries p (slice_index_or behind p 0)

-- so for each of the first n records
pub record AreBehind (kept : List Record) (behind : List (Vec ℕ Global)) (n : ℕ) : Type 0 where
  pub long : length behind ≡ n
  pub each : (k : ℕ) (d : Record) (v : Vec ℕ Global) → k < n →
      AreBehindIn (slice_index_or kept k d).entries (slice_index_or behind k v).items (length (slice_index_or kept k d).entries)

-- the place of a number, by an index; 0 where it has none
abbrev pub place_at : List (ℕ × ℕ) → ℕ → ℕ
place_at places number = unwrap_or (lookup (nat_eq number) places) 0
