-- Of each thing, the previous one with its key.
--     IsPreviousOf   what is found for a thing at an index: the index of the latest one before it that has its key; or nothing,
--                    where each of them is a horizon older or more
use Rattle.std.specs.Prelude.{ℕ, ◌≡◌, ◌≢◌, ◌+◌, ◌<◌, ◌≤◌, List, slice_get, Option, Some, None}
use Rattle.hsr_recent_table.specs.declared.previous.Keyed.{Keyed}

-- the thing at an index has a key
pub record HasKey (things : List Keyed) (key k : ℕ) : Type 0 where
  pub thing : Keyed
  pub there : slice_get things k ≡ Some thing
  pub same : thing.key ≡ key

-- the thing at an index has another one
abbrev pub HasOther : List Keyed → ℕ → ℕ → Type 0
HasOther things key k = (t : Keyed) → slice_get things k ≡ Some t → t.key ≢ key

-- what is true of the moments of the things before an index that have a key
abbrev pub EachMoment : List Keyed → ℕ → ℕ → (ℕ → Type 0) → Type 0
EachMoment things key i P = (k : ℕ) (t : Keyed) → k < i → slice_get things k ≡ Some t → t.key ≡ key → P t.at

-- the thing at an index is the latest one before another index that has a key
pub record IsLatestBefore (things : List Keyed) (key i j : ℕ) : Type 0 where
  pub below : j < i
  pub has : HasKey things key j
  pub others : (k : ℕ) → j < k → k < i → HasOther things key k

abbrev pub IsPreviousOf : ℕ → List Keyed → ℕ → Keyed → Option ℕ → Type 0
IsPreviousOf horizon things i thing None = EachMoment things thing.key i (λ at. at + horizon ≤ thing.at)
IsPreviousOf horizon things i thing (Some j) = IsLatestBefore things thing.key i j

-- no thing comes before one that stands in front of it
abbrev pub AreInTime : List Keyed → Type 0
AreInTime things = (i : ℕ) (a b : Keyed) → slice_get things i ≡ Some a → slice_get things (i + 1) ≡ Some b → a.at ≤ b.at
