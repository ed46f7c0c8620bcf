-- Where spans stand among all.
--     Rise        each send comes behind those before it
--     AreWithin   those that pass a test stand from one place on, before another
--     most_by     how many sends a node numbered at most, by what was counted
use Rattle.std.specs.Prelude.{ℕ, ◌≡◌, ◌-◌, ◌<◌, ◌≤◌, ◌^◌, nat_lt, Bool, true, if◌then◌else◌, List, Option, Some, None, slice_get, slice_index}
use Rattle.hsr_plays.specs.declared.span.SendSpan.{SendSpan}

abbrev pub Rise : List SendSpan → Type 0
Rise spans = (j k : ℕ) (a b : SendSpan) → j < k → slice_get spans j ≡ Some a → slice_get spans k ≡ Some b → a.index < b.index

abbrev pub AreWithin : (SendSpan → Bool) → List SendSpan → ℕ → ℕ → Type 0
AreWithin passes spans low high = (j : ℕ) (a : SendSpan) → slice_get spans j ≡ Some a → passes a ≡ true → (low ≤ j) × (j < high)

-- of a node that no topology has nothing is known
abbrev pub most_by : Option ℕ → List ℕ → ℕ
most_by None counts = 0
most_by (Some node) counts = if nat_lt node 64 then slice_index counts node else 2 ^ 64 - 1
