-- Numbers counted by what they are: each once, from the least on, with how often it is there.
use Rattle.std.specs.Prelude.{ℕ, ◌≡◌, ◌+◌, ◌-◌, ◌<◌, ◌==◌, ◌^◌, min, Bool, false, List, count_by, slice_get, Option, Some, None, Contains}
use Rattle.hsr_health.specs.declared.by_key.KeyCount.{KeyCount}

pub record AreCountsOf (keys : List ℕ) (counts : List KeyCount) : Type 0 where
  pub each : (k : ℕ) (own : KeyCount) → slice_get counts k ≡ Some own → own.count ≡ count_by (λ x. x == own.key) keys
  pub there : (k : ℕ) (own : KeyCount) → slice_get counts k ≡ Some own → Contains keys own.key
  pub rise : (j k : ℕ) (a b : KeyCount) → j < k → slice_get counts j ≡ Some a → slice_get counts k ≡ Some b → a.key < b.key
  pub all : (x : ℕ) → Contains keys x → (k : ℕ) × (own : KeyCount) × (slice_get counts k ≡ Some own) × (own.key ≡ x)

-- ---- how they are counted, of numbers in order: the last one once more, or a new one

abbrev pub has_key : ℕ → Option KeyCount → Bool
has_key key None = false
has_key key (Some own) = own.key == key

abbrev pub counted_more : KeyCount → KeyCount
counted_more own = record { key = own.key; count = min (own.count + 1) (2 ^ 64 - 1) }
