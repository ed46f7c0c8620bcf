-- Which nodes need a stream and missed a send of it.
--     misses       a node needs a send and missed it
--     one_missed   it does of one of a row's sends
use Rattle.std.specs.Prelude.{ℕ, ◌≡◌, ◌<◌, ◌+◌, ◌==◌, ◌&&◌, ◌||◌, Bool, false, List, [], ◌∷◌, length, slice_get, Option, Some}
use Rattle.std.specs.List.{list_any}
use Rattle.hsr_bitset.specs.Numbers.{has}
use Rattle.hsr_deliveries.specs.Delivered.{Delivery}
use Rattle.hsr_plan_sweep.specs.Audience.{Audience, needs}
use Rattle.hsr_plan_sweep.specs.Counting.{stream_if}
use Rattle.hsr_plan_report.specs.Streams.{counts_at}

abbrev pub misses : Audience → Option ℕ → Delivery → ℕ → Bool
misses a stream d k = list_any (λ n. n == k) d.missed && needs a stream d.at k

-- of sends that follow i others, where these are the streams of all
abbrev pub one_missed : Audience → List (Option ℕ) → ℕ → ℕ → ℕ → ℕ → List Delivery → Bool
one_missed a streams last row k i [] = false
one_missed a streams last row k i (d ∷ ds) = (counts_at streams last row i && misses a (stream_if (slice_get streams i)) d k) || one_missed a streams last row k (i + 1) ds

-- ---- how they are kept

-- a set for each row, of numbers below 512
abbrev pub AreMissing : Audience → List (Option ℕ) → ℕ → List Delivery → List (List ℕ) → Type 0
AreMissing a streams last ds sets = (row : ℕ) (set : List ℕ) → slice_get sets row ≡ Some set → (k : ℕ) → k < 512 → has set k ≡ one_missed a streams last row k 0 ds

-- one more send
pub record Misses (row : ℕ) (test : ℕ → Bool) (old new : List (List ℕ)) : Type 0 where
  pub long : length new ≡ length old
  pub each : (r : ℕ) (before after : List ℕ) → slice_get old r ≡ Some before → slice_get new r ≡ Some after → (k : ℕ) → k < 512 → has after k ≡ (has before k || ((row == r) && test k))
