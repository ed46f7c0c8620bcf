-- How many frames began at a point in the last 400 ms, one copy after the other.
use Rattle.std.specs.Prelude.{ℕ, ◌≡◌, ◌+◌, ◌<◌, ◌≤◌, Bool, List, length, filter, reverse, slice_get, Option, Some, None}
use Rattle.std.specs.List.{AllZip}
use Rattle.hsr_frame_groups.specs.Frames.{CaughtFields, past_of}
use Rattle.hsr_sightings.specs.Copies.{begun_at, crowd}
use Rattle.hsr_sightings.specs.Read.{IsFull, most_in}
use Rattle.hsr_sightings.specs.Ring.{Ring, forget_time}
use Rattle.hsr_sightings.specs.declared.late.Crowd.{Crowd}

-- a frame that began at a point: when, and the index of its copy
pub record Begun : Type 0 where
  pub at : ℕ
  pub copy : ℕ

abbrev pub moment_in : Option CaughtFields → ℕ
moment_in None = 0
moment_in (Some c) = c.at

-- by the index of its copy
abbrev pub begun_by : List CaughtFields → ℕ → Begun
begun_by copies copy = record { at = moment_in (slice_get copies copy); copy = copy }

-- the first thing from an index on that came less than 400 ms before a moment
pub record IsRecentFrom (things : List Begun) (from at found : ℕ) : Type 0 where
  pub behind : from ≤ found
  pub within : found ≤ length things
  pub old : (k : ℕ) (b : Begun) → from ≤ k → k < found → slice_get things k ≡ Some b → b.at + forget_time ≤ at
  pub recent : (b : Begun) → slice_get things found ≡ Some b → at < b.at + forget_time

-- a thing is kept of a copy
abbrev pub IsKeptOf : List CaughtFields → Begun → CaughtFields → Type 0
IsKeptOf copies b c = (slice_get copies b.copy ≡ Some c) × (b.at ≡ c.at)

-- What is kept of the frames that began at a point before an index, in the order of time: those in front of a place are forgotten.
pub record IsCrowding (ring : Ring) (copies : List CaughtFields) (point i : ℕ) (things : List Begun) (from : ℕ) (most : Crowd) : Type 0 where
  pub counts : (test : ℕ → Bool) → length (filter (λ b. test b.at) things) ≡ length (filter (λ c. test c.at) (begun_at ring point (past_of copies i)))
  pub rises : (j k : ℕ) (a b : Begun) → j < k → slice_get things j ≡ Some a → slice_get things k ≡ Some b → a.at ≤ b.at
  pub past : (k n : ℕ) (b : Begun) (c : CaughtFields) → slice_get things k ≡ Some b → i ≤ n → slice_get copies n ≡ Some c → b.at ≤ c.at
  pub old : (k n : ℕ) (b : Begun) (c : CaughtFields) → k < from → slice_get things k ≡ Some b → i ≤ n → slice_get copies n ≡ Some c → b.at + forget_time ≤ c.at
  pub within : from ≤ length things
  pub frames : most.frames ≡ most_in ring point (crowd ring) (past_of copies i)
  pub begun : AllZip (IsKeptOf copies) things (reverse (begun_at ring point (past_of copies i)))
  pub full : 0 < most.frames → IsFull ring copies point most
