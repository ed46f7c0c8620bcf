-- The sightings of the copies before an index, one copy after the other.
use Rattle.std.specs.Prelude.{ℕ, ◌≡◌, ◌<◌, ◌≤◌, List, length, slice_get, Option, Some, None}
use Rattle.hsr_frame_groups.specs.Frames.{CaughtFields, past_of}
use Rattle.hsr_sightings.specs.Copies.{begun_at}
use Rattle.hsr_sightings.specs.Read.{IsBegun, IsSameSighting, IsSightingOf, Rise}
use Rattle.hsr_sightings.specs.Ring.{Ring}
use Rattle.hsr_sightings.specs.Fields.{Sighting}

-- what is found before an index, as `AreSightings` of all copies, and of each point how many sightings began there
pub record AreFound (ring : Ring) (copies : List CaughtFields) (i : ℕ) (all : List Sighting) (of_copy begun : List ℕ) : Type 0 where
  pub each : (k : ℕ) (s : Sighting) → slice_get all k ≡ Some s → (s.first < i) × IsBegun ring copies (past_of copies i) s
  pub order : Rise all
  pub own : (j : ℕ) (c : CaughtFields) → j < i → slice_get copies j ≡ Some c → (k : ℕ) × (slice_get of_copy j ≡ Some k) × IsSightingOf ring copies all j c k
  pub long : length of_copy ≡ length copies
  pub few : length all ≤ i
  pub counts : (point n : ℕ) → slice_get begun point ≡ Some n → n ≡ length (begun_at ring point (past_of copies i))
  pub points : length begun ≡ 64

-- What is known of the copy at an index by the previous copy of its frame at its point: there is none, or there is that one.
abbrev pub IsPreviousSighting : Ring → List CaughtFields → ℕ → Option ℕ → Type 0
IsPreviousSighting ring copies i None = (k : ℕ) (b c : CaughtFields) → k < i → slice_get copies k ≡ Some b → slice_get copies i ≡ Some c → IsSameSighting ring copies k i b c → ⊥
IsPreviousSighting ring copies i (Some j) = (j < i) × ((b c : CaughtFields) → slice_get copies j ≡ Some b → slice_get copies i ≡ Some c → IsSameSighting ring copies j i b c)
