-- How often a direction carried a frame, by keys.
use Rattle.std.specs.Prelude.{ℕ, ◌≡◌, ◌+◌, ◌<◌, ◌^◌, List, length, reverse, slice_get, slice_index, Option, Some, None}
use Rattle.hsr_frame_groups.specs.Frames.{CaughtFields}
use Rattle.hsr_recent_table.specs.declared.previous.Keyed.{Keyed}
use Rattle.hsr_sightings.specs.Copies.{most_carried, times_before}
use Rattle.hsr_sightings.specs.Keys.{carried_key}
use Rattle.hsr_sightings.specs.Read.{TellsEach}
use Rattle.hsr_sightings.specs.declared.again.Carried.{Carried}

-- the moment of a copy, and its frame and its direction
abbrev pub carried_keyed : ℕ → CaughtFields → Keyed
carried_keyed first c = record { at = c.at; key = carried_key first c.direction }

-- one more than of the previous one
abbrev pub count_by_previous : List ℕ → Option ℕ → ℕ
count_by_previous counts None = 0
count_by_previous counts (Some j) = slice_index counts j + 1

-- numbers of 32 bits have room for it
abbrev pub IsCountedBy : List ℕ → Option ℕ → ℕ → Type 0
IsCountedBy counts found count = count_by_previous counts found < 2 ^ 32 → count ≡ count_by_previous counts found

-- of each direction the most copies of a frame
abbrev pub AreMost : List CaughtFields → List ℕ → Type 0
AreMost copies most = (direction n : ℕ) → slice_get most direction ≡ Some n → n ≡ most_carried direction copies

-- how often directions carried frames: of each copy, and of each of 512 directions the most
pub record IsCarried (copies : List CaughtFields) (carried : Carried) : Type 0 where
  pub times : TellsEach times_before copies carried.times.items
  pub most : AreMost (reverse copies) carried.most.items
  pub long : length carried.most.items ≡ 512
