-- Copies that were overtaken, by the indexes of the greatest numbers so far.
use Rattle.std.specs.Prelude.{ℕ, ◌≡◌, ◌+◌, ◌≤◌, ◌<◌, ◌==◌, ◌&&◌, not, Bool, false, if◌then◌else◌, List, length, slice_get, slice_index_or, Option, Some, None}
use Rattle.hsr_frame_groups.specs.Frames.{CaughtFields, past_of}
use Rattle.hsr_recent_table.specs.declared.previous.Keyed.{Keyed}
use Rattle.hsr_sightings.specs.Copies.{is_passed, top_in}
use Rattle.hsr_sightings.specs.Keys.{beside_key}
use Rattle.hsr_sightings.specs.Clash.{copy_found}
use Rattle.hsr_sightings.specs.Ring.{forget_time}
use Rattle.hsr_sightings.specs.declared.overtaken.Overtaken.{Overtaken}

-- the moment of a copy, and its direction, priority and source
abbrev pub beside_keyed : CaughtFields → Keyed
beside_keyed c = record { at = c.at; key = beside_key c }

-- the greatest so far at the previous one
abbrev pub top_by : List (Option ℕ) → Option ℕ → Option ℕ
top_by tops None = None
top_by tops (Some j) = slice_index_or tops j None

-- the copy at an index is behind the one that is found
abbrev pub is_passed_by : Option CaughtFields → Option CaughtFields → Bool
is_passed_by top None = false
is_passed_by top (Some c) = is_passed top c

abbrev pub is_passed_at : List CaughtFields → Option ℕ → ℕ → Bool
is_passed_at copies top i = is_passed_by (copy_found copies top) (slice_get copies i)

-- the greatest so far, with the copy at an index, if that is the first of its frame on its direction
abbrev pub top_after : List CaughtFields → ℕ → Option ℕ → ℕ → Option ℕ
top_after copies carried top i = if (carried == 0) && not (is_passed_at copies top i) then Some i else top

-- an index tells of a copy; where there is none, there is no such copy, or it came 400 ms ago or more
abbrev pub IsForgotten : ℕ → Option CaughtFields → Type 0
IsForgotten at None = Unit {0}
IsForgotten at (Some top) = top.at + forget_time ≤ at

abbrev pub TellsTop : List CaughtFields → ℕ → Option CaughtFields → Option ℕ → Type 0
TellsTop copies at top None = IsForgotten at top
TellsTop copies at top (Some k) = slice_get copies k ≡ top

-- of each copy before an index the greatest so far, with that copy
pub record AreTops (copies : List CaughtFields) (i : ℕ) (tops : List (Option ℕ)) : Type 0 where
  pub each : (j : ℕ) (c : CaughtFields) → j < i → slice_get copies j ≡ Some c → TellsTop copies c.at (top_in (beside_key c) (past_of copies (j + 1))) (slice_index_or tops j None)
  pub long : length tops ≡ i

-- what is told of the copy at an index, by how often its direction carried its frame before
abbrev pub overtaken_by : ℕ → ℕ → Option CaughtFields → Option CaughtFields → Option Overtaken
overtaken_by i carried top None = None
overtaken_by i carried None (Some c) = None
overtaken_by i carried (Some top) (Some c) = if (carried == 0) && is_passed (Some top) c then Some (record { copy = i; behind = top.copy.seq }) else None

abbrev pub overtaken_in : List CaughtFields → ℕ → Option ℕ → ℕ → Option Overtaken
overtaken_in copies carried top i = overtaken_by i carried (copy_found copies top) (slice_get copies i)
