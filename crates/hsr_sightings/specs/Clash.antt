-- Copies that say something else than the latest copy of their source and number.
use Rattle.std.specs.Prelude.{ℕ, ◌==◌, ◌&&◌, not, Bool, false, List, slice_get, Option, Some, None}
use Rattle.hsr_frame_copies.specs.Alike.{says_same}
use Rattle.hsr_frame_groups.specs.Frames.{CaughtFields, key_of}
use Rattle.hsr_recent_table.specs.declared.previous.Keyed.{Keyed}
use Rattle.hsr_sightings.specs.Copies.{is_recent}

-- the moment of a copy, and its source and its number
abbrev pub copy_key : CaughtFields → Keyed
copy_key c = record { at = c.at; key = key_of c }

-- an earlier copy says something else, less than 400 ms before
abbrev pub says_other : CaughtFields → CaughtFields → Bool
says_other latest c = is_recent latest c && not (says_same latest.copy c.copy)

abbrev pub says_other_at : Option CaughtFields → Option CaughtFields → Bool
says_other_at None c = false
says_other_at (Some latest) None = false
says_other_at (Some latest) (Some c) = says_other latest c

abbrev pub copy_found : List CaughtFields → Option ℕ → Option CaughtFields
copy_found copies None = None
copy_found copies (Some j) = slice_get copies j

-- the copy at an index begins a frame, and the one that is found says something else
abbrev pub clash_by : List CaughtFields → ℕ → Option ℕ → ℕ → Bool
clash_by copies first found i = (first == i) && says_other_at (copy_found copies found) (slice_get copies i)
