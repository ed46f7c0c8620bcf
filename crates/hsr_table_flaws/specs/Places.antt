-- What an index finds of the notes of an egress, the newest first. A place counts from the oldest note on.
--     place_in     where the latest note stands that passes a test
--     latest_in    the latest note with a source and number, and the latest of another send than that
--     is_kept      the note at a place is remembered
--     is_gone      a send was noted, and no such note is remembered
--     is_mixed_up  a note with a source and number is remembered, and is of another send
use Rattle.std.specs.Prelude.{ℕ, ◌-◌, ◌++◌, nat_eq, nat_le, ◌&&◌, not, Bool, false, if◌then◌else◌, List, [], ◌∷◌, length, slice_get, Option, Some, None}
use Rattle.std.specs.List.{list_any}
use Rattle.indexmap.specs.IndexMap.{IndexMap, get}
use Rattle.hsr_frame.specs.Address.{is_same_address}
use Rattle.hsr_duptable.specs.Key.{Key, is_same_key}
use Rattle.hsr_node.specs.Record.{Noted, remembered}
use Rattle.hsr_node.specs.declared.event.Probe.{Probe}
use Rattle.hsr_run_laws.specs.Premises.{is_mistaken, is_note_of}
use Rattle.hsr_run_laws.specs.Run.{is_same_send}
use Rattle.hsr_table_demand.specs.Needs.{is_unexpired}
use Rattle.hsr_table_flaws.specs.declared.marks.Latest.{Latest}

-- ---- places

abbrev pub place_in : (Noted → Bool) → List Noted → Option ℕ
place_in test [] = None
place_in test (note ∷ past) = if test note then Some (length past) else place_in test past

abbrev pub latest_in : Key → List Noted → Option Latest
latest_in key [] = None
latest_in key (note ∷ past) =
    if is_same_key note.key key then Some (record { place = length past; send = note.probe; other = place_in (is_mistaken key note.probe) past })
    else latest_in key past

-- where the latest note stands that is of another send
abbrev pub other_in : Option Probe → Option Latest → Option ℕ
other_in send None = None
other_in send (Some latest) = if is_same_send send latest.send then latest.other else Some latest.place

-- ---- what an index has

-- the place that it has for a send
abbrev pub place_of : {S : Type 0} → IndexMap (ℕ × ℕ) ℕ S → Probe → Option ℕ
place_of sends send = get (λ x y. nat_eq x.0 y.0 && nat_eq x.1 y.1) sends (send.node, send.place)

-- the latest note that it has for a source and number
abbrev pub latest_of : {S : Type 0} → IndexMap (List ℕ × ℕ) Latest S → Key → Option Latest
latest_of keys key = get (λ x y. is_same_address x.0 y.0 && nat_eq x.1 y.1) keys (key.src, key.seq)

-- ---- what is remembered

-- the send was noted, and no such note is remembered
abbrev pub is_gone : ℕ → ℕ → Option Probe → List Noted → Bool
is_gone capacity at probe notes = not (list_any (is_note_of probe) (remembered capacity at notes)) && list_any (is_note_of probe) notes

-- a note with this source and number is remembered, and is of another send
abbrev pub is_mixed_up : ℕ → ℕ → Option Key → Option Probe → List Noted → Bool
is_mixed_up capacity at None probe notes = false
is_mixed_up capacity at (Some key) probe notes = list_any (is_mistaken key probe) (remembered capacity at notes)

-- notes with the oldest first, after one more or none
abbrev pub noted_after : List Noted → Option Noted → List Noted
noted_after notes None = notes
noted_after notes (Some note) = notes ++ note ∷ []

abbrev pub is_kept_note : ℕ → ℕ → ℕ → Option Noted → Bool
is_kept_note capacity at count None = false
is_kept_note capacity at count (Some note) = nat_le count capacity && is_unexpired at note

-- of notes with the oldest first, the one at a place is remembered
abbrev pub is_kept : ℕ → ℕ → List Noted → Option ℕ → Bool
is_kept capacity at notes None = false
is_kept capacity at notes (Some place) = is_kept_note capacity at (length notes - place) (slice_get notes place)
