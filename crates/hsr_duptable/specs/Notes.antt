-- Notes of the frames that passed, the oldest first.
use Rattle.std.specs.Prelude.{ℕ, ◌-◌, ◌≤◌, Bool, List, [], ◌∷◌, length, drop, filter, nat_lt, if◌then◌else◌}
use Rattle.std.specs.List.{list_any}
use Rattle.hsr_duptable.specs.Key.{Key, is_same_key}
use Rattle.hsr_duptable.specs.declared.note.Note.{Note}

-- for how many microseconds a frame is remembered: the EntryForgetTime of IEC 62439-3 clause 5
abbrev pub entry_forget : ℕ
entry_forget = 400000

-- what a frame leaves in a log: its note, or none
abbrev pub note_if : Bool → Key → ℕ → List Note
note_if noted key now = if noted then record { key = key; moment = now } ∷ [] else []

-- one of the notes has the key
abbrev pub has_key : Key → List Note → Bool
has_key key notes = list_any (λ note. is_same_key note.key key) notes

-- less than `forget` has passed since the note
abbrev pub is_unexpired : ℕ → ℕ → Note → Bool
is_unexpired forget at note = nat_lt (at - note.moment) forget

abbrev pub unexpired_notes : ℕ → ℕ → List Note → List Note
unexpired_notes forget at notes = filter (is_unexpired forget at) notes

-- the last `count` notes, all of them where they are fewer
abbrev pub last_notes : ℕ → List Note → List Note
last_notes count notes = drop (length notes - count) notes

-- no moment is below the one before it, none below `first`, and none above `last`
abbrev pub IsRising : ℕ → List Note → ℕ → Type 0
IsRising first [] last = first ≤ last
IsRising first (note ∷ notes) last = (first ≤ note.moment) × IsRising note.moment notes last
