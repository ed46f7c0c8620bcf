-- What a contract sees of a `DupTable`.
use Rattle.std.specs.Prelude.{ℕ, ◌≡◌, ◌+◌, ◌≤◌, if◌then◌else◌, Bool, List, [], ◌∷◌, ◌++◌}
use Rattle.hsr_duptable.specs.Notes.{has_key, unexpired_notes, last_notes, IsRising, entry_forget}
use Rattle.hsr_duptable.specs.Key.{Key}
use Rattle.hsr_duptable.specs.declared.note.Note.{Note}

-- the notes held, the oldest first; how long one is remembered; the latest moment; how many notes were ever made
pub record Table : Type 0 where
  pub notes : List Note
  pub forget : ℕ
  pub last : ℕ
  pub noted : ℕ

-- a duplicate table has 1 to 65535 entries, fewer than there are sequence numbers (IEC 62439-3 clause 5)
abbrev pub IsTableSize : ℕ → Type 0
IsTableSize entries = (1 ≤ entries) × (entries ≤ 65535)

abbrev pub empty_table : ℕ → Table
empty_table forget = record { notes = []; forget = forget; last = 0; noted = 0 }

-- an unexpired note that is held has the key
abbrev pub remembers : Table → Key → ℕ → Bool
remembers table key at = has_key key (unexpired_notes table.forget at table.notes)

-- the table after a note: it stands last, and of all the last `capacity` stay
abbrev pub after_note : ℕ → Table → Key → ℕ → Table
after_note capacity table key at =
    record {
      notes = last_notes capacity (table.notes ++ record { key = key; moment = at } ∷ []);
      forget = table.forget;
      last = at;
      noted = table.noted + 1;
    }

-- the table after a frame that passes or doesn't
abbrev pub after_pass : ℕ → Table → Bool → Key → ℕ → Table
after_pass capacity table passes key at = if passes then after_note capacity table key at else table

-- the table after ageing: the unexpired notes stay
abbrev pub after_age : Table → ℕ → Table
after_age table at =
    record {
      notes = unexpired_notes table.forget at table.notes;
      forget = table.forget;
      last = at;
      noted = table.noted;
    }

-- there is room for just `capacity` notes, and the moments of those held never fall
pub record IsSound (capacity room : ℕ) (notes : List Note) (last : ℕ) : Type 0 where
  pub least : 1 ≤ capacity
  pub most : capacity ≤ 65535
  pub exact : room ≡ capacity
  pub rising : IsRising 0 notes last

-- A node's table: it forgets after `entry_forget` microseconds, its last moment isn't ahead of the node's, and no more was
-- noted than the node accepted.
pub record IsWithin (table : Table) (moment accepted : ℕ) : Type 0 where
  pub forget : table.forget ≡ entry_forget
  pub last : table.last ≤ moment
  pub noted : table.noted ≤ accepted
