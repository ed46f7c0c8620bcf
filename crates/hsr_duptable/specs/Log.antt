-- A table beside the log of all its notes, which is never shortened.
use Rattle.std.specs.Prelude.{◌≡◌, ℕ, ◌-◌, ◌≤◌, List, [], ◌∷◌, ◌++◌, length}
use Rattle.hsr_duptable.specs.Notes.{has_key, unexpired_notes, last_notes, IsRising}
use Rattle.hsr_duptable.specs.Table.{Table, empty_table, remembers, after_note, after_age}
use Rattle.hsr_duptable.specs.Key.{Key}
use Rattle.hsr_duptable.specs.declared.note.Note.{Note}

-- of all notes the last `capacity`, of these the unexpired ones
abbrev pub remembered : ℕ → ℕ → List Note → ℕ → List Note
remembered capacity forget log at = unexpired_notes forget at (last_notes capacity log)

-- The table holds the last notes of the log, as many as there is room for,
-- but for some that are expired from its latest moment on.
pub record StandsFor (capacity : ℕ) (table : Table) (log : List Note) : Type 0 where
  pub older : List Note
  pub split : log ≡ older ++ table.notes
  pub fits : length table.notes ≤ capacity
  pub gone : (at : ℕ) → table.last ≤ at → unexpired_notes table.forget at (last_notes (capacity - length table.notes) older) ≡ []
  pub rising : IsRising 0 table.notes table.last
  pub counted : table.noted ≡ length log

-- what is done to a table
pub data Call : Type 0 where
  noting : Key → ℕ → Call
  ageing : ℕ → Call

abbrev pub moment_of : Call → ℕ
moment_of (noting key at) = at
moment_of (ageing at) = at

-- no moment is below the one before it
abbrev pub IsTimely : ℕ → List Call → Type 0
IsTimely last [] = Unit {0}
IsTimely last (call ∷ calls) = (last ≤ moment_of call) × IsTimely (moment_of call) calls

-- the table after the calls
abbrev pub after_calls : ℕ → Table → List Call → Table
after_calls capacity table [] = table
after_calls capacity table (noting key at ∷ calls) = after_calls capacity (after_note capacity table key at) calls
after_calls capacity table (ageing at ∷ calls) = after_calls capacity (after_age table at) calls

-- the notes among the calls
abbrev pub log_of : List Call → List Note
log_of [] = []
log_of (noting key at ∷ calls) = record { key = key; moment = at } ∷ log_of calls
log_of (ageing at ∷ calls) = log_of calls

-- After any calls a table remembers a key exactly where a remembered note of the log has it.
abbrev pub AnswersAsLog : ℕ → ℕ → Type 0
AnswersAsLog capacity forget =
    (calls : List Call) → IsTimely 0 calls → (key : Key) (at : ℕ) →
    let table = after_calls capacity (empty_table forget) calls in
    table.last ≤ at →
    remembers table key at ≡ has_key key (remembered capacity forget (log_of calls) at)
