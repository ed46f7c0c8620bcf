-- What a node remembers of a send, where few other sends come between: a law over the record of one node, whether its run is closed or not.
--     IsRecordOf    a record of a node of a run
--     since         the notes from the first one of a send on
--     AreRivals     sends among which each of some notes is found, and how old these are
--     RivalsKeep    where no more sends come between than a table has entries, nothing is forgotten that is needed
use Rattle.std.specs.Prelude.{ℕ, ◌+◌, ◌<◌, ◌≤◌, ◌≡◌, true, if◌then◌else◌, List, [], ◌∷◌, length, Some}
use Rattle.std.specs.List.{AllByRecursion, list_any}
use Rattle.hsr_frame.specs.Egress.{Egress}
use Rattle.hsr_duptable.specs.Notes.{entry_forget}
use Rattle.hsr_node.specs.Record.{Each, IsLegal, Noted, notes, now}
use Rattle.hsr_node.specs.declared.entry.Entry.{Entry}
use Rattle.hsr_node.specs.declared.event.Event.{Event}
use Rattle.hsr_node.specs.declared.event.Event.TheVariants.{Send, Supervise, Arrive, Age}
use Rattle.hsr_node.specs.declared.event.Probe.{Probe}
use Rattle.hsr_run_laws.specs.Closed.{IsOfSend}
use Rattle.hsr_run_laws.specs.Premises.{NumbersFirst, Remembers, is_note_of}
use Rattle.hsr_run_laws.specs.Run.{Run, owner_of}

-- ---- a record

-- what comes is of a send
abbrev pub ComesOfSend : Run → Event → Type 0
ComesOfSend run (Arrive port copy) = IsOfSend run copy
ComesOfSend run event = Unit {0}

-- each outcome is what the past below it answers; what came is of sends; and a RedBox numbered first
pub record IsRecordOf (run : Run) (k : ℕ) (h : List Entry) : Type 0 where
  pub legal : IsLegal run.capacity (owner_of run k) h
  pub of_send : Each (λ x past. ComesOfSend run x.event) h
  pub first : Each (λ x past. NumbersFirst run (owner_of run k) past x.event x.outcome) h

abbrev pub RemembersEach : Run → ℕ → List Entry → Type 0
RemembersEach run k h = Each (λ x past. Remembers run.capacity (owner_of run k) past (now (x ∷ past)) x.event) h

-- ---- rivals

-- of notes, the newest first, those from the first one of a send on
abbrev pub since : Probe → List Noted → List Noted
since send [] = []
since send (note ∷ notes) = if list_any (is_note_of (Some send)) (note ∷ notes) then note ∷ since send notes else []

-- a note is of one of these sends, and is less than 400 milliseconds old
abbrev pub IsAmong : List Probe → ℕ → Noted → Type 0
IsAmong sends at note = (list_any (λ send. is_note_of (Some send) note) sends ≡ true) × (at < note.moment + entry_forget)

-- no more sends than a table has entries, and each of the notes is of one of them, and that young
abbrev pub AreRivals : ℕ → List Probe → ℕ → List Noted → Type 0
AreRivals capacity sends at notes = (length sends ≤ capacity) × AllByRecursion (IsAmong sends at) notes

-- at each egress the notes from the first one of a send on are of its rivals
abbrev pub HasRivals : Run → ℕ → (Probe → List Probe) → List Entry → ℕ → Event → Type 0
HasRivals run k rivals past at (Arrive port copy) =
    (send : Probe) → copy.probe ≡ Some send → (e : Egress) → AreRivals run.capacity (rivals send) at (since send (notes (owner_of run k) e past))
HasRivals run k rivals past at event = Unit {0}

-- So nothing that is needed is forgotten.
abbrev pub RivalsKeep : Type 0
RivalsKeep = (run : Run) (k : ℕ) (rivals : Probe → List Probe) (h : List Entry) → IsRecordOf run k h →
    Each (λ x past. HasRivals run k rivals past (now (x ∷ past)) x.event) h → RemembersEach run k h
