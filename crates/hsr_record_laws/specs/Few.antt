-- What a node remembers of a send, where few notes are made behind the first one of it. `Rivals.antt` says the same of sends that are listed.
--     IsYoung         a note is less than 400 milliseconds old
--     IsNotedOnce     no send is noted twice
--     AreFewSince     the notes from the first one of a send on are no more than a table has entries, and young
--     FewSinceKeep    where that is so nothing is forgotten that is needed
use Rattle.std.specs.Prelude.{ℕ, ◌+◌, ◌<◌, ◌≤◌, ◌≡◌, List, ◌∷◌, length, count_by, Some}
use Rattle.std.specs.List.{AllByRecursion}
use Rattle.hsr_frame.specs.Egress.{Egress}
use Rattle.hsr_duptable.specs.Notes.{entry_forget}
use Rattle.hsr_node.specs.Record.{Each, Noted, notes, now}
use Rattle.hsr_node.specs.declared.entry.Entry.{Entry}
use Rattle.hsr_node.specs.declared.event.Event.{Event}
use Rattle.hsr_node.specs.declared.event.Event.TheVariants.{Send, Supervise, Arrive, Age}
use Rattle.hsr_node.specs.declared.event.Probe.{Probe}
use Rattle.hsr_run_laws.specs.Premises.{is_note_of}
use Rattle.hsr_run_laws.specs.Run.{Run, owner_of}
use Rattle.hsr_record_laws.specs.Rivals.{IsRecordOf, RemembersEach, since}

abbrev pub IsYoung : ℕ → Noted → Type 0
IsYoung at note = at < note.moment + entry_forget

abbrev pub IsNotedOnce : List Noted → Type 0
IsNotedOnce notes = (send : Probe) → count_by (is_note_of (Some send)) notes ≤ 1

-- at each egress; where no send was noted twice so far
abbrev pub AreFewSince : Run → ℕ → List Entry → ℕ → Event → Type 0
AreFewSince run k past at (Arrive port copy) =
    (send : Probe) → copy.probe ≡ Some send → (e : Egress) → IsNotedOnce (notes (owner_of run k) e past) →
    (length (since send (notes (owner_of run k) e past)) ≤ run.capacity) × AllByRecursion (IsYoung at) (since send (notes (owner_of run k) e past))
AreFewSince run k past at event = Unit {0}

abbrev pub FewSinceKeep : Type 0
FewSinceKeep = (run : Run) (k : ℕ) (h : List Entry) → IsRecordOf run k h → Each (λ x past. AreFewSince run k past (now (x ∷ past)) x.event) h → RemembersEach run k h
