-- How many entries the duplicate tables of a run needed.
--     Needs             an arrival needs n of the youngest notes of an egress
--     IsMost            the greatest number that an arrival needs, and where first
--     IsMostAt          that of one node
--     NothingExpired    nothing was forgotten by age
--     LegalWithNeeded   the same records are legal with all tables that are as large
--     IsJustEnough      nothing that was needed was forgotten where tables have n entries or more
use Rattle.std.specs.Prelude.{ℕ, ◌+◌, ◌-◌, ◌<◌, ◌≤◌, ◌≡◌, ◌↔◌, nat_lt, Bool, true, false, max, List, [], ◌∷◌, ◌++◌, length, reverse, take, slice_index_or, Option, Some, None}
use Rattle.std.specs.List.{list_any}
use Rattle.hsr_frame.specs.Egress.{Egress}
use Rattle.hsr_duptable.specs.Notes.{entry_forget}
use Rattle.hsr_tag.specs.Seen.{classified}
use Rattle.hsr_node.specs.Flow.{wants}
use Rattle.hsr_node.specs.Record.{Each, IsLegal, Noted, Owner, knows, notes, now}
use Rattle.hsr_node.specs.declared.entry.Entry.{Entry}
use Rattle.hsr_node.specs.declared.event.Carried.{Carried}
use Rattle.hsr_node.specs.declared.event.Event.{Event}
use Rattle.hsr_node.specs.declared.event.Event.TheVariants.{Arrive}
use Rattle.hsr_node.specs.declared.event.Probe.{Probe}
use Rattle.hsr_run_laws.specs.Closed.{IsClosed}
use Rattle.hsr_run_laws.specs.Premises.{NothingForgotten, NothingMistaken, NumberedFirst, is_note_of, is_on_ring}
use Rattle.hsr_run_laws.specs.Run.{Run, owner_of, past_of, record_of}
use Rattle.hsr_table_demand.specs.declared.most.Needed.{Needed}

-- ---- one arrival

-- of notes with the newest first this is the latest of a send, and these are younger
pub record IsLatest (send : Option Probe) (noted younger : List Noted) (note : Noted) : Type 0 where
  pub older : List Noted
  pub all : noted ≡ younger ++ note ∷ older
  pub of_send : is_note_of send note ≡ true
  pub none_later : list_any (is_note_of send) younger ≡ false

abbrev pub is_unexpired : ℕ → Noted → Bool
is_unexpired at note = nat_lt (at - note.moment) entry_forget

-- no note is younger than a moment, nor than a note after it
abbrev pub AreUpTo : ℕ → List Noted → Type 0
AreUpTo at [] = Unit {0}
AreUpTo at (note ∷ past) = (note.moment ≤ at) × AreUpTo note.moment past

-- what comes from a ring wants an egress
pub record IsWanted (owner : Owner) (past : List Entry) (at port : ℕ) (copy : Carried) (e : Egress) : Type 0 where
  pub ring : is_on_ring owner.place port ≡ true
  pub wanted : wants owner.place (knows owner.place past at (Arrive port copy)) port (classified copy.octets) e ≡ true

-- What comes from a ring wants an egress where its send was noted, and the latest such note isn't expired: n notes
-- stand there from that one to the youngest, both counted.
pub record NeedsAt (owner : Owner) (past : List Entry) (at port : ℕ) (copy : Carried) (n : ℕ) : Type 0 where
  pub egress : Egress
  pub wanted : IsWanted owner past at port copy egress
  pub younger : List Noted
  pub note : Noted
  pub latest : IsLatest copy.probe (notes owner egress past) younger note
  pub unexpired : is_unexpired at note ≡ true
  pub count : n ≡ length younger + 1

abbrev pub Needs : Owner → List Entry → ℕ → Event → ℕ → Type 0
Needs owner past at (Arrive port copy) n = NeedsAt owner past at port copy n
Needs owner past at event n = ⊥

-- ---- all arrivals

-- the arrival at a place of a node's record needs n notes
abbrev pub NeedsThere : Run → ℕ → ℕ → ℕ → Type 0
NeedsThere run k i n = (d : Entry) → let past = reverse (take i (record_of run k)) in let x = slice_index_or (record_of run k) i d in
    Needs (owner_of run k) past (now (x ∷ past)) x.event n

-- n notes are needed at this place, and at none before it, by node and then place
pub record IsFirst (run : Run) (n k i : ℕ) : Type 0 where
  pub node : k < length run.places
  pub place : i < length (record_of run k)
  pub needs : NeedsThere run k i n
  pub before : (j : ℕ) → j < i → ¬ NeedsThere run k j n
  pub nodes : (l j : ℕ) → l < k → j < length (record_of run l) → ¬ NeedsThere run l j n

-- where n are needed first; nowhere, where none are
abbrev pub IsMet : Run → ℕ → Option (ℕ × ℕ) → Type 0
IsMet run n None = n ≡ 0
IsMet run n (Some at) = IsFirst run n at.0 at.1

-- no arrival needs more, and where as many are needed first
pub record IsMost (run : Run) (needed : Needed) : Type 0 where
  pub most : (k : ℕ) → k < length run.places →
      Each (λ x past. (n : ℕ) → Needs (owner_of run k) past (now (x ∷ past)) x.event n → n ≤ needed.entries) (past_of run k)
  pub met : IsMet run needed.entries needed.at

-- ---- the arrivals of one node

-- n notes are needed at this place of a node's record, and at none before it
pub record IsFirstAt (run : Run) (k n i : ℕ) : Type 0 where
  pub place : i < length (record_of run k)
  pub needs : NeedsThere run k i n
  pub before : (j : ℕ) → j < i → ¬ NeedsThere run k j n

abbrev pub IsMetAt : Run → ℕ → ℕ → Option (ℕ × ℕ) → Type 0
IsMetAt run k n None = n ≡ 0
IsMetAt run k n (Some at) = (at.0 ≡ k) × IsFirstAt run k n at.1

-- no arrival of a node needs more, and where as many are needed first
pub record IsMostAt (run : Run) (k : ℕ) (needed : Needed) : Type 0 where
  pub most : Each (λ x past. (n : ℕ) → Needs (owner_of run k) past (now (x ∷ past)) x.event n → n ≤ needed.entries) (past_of run k)
  pub met : IsMetAt run k needed.entries needed.at

-- ---- what is needed and what is forgotten

-- Where what comes from a ring wants an egress, the latest note of its send there isn't expired.
abbrev pub IsYoung : Owner → List Entry → ℕ → Event → Type 0
IsYoung owner past at (Arrive port copy) = (e : Egress) → IsWanted owner past at port copy e →
    (younger : List Noted) (note : Noted) → IsLatest copy.probe (notes owner e past) younger note → is_unexpired at note ≡ true
IsYoung owner past at event = Unit {0}

-- nothing was forgotten by age
abbrev pub NothingExpired : Run → Type 0
NothingExpired run = (k : ℕ) → k < length run.places → Each (λ x past. IsYoung (owner_of run k) past (now (x ∷ past)) x.event) (past_of run k)

-- Nothing that was needed was forgotten just where nothing was forgotten by age and tables have n entries or more.
abbrev pub IsJustEnough : Run → ℕ → Type 0
IsJustEnough run n = NothingForgotten run ↔ (NothingExpired run × (n ≤ run.capacity))

-- ---- other tables

-- the same run, with tables of n entries
abbrev pub with_tables : ℕ → Run → Run
with_tables n run = record run { capacity = n }

-- Where nothing needed was forgotten, each RedBox numbers a frame of its Station first, and the larger of both tables mistakes
-- no number, the same records are legal with tables of any size, if these have as many entries as were needed.
abbrev pub LegalWithNeeded : Type 0
LegalWithNeeded = (run : Run) (needed : Needed) (n : ℕ) → IsClosed run → NumberedFirst run → IsMost run needed → NothingForgotten run →
    NothingMistaken (with_tables (max run.capacity n) run) → needed.entries ≤ n → (k : ℕ) → k < length run.places → IsLegal n (owner_of run k) (past_of run k)
