-- What the machines that keep the whole past of a DANH, a RedBox or a QuadBox have alike.
use Rattle.std.specs.Prelude.{ℕ, ◌+◌, Bool, false, List, [], ◌∷◌, ◌++◌, is_err, Result, if◌then◌else◌}
use Rattle.hsr_frame.specs.Egress.{Egress}
use Rattle.hsr_frame.specs.declared.egress.Exits.{Exits}
use Rattle.hsr_frame.specs.declared.fault.FrameFault.{FrameFault}
use Rattle.hsr_frame.specs.declared.node.RingPort.{RingPort}
use Rattle.hsr_supervision.specs.Payload.{read_of}
use Rattle.hsr_tag.specs.Seen.{is_told, payload_in}
use Rattle.hsr_tag.specs.declared.seen.Seen.{Seen}
use Rattle.hsr_duptable.specs.Key.{Key}
use Rattle.hsr_duptable.specs.Log.{remembered}
use Rattle.hsr_duptable.specs.Notes.{entry_forget, has_key, note_if}
use Rattle.hsr_duptable.specs.declared.note.Note.{Note}
use Rattle.hsr_tables.specs.Nodes.{Hearing, hearing_if}
use Rattle.hsr_forwarding.specs.Arrival.{judged_by, key_in}
use Rattle.hsr_forwarding.specs.Tables.{passes_by}

-- ---- the answers to some calls, and what is held after them

abbrev pub answers_of : {S C A : Type 0} → (S → C → A × S) → S → List C → List A × S
answers_of call state [] = ([], state)
answers_of call state (first ∷ calls) =
    let done = call state first in
    let rest = answers_of call done.1 calls in
    (done.0 ∷ rest.0, rest.1)

-- ---- a past: all that was done, the latest first, each at its effective moment; a refusal does nothing

pub record Deed (D : Type 0) : Type 0 where
  pub now : ℕ
  pub did : D

-- the greatest moment so far
abbrev pub moment_of : {D : Type 0} → List (Deed D) → ℕ
moment_of [] = 0
moment_of (deed ∷ past) = deed.now

abbrev pub count_of : {D : Type 0} → (D → Bool) → List (Deed D) → ℕ
count_of p [] = 0
count_of p (deed ∷ past) = if p deed.did then count_of p past + 1 else count_of p past

abbrev pub sum_of : {D : Type 0} → (D → ℕ) → List (Deed D) → ℕ
sum_of f [] = 0
sum_of f (deed ∷ past) = sum_of f past + f deed.did

-- what the deeds left, the oldest first
abbrev pub left_by : {D X : Type 0} → (ℕ → D → List X) → List (Deed D) → List X
left_by f [] = []
left_by f (deed ∷ past) = left_by f past ++ f deed.now deed.did

-- ---- the log of an egress

-- what an arrival leaves in the log of an egress that passed it or not: only a tagged frame is noted
abbrev pub note_of : Result Seen FrameFault → Bool → ℕ → List Note
note_of seen passed now = judged_by (λ key. note_if passed key now) [] (key_in seen)

-- of the last notes of a log, as many as a table has entries, one is younger than `entry_forget` microseconds and has the key
abbrev pub log_remembers : ℕ → List Note → ℕ → Key → Bool
log_remembers capacity log now key = has_key key (remembered capacity entry_forget log now)

-- where an arrival passes that some egresses want: a tagged one where the log of the egress doesn't remember it
abbrev pub passes_from : ℕ → (Egress → List Note) → Exits → Result Seen FrameFault → ℕ → Exits
passes_from capacity logs exits seen now = judged_by (λ key. passes_by (λ e. log_remembers capacity (logs e) now key) exits) exits (key_in seen)

-- ---- what was heard on the ring

-- a readable tagged supervision frame of another node is a hearing
abbrev pub hearing_in : List ℕ → RingPort → ℕ → Result Seen FrameFault → List Hearing
hearing_in own x now seen = if is_told own seen then hearing_if x now (read_of (payload_in seen)) else []

abbrev pub is_bad_life : List ℕ → Result Seen FrameFault → Bool
is_bad_life own seen = if is_told own seen then is_err (read_of (payload_in seen)) else false
