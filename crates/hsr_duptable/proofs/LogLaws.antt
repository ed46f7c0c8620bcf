-- A table stands for the log of its notes.
use Rattle.std.proofs.Common.{◌≡◌, ℕ, zero, suc, ◌+◌, ◌-◌, ◌≤◌, Bool, true, false, cond, List, [], ◌∷◌, ◌++◌, length, take, drop, refl, ap, sym, ◌∙◌, append_assoc, append-nil, length-append, length-drop, arith, ◌⊎◌, inl, inr}
use Rattle.std.proofs.lemmas.List.{take-append-drop, drop-append-le, drop-drop}
use Rattle.std.proofs.lemmas.List.Elements.{filter-append}
use Rattle.std.proofs.Math.ListN.{drop_of_length-le}
use Rattle.std.proofs.lemmas.Bool.{cases_lt}
use Rattle.hsr_duptable.specs.Notes.{has_key, is_unexpired, unexpired_notes, last_notes, IsRising, note_if}
use Rattle.hsr_duptable.specs.Table.{Table, empty_table, remembers, after_note, after_age, after_pass}
use Rattle.hsr_duptable.specs.Log.{remembered, StandsFor, Call, noting, ageing, IsTimely, after_calls, log_of, AnswersAsLog}
use Rattle.hsr_duptable.specs.Key.{Key}
use Rattle.hsr_duptable.specs.declared.note.Note.{Note}
use Rattle.hsr_duptable.proofs.RisingNotes.{unexpired_notes-all, unexpired_notes-expired, IsRising-push, IsRising-drop, IsRising-raise, IsRising-filter}

-- ---- the last notes

pub last_notes-append : (n m : ℕ) (xs ys : List Note) → m ≡ n + length ys → last_notes m (xs ++ ys) ≡ last_notes n xs ++ ys
last_notes-append n m xs ys h =
    let cut : length (xs ++ ys) - m ≡ length xs - n = omega (arith, length-append xs ys) in
    rw cut (drop-append-le (length xs - n) xs ys (omega arith))

-- the last n are the end of the last m
last_notes-fewer : (n m : ℕ) (xs : List Note) → n ≤ m → (d : ℕ) × (last_notes n xs ≡ drop d (last_notes m xs))
last_notes-fewer n m xs h =
    let d = (length xs - n) - (length xs - m) in
    let sum : length xs - n ≡ (length xs - m) + d = omega arith in
    (d, ap (λ (k : ℕ). drop k xs) sum ∙ sym (drop-drop d (length xs - m) xs))

pub last_notes-none : (n : ℕ) (xs : List Note) → n ≡ 0 → last_notes n xs ≡ []
last_notes-none n xs h = drop_of_length-le xs (omega arith)

-- where none is unexpired, none is from a later place on
unexpired_notes-drop : (forget at d : ℕ) (xs : List Note) → unexpired_notes forget at xs ≡ [] → unexpired_notes forget at (drop d xs) ≡ []
unexpired_notes-drop forget at zero xs h = h
unexpired_notes-drop forget at (suc d) [] h = h
unexpired_notes-drop forget at (suc d) (x ∷ xs) h = unexpired_notes-drop forget at d xs (rest (is_unexpired forget at x) h)
  where
    rest : (b : Bool) → cond b (x ∷ unexpired_notes forget at xs) (unexpired_notes forget at xs) ≡ [] → unexpired_notes forget at xs ≡ []
    rest true e = absurd (cc)
    rest false e = e

-- the expired stand first, and stay expired
record StandFirst (forget at : ℕ) (xs : List Note) : Type 0 where
  gone : List Note
  split : xs ≡ gone ++ unexpired_notes forget at xs
  stay : (later : ℕ) → at ≤ later → unexpired_notes forget later gone ≡ []

stand_first : (forget at first : ℕ) (xs : List Note) (last : ℕ) → IsRising first xs last → StandFirst forget at xs
stand_first forget at first [] last r = record { gone = []; split = refl; stay = λ later h. refl }
stand_first forget at first (x ∷ xs) last r = elim (cases_lt (at - x.moment) forget) [
  | inl fresh ↦ record { gone = []; split = sym (unexpired_notes-all forget at x.moment (x ∷ xs) last fresh (omega arith, r.1)); stay = λ later h. refl }
  | inr expired ↦
      let rest = stand_first forget at x.moment xs last r.1 in
      record {
        gone = x ∷ rest.gone;
        split = rw (unexpired_notes-expired forget at x xs expired) (ap (λ (ys : List Note). x ∷ ys) rest.split);
        stay = λ later h. unexpired_notes-expired forget later x rest.gone (omega arith) ∙ rest.stay later h;
      }
]

-- ---- one call

-- a new table stands for the log of no notes
pub StandsFor-new : (capacity forget : ℕ) → StandsFor capacity (empty_table forget) []
StandsFor-new capacity forget =
    record { older = []; split = refl; fits = omega arith; gone = λ at h. unexpired_notes-drop forget at (0 - (capacity - 0)) [] refl; rising = omega arith; counted = refl }

-- a note is one more of the log
pub StandsFor-note : (capacity : ℕ) (table : Table) (log : List Note) (key : Key) (at : ℕ) → table.last ≤ at → StandsFor capacity table log
    → StandsFor capacity (after_note capacity table key at) (log ++ record { key = key; moment = at } ∷ [])
StandsFor-note capacity table log key at h s =
    let note : Note = record { key = key; moment = at } in
    let all = table.notes ++ note ∷ [] in
    let d = length all - capacity in
    let size : length all ≡ length table.notes + 1 = length-append table.notes (note ∷ []) in
    let kept : length (drop d all) ≡ length all - d = length-drop d all in
    record {
      older = s.older ++ take d all;
      split = ap (λ (ys : List Note). ys ++ note ∷ []) s.split
          ∙ append_assoc s.older table.notes (note ∷ [])
          ∙ ap (λ (ys : List Note). s.older ++ ys) (sym (take-append-drop d all))
          ∙ sym (append_assoc s.older (take d all) (drop d all));
      fits = omega arith;
      gone = λ later l. older_gone table.forget later s.older (take d all) capacity (length table.notes) (length (drop d all))
          (elim (cases_lt capacity (length all)) [ inl full ↦ inl (omega arith) | inr room ↦ inr (omega arith, take_none d all (omega arith)) ])
          (s.gone later (omega arith));
      rising = IsRising-drop d 0 all at (IsRising-push 0 table.notes table.last note h s.rising);
      counted = omega (arith, s.counted, length-append log (note ∷ []));
    }
  where
    take_none : (n : ℕ) (xs : List Note) → n ≡ 0 → take n xs ≡ []
    take_none n xs h = rw h refl

    -- a full table has no room for older ones, and one with room has lost none
    older_gone : (forget at : ℕ) (older more : List Note) (capacity before after : ℕ) → (capacity ≤ after) ⊎ ((before ≤ after) × (more ≡ []))
        → unexpired_notes forget at (last_notes (capacity - before) older) ≡ [] → unexpired_notes forget at (last_notes (capacity - after) (older ++ more)) ≡ []
    older_gone forget at older more capacity before after (inl full) none =
        ap (unexpired_notes forget at) (last_notes-none (capacity - after) (older ++ more) (omega arith))
    older_gone forget at older more capacity before after (inr room) none =
        let part = last_notes-fewer (capacity - after) (capacity - before) older (omega arith) in
        rw (room.1, append-nil older, part.1) (unexpired_notes-drop forget at part.0 (last_notes (capacity - before) older) none)

-- nothing is noted
pub StandsFor-same : (capacity : ℕ) (table : Table) (log : List Note) → StandsFor capacity table log → StandsFor capacity table (log ++ [])
StandsFor-same capacity table log s = rw (append-nil log) s

-- a frame that passes is noted, and one that doesn't leaves the log
pub StandsFor-pass : (capacity : ℕ) (table : Table) (log : List Note) (passes : Bool) (key : Key) (at : ℕ) → table.last ≤ at → StandsFor capacity table log
    → StandsFor capacity (after_pass capacity table passes key at) (log ++ note_if passes key at)
StandsFor-pass capacity table log true key at h s = StandsFor-note capacity table log key at h s
StandsFor-pass capacity table log false key at h s = StandsFor-same capacity table log s

-- ageing adds nothing to the log
pub StandsFor-age : (capacity : ℕ) (table : Table) (log : List Note) (at : ℕ) → table.last ≤ at → StandsFor capacity table log → StandsFor capacity (after_age table at) log
StandsFor-age capacity table log at h s =
    let parts = stand_first table.forget at 0 table.notes table.last s.rising in
    let kept = unexpired_notes table.forget at table.notes in
    let sizes : length table.notes ≡ length parts.gone + length kept = ap length parts.split ∙ length-append parts.gone kept in
    record {
      older = s.older ++ parts.gone;
      split = s.split ∙ ap (λ (ys : List Note). s.older ++ ys) parts.split ∙ sym (append_assoc s.older parts.gone kept);
      fits = omega (arith, s.fits);
      gone = λ later l.
          let room : capacity - length kept ≡ (capacity - length table.notes) + length parts.gone = omega (arith, s.fits) in
          rw (last_notes-append (capacity - length table.notes) (capacity - length kept) s.older parts.gone room)
          (filter-append (is_unexpired table.forget later) (last_notes (capacity - length table.notes) s.older) parts.gone
          ∙ both (s.gone later (omega arith)) (parts.stay later l));
      rising = IsRising-raise 0 kept table.last at h (IsRising-filter (is_unexpired table.forget at) 0 table.notes table.last s.rising);
      counted = s.counted;
    }
  where
    both : {xs ys : List Note} → xs ≡ [] → ys ≡ [] → xs ++ ys ≡ []
    both p q = rw (p, q) refl

-- what a table that stands for a log holds unexpired is what is remembered of the log
pub unexpired_notes-StandsFor : (capacity : ℕ) (table : Table) (log : List Note) (at : ℕ) → table.last ≤ at → StandsFor capacity table log
    → unexpired_notes table.forget at table.notes ≡ remembered capacity table.forget log at
unexpired_notes-StandsFor capacity table log at h s =
    let room : capacity ≡ (capacity - length table.notes) + length table.notes = omega (arith, s.fits) in
    let older = last_notes (capacity - length table.notes) s.older in
    sym (ap (λ (l : List Note). unexpired_notes table.forget at (last_notes capacity l)) s.split
    ∙ ap (unexpired_notes table.forget at) (last_notes-append (capacity - length table.notes) capacity s.older table.notes room)
    ∙ filter-append (is_unexpired table.forget at) older table.notes
    ∙ ap (λ (ys : List Note). ys ++ unexpired_notes table.forget at table.notes) (s.gone at h))

-- so `seen` answers from the log
pub remembers-StandsFor : (capacity : ℕ) (table : Table) (log : List Note) (key : Key) (at : ℕ) → table.last ≤ at → StandsFor capacity table log
    → remembers table key at ≡ has_key key (remembered capacity table.forget log at)
remembers-StandsFor capacity table log key at h s = ap (has_key key) (unexpired_notes-StandsFor capacity table log at h s)

-- ---- any calls

-- the log so far, and the notes to come
pub StandsFor-calls : (capacity : ℕ) (calls : List Call) (table : Table) (log : List Note) → IsTimely table.last calls → StandsFor capacity table log
    → StandsFor capacity (after_calls capacity table calls) (log ++ log_of calls)
StandsFor-calls capacity [] table log t s = rw (append-nil log) s
StandsFor-calls capacity (noting key at ∷ calls) table log t s =
    let note : Note = record { key = key; moment = at } in
    let next = StandsFor-calls capacity calls (after_note capacity table key at) (log ++ note ∷ []) t.1 (StandsFor-note capacity table log key at t.0 s) in
    rw (append_assoc log (note ∷ []) (log_of calls)) at next
StandsFor-calls capacity (ageing at ∷ calls) table log t s =
    StandsFor-calls capacity calls (after_age table at) log t.1 (StandsFor-age capacity table log at t.0 s)

pub forget-after_calls : (capacity : ℕ) (table : Table) (calls : List Call) → (after_calls capacity table calls).forget ≡ table.forget
forget-after_calls capacity table [] = refl
forget-after_calls capacity table (noting key at ∷ calls) = forget-after_calls capacity (after_note capacity table key at) calls
forget-after_calls capacity table (ageing at ∷ calls) = forget-after_calls capacity (after_age table at) calls

pub answers_as_log : (capacity forget : ℕ) → AnswersAsLog capacity forget
answers_as_log capacity forget calls t key at h =
    let table = after_calls capacity (empty_table forget) calls in
    let stands = StandsFor-calls capacity calls (empty_table forget) [] t (StandsFor-new capacity forget) in
    remembers-StandsFor capacity table (log_of calls) key at h stands
    ∙ ap (λ (time : ℕ). has_key key (remembered capacity time (log_of calls) at)) (forget-after_calls capacity (empty_table forget) calls)
