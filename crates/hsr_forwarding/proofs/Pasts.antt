-- A stepping machine beside one that keeps its whole past.
use Rattle.std.proofs.Common.{◌≡◌, ℕ, ◌≤◌, not, List, [], ◌∷◌, ◌++◌, Result, refl, ap, subst, ◌∙◌, arith}
use Rattle.std.specs.Prelude.{max, fold}
use Rattle.std.proofs.lemmas.List.{append-nil}
use Rattle.hsr_frame.specs.declared.fault.FrameFault.{FrameFault}
use Rattle.hsr_frame.specs.declared.node.RingPort.{RingPort}
use Rattle.hsr_tag.specs.Seen.{is_told, payload_in}
use Rattle.hsr_tag.specs.declared.seen.Seen.{Seen}
use Rattle.hsr_duptable.specs.Key.{Key}
use Rattle.hsr_duptable.specs.Log.{StandsFor, remembered}
use Rattle.hsr_duptable.specs.Notes.{entry_forget, has_key}
use Rattle.hsr_duptable.specs.Table.{Table, remembers}
use Rattle.hsr_duptable.specs.declared.note.Note.{Note}
use Rattle.hsr_duptable.proofs.LogLaws.{remembers-StandsFor}
use Rattle.hsr_tables.specs.Nodes.{Hearing, Nodes, heard, no_nodes}
use Rattle.hsr_tables.proofs.NodeLaws.{listened-if}
use Rattle.hsr_forwarding.specs.Arrival.{heard_of}
use Rattle.hsr_forwarding.specs.Past.{answers_of, hearing_in, is_bad_life, log_remembers}

-- machines that answer each call alike, and stay related, answer all calls alike
pub answers-same : {S P C A : Type 0} (R : S → P → Type 0) (step : S → C → A × S) (past_step : P → C → A × P)
    → ((s : S) (p : P) (call : C) → R s p → ((step s call).0 ≡ (past_step p call).0) × R (step s call).1 (past_step p call).1)
    → (s : S) (p : P) (calls : List C) → R s p
    → ((answers_of step s calls).0 ≡ (answers_of past_step p calls).0) × R (answers_of step s calls).1 (answers_of past_step p calls).1
answers-same R step past_step keeps s p [] r = (refl, r)
answers-same R step past_step keeps s p (call ∷ calls) r =
    let first = keeps s p call r in
    let rest = answers-same R step past_step keeps (step s call).1 (past_step p call).1 calls first.1 in
    ((λ i. first.0 i ∷ rest.0 i), rest.1)

-- the same where the past machine goes by what the stepping one is, and a call leaves that as it is
pub answers-same-as : {O S P C A : Type 0} (who : S → O) (R : S → P → Type 0) (step : S → C → A × S) (past_step : O → P → C → A × P)
    → ((s : S) (p : P) (call : C) → R s p → let after = step s call in let past = past_step (who s) p call in (after.0 ≡ past.0) × R after.1 past.1 × (who after.1 ≡ who s))
    → (s : S) (p : P) (calls : List C) → R s p
    → let after = answers_of step s calls in let past = answers_of (past_step (who s)) p calls in (after.0 ≡ past.0) × R after.1 past.1 × (who after.1 ≡ who s)
answers-same-as {O} {S} {P} {C} {A} who R step past_step keeps first p calls r =
    let all = answers-same (λ s p. R s p × (who s ≡ who first)) step (past_step (who first)) on first p calls (r, refl) in
    (all.0, all.1.0, all.1.1)
  where
    on : (s : S) (p : P) (call : C) → R s p × (who s ≡ who first)
        → let after = step s call in let past = past_step (who first) p call in (after.0 ≡ past.0) × (R after.1 past.1 × (who after.1 ≡ who first))
    on s p call held =
        let after = step s call in
        let one = subst (λ o. let past = past_step o p call in (after.0 ≡ past.0) × R after.1 past.1 × (who after.1 ≡ who s)) held.1 (keeps s p call held.0) in
        (one.0, (one.1, one.2 ∙ held.1))

pub later-max : (m n : ℕ) → m ≤ max m n
later-max m n = omega arith

-- a table that stands for a log remembers what the log does
pub remembers-same : (capacity : ℕ) (table : Table) (log : List Note) (now : ℕ) (key : Key) → table.last ≤ now → table.forget ≡ entry_forget → StandsFor capacity table log
    → remembers table key now ≡ log_remembers capacity log now key
remembers-same capacity table log now key h forget s =
    remembers-StandsFor capacity table log key now h s
    ∙ ap (λ (n : ℕ). has_key key (remembered capacity n log now)) forget

-- a step in which nothing is heard
pub heard-same : (nodes : Nodes) (hearings : List Hearing) → nodes ≡ fold heard no_nodes hearings → nodes ≡ fold heard no_nodes (hearings ++ [])
heard-same nodes hearings e = rw (append-nil hearings) e

-- the nodes after an arrival, and whether it was a bad supervision frame
pub heard-told : (own : List ℕ) (nodes : Nodes) (x : RingPort) (seen : Result Seen FrameFault) (now : ℕ)
    → ((heard_of own nodes x seen now).1 ≡ fold heard nodes (hearing_in own x now seen)) × (not (heard_of own nodes x seen now).0 ≡ is_bad_life own seen)
heard-told own nodes x seen now = listened-if (is_told own seen) (payload_in seen) nodes x now
