-- What is shown of each kind of node: it answers as its record does, and goes on to be told by it.
use Rattle.std.proofs.Common.{◌≡◌, ℕ, Bool, true, false, cond, List, [], ◌∷◌, ◌++◌, max, Option, Some, None, Result, Ok, Err, refl, ap₂, sym, ◌∙◌, append-nil, if◌then◌else◌, ap, subst, reverse}
use Rattle.std.specs.List.{cons_option}
use Rattle.hsr_frame.specs.declared.node.RingPort.{RingPort}
use Rattle.hsr_supervision.specs.Payload.{Fields as Said}
use Rattle.hsr_supervision.specs.declared.payload.SupFault.{SupFault}
use Rattle.hsr_tables.specs.Nodes.{Hearing, hearing_if}
use Rattle.hsr_duptable.specs.Key.{Key}
use Rattle.hsr_duptable.specs.declared.note.Note.{Note}
use Rattle.hsr_node.specs.Record.{Noted, Owner, answer, now, oldest_first}
use Rattle.hsr_node.specs.Step.{told}
use Rattle.hsr_node.specs.declared.entry.Entry.{Entry}
use Rattle.hsr_node.specs.declared.event.Event.{Event}
use Rattle.hsr_node.specs.declared.event.Outcome.{Outcome}
use Rattle.hsr_node.specs.declared.event.Probe.{Probe}
use Rattle.hsr_node.specs.declared.event.StepFault.{StepFault}
use Rattle.hsr_node.proofs.Remembering.{oldest_first-cons}

-- a call to a node: who brought it, the moment as it was given, and the event
pub record Call : Type 0 where
  pub worker : ℕ
  pub at : ℕ
  pub event : Event

abbrev pub entry_of : Call → Outcome → Entry
entry_of call outcome = record { worker = call.worker; at = call.at; event = call.event; outcome = outcome }

-- after an answer the record has one more entry, after a refusal it is as it was
abbrev pub Stays : {M : Type 0} → (M → List Entry → Type 0) → List Entry → Call → Result Outcome StepFault → M → Type 0
Stays Held past call (Ok outcome) machine = Held machine (entry_of call outcome ∷ past)
Stays Held past call (Err fault) machine = Held machine past

abbrev pub Keeps : {M : Type 0} → ℕ → Owner → (M → List Entry → Type 0) → List Entry → Call → Result Outcome StepFault × M → Type 0
Keeps capacity owner Held past call s =
    (answer capacity owner past (max (now past) call.at) call.event ≡ s.0) × Stays Held past call s.0 s.1

-- the same of what a call gives that answers alike
pub answered-by : {X E M : Type 0} (done : X → Outcome) (fault : E → StepFault) (Held : M → List Entry → Type 0) (past : List Entry) (call : Call) (asked : Result Outcome StepFault) (machine : M) (given said : Result X E) → given ≡ said
    → (asked ≡ told done fault said) × Stays Held past call (told done fault said) machine
    → (asked ≡ told done fault given) × Stays Held past call (told done fault given) machine
answered-by done fault Held past call asked machine given said same =
    subst (λ r. (asked ≡ told done fault r) × Stays Held past call (told done fault r) machine) (sym same)

-- a note more, or none
pub logged : (noted : Bool) (key : Key) (moment effective : ℕ) (probe : Option Probe) (log : List Note) (ns : List Noted) → moment ≡ effective → log ≡ oldest_first ns
    → log ++ cond noted (record { key = key; moment = moment } ∷ []) []
    ≡ oldest_first (cons_option (cond noted (Some (record { key = key; moment = effective; probe = probe })) None) ns)
logged noted key moment effective probe log ns m l =
    ap₂ (λ (xs : List Note) n. xs ++ cond noted (record { key = key; moment = n } ∷ []) []) l m
    ∙ sym (oldest_first-cons noted (record { key = key; moment = effective; probe = probe }) ns)

pub unlogged : (log : List Note) (ns : List Noted) → log ≡ oldest_first ns → log ++ [] ≡ oldest_first ns
unlogged log ns l = append-nil log ∙ l

-- nothing more is heard
pub silent : {X : Type 0} (xs : List X) → reverse (xs ++ []) ≡ reverse xs
silent xs = ap reverse (append-nil xs)

-- one hearing, or none
pub heard-same : (x : RingPort) (moment effective : ℕ) (told : Bool) (said : Result Said SupFault) → moment ≡ effective
    → reverse {A = Hearing} (if told then hearing_if x moment said else []) ≡ (if told then hearing_if x effective said else [])
heard-same x moment effective false said m = refl
heard-same x moment effective true (Err fault) m = refl
heard-same x moment effective true (Ok said) m = ap (λ (n : ℕ). record { said = said; port = x; at = n } ∷ []) m
