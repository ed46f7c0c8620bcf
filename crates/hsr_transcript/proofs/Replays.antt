-- An entry that is done again.
use Rattle.std.proofs.Common.{◌≡◌, ℕ, ◌++◌, ◌∷◌, [], ◌∙◌, Bool, true, false, Ok, Err, IsTrue, ◌↔◌, ◌⊎◌, inl, inr, ap, refl}
use Rattle.hsr_node.specs.Kept.{Record, answer_to, owner_of, past_of}
use Rattle.hsr_node.specs.Record.{IsLegal}
use Rattle.hsr_node.specs.declared.entry.Entry.{Entry}
use Rattle.hsr_node.specs.declared.event.StepFault.{StepFault}
use Rattle.hsr_node.specs.declared.event.StepFault.TheVariants.{NoMemory}
use Rattle.hsr_transcript.specs.Replay.{Again}

whole_entry : (x y : Entry) → x.worker ≡ y.worker → x.at ≡ y.at → x.event ≡ y.event → x.outcome ≡ y.outcome → x ≡ y
whole_entry x y a b c d = λ i. record { worker = a i; at = b i; event = c i; outcome = d i }

pub again_told : (capacity : ℕ) (old new : Record) (entry done : Entry) (same : Bool) → IsLegal capacity (owner_of old) (past_of old)
    → new ≡ record old { entries = old.entries ++ done ∷ [] } → done.worker ≡ entry.worker → done.at ≡ entry.at → done.event ≡ entry.event
    → answer_to capacity old entry.at entry.event ≡ Ok done.outcome → IsTrue same ↔ (done.outcome ≡ entry.outcome) → Again capacity old new entry same
again_told capacity old new entry done true legal kept worker at event answered is =
    kept ∙ ap (λ x. record old { entries = old.entries ++ x ∷ [] }) (whole_entry done entry worker at event (is.0 refl))
again_told capacity old new entry done false legal kept worker at event answered is =
    (legal, λ h. let same : done.outcome ≡ entry.outcome = cc in let bad : false ≡ true = is.1 same in absurd (cc))

pub again_refused : (capacity : ℕ) (old new : Record) (entry : Entry) (fault : StepFault) → IsLegal capacity (owner_of old) (past_of old) → ¬ (fault ≡ NoMemory)
    → (fault ≡ NoMemory) ⊎ (answer_to capacity old entry.at entry.event ≡ Err fault) → Again capacity old new entry false
again_refused capacity old new entry fault legal other (inl h) = absurd (other h)
again_refused capacity old new entry fault legal other (inr h) = (legal, λ e. absurd (cc))
