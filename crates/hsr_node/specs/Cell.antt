-- What is known of the answer of a node under a lock.
use Rattle.std.specs.Prelude.{ℕ, ◌≡◌, ◌⊎◌, length, Result, Ok, Err, MatchResult}
use Rattle.hsr_node.specs.Kept.{Record, answer_to, owner_of, past_of}
use Rattle.hsr_node.specs.Record.{IsLegal}
use Rattle.hsr_node.specs.declared.entry.Receipt.{Receipt}
use Rattle.hsr_node.specs.declared.event.Event.{Event}
use Rattle.hsr_node.specs.declared.event.StepFault.{StepFault}
use Rattle.hsr_node.specs.declared.event.StepFault.TheVariants.{NoMemory}

abbrev pub IsLegalRecord : ℕ → Record → Type 0
IsLegalRecord capacity r = IsLegal capacity (owner_of r) (past_of r)

-- the receipt names the next place of a record, and has what the record answers to the event there
abbrev pub IsNextOf : ℕ → ℕ → Event → Record → Receipt → Type 0
IsNextOf capacity at event r receipt =
    (receipt.node ≡ r.number) × (receipt.place ≡ length r.entries) × (answer_to capacity r at event ≡ Ok receipt.entry.outcome)

-- An answer is some legal record's, at its end; a refusal is some legal record's, or a failed allocation.
abbrev pub IsAnsweredByRecord : ℕ → ℕ → Event → Result Receipt (Event × StepFault) → Type 0
IsAnsweredByRecord capacity at event result = MatchResult result
    (λ receipt. (r : Record) × IsLegalRecord capacity r × IsNextOf capacity at event r receipt)
    (λ refusal. (refusal.1 ≡ NoMemory) ⊎ ((r : Record) × IsLegalRecord capacity r × (answer_to capacity r at event ≡ Err refusal.1)))
