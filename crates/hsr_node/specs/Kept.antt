-- A node that keeps its record, and a worker's receipts.
use Rattle.std.specs.Prelude.{ℕ, ◌≡◌, ◌⊎◌, max, List, [], ◌∷◌, reverse, Result, Ok, Err, MatchResult}
use Rattle.hsr_node.specs.Record.{Owner, answer, now}
use Rattle.hsr_node.specs.Step.{new_node, node_step}
use Rattle.hsr_node.specs.declared.entry.Entry.{Entry}
use Rattle.hsr_node.specs.declared.entry.Receipt.{Receipt}
use Rattle.hsr_node.specs.declared.event.Event.{Event}
use Rattle.hsr_node.specs.declared.event.Outcome.{Outcome}
use Rattle.hsr_node.specs.declared.event.StepFault.{StepFault}
use Rattle.hsr_node.specs.declared.event.StepFault.TheVariants.{NoMemory}
use Rattle.hsr_node.specs.declared.node.Node.{Node}
use Rattle.hsr_node.specs.declared.place.Place.{Place}

-- what a contract sees of a kept node: its number, where it stands, and its entries, the oldest first
pub record Record : Type 0 where
  pub number : ℕ
  pub place : Place
  pub entries : List Entry

abbrev pub owner_of : Record → Owner
owner_of r = record { number = r.number; place = r.place }

-- the entries, the newest first
abbrev pub past_of : Record → List Entry
past_of r = reverse r.entries

-- Done anew from a new node on, the events of a record give its outcomes, and in the end this node.
abbrev pub Replays : (capacity : ℕ) → Place → List Entry → Node capacity → Type 0
Replays capacity place [] node = node ≡ new_node capacity place
Replays capacity place (x ∷ past) node =
    (before : Node capacity) × Replays capacity place past before × (node_step capacity before x.at x.event ≡ (Ok x.outcome, node))

-- what a record answers to an event at a moment that is given
abbrev pub answer_to : ℕ → Record → ℕ → Event → Result Outcome StepFault
answer_to capacity r at event = answer capacity (owner_of r) (past_of r) (max (now (past_of r)) at) event

-- An answer is the record's; a refusal is the record's, or a failed allocation.
abbrev pub IsAnswered : ℕ → Record → ℕ → Event → Result Receipt (Event × StepFault) → Type 0
IsAnswered capacity r at event result = MatchResult result
    (λ receipt. answer_to capacity r at event ≡ Ok receipt.entry.outcome)
    (λ refusal. (refusal.1 ≡ NoMemory) ⊎ (answer_to capacity r at event ≡ Err refusal.1))

-- the receipts of one worker, in order
pub record Receipts : Type 0 where
  pub worker : ℕ
  pub receipts : List Receipt
