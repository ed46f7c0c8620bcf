-- A plan of sends that no table forgets.
--     IsBudgetHeld   budget held
--     BudgetKeeps    within budget nothing is forgotten
--     BudgetTells    within budget a ring mistakes nothing
--     OnceInBudget   within budget a ring delivers exactly once
use Rattle.std.specs.Prelude.{ℕ, zero, suc, ◌+◌, ◌<◌, ◌≤◌, ◌≡◌, ◌==◌, ◌&&◌, nat_lt, nat_le, Bool, true, false, if◌then◌else◌, List, [], ◌∷◌, ◌++◌, length, count_by, Option, Some, None, ◌*◌}
use Rattle.std.specs.List.{list_any, cons_option}
use Rattle.hsr_duptable.specs.Notes.{entry_forget}
use Rattle.hsr_node.specs.Record.{Each, now}
use Rattle.hsr_node.specs.declared.entry.Entry.{Entry}
use Rattle.hsr_node.specs.declared.event.Event.{Event}
use Rattle.hsr_node.specs.declared.event.Event.TheVariants.{Send, Supervise, Arrive, Age}
use Rattle.hsr_node.specs.declared.event.Probe.{Probe}
use Rattle.hsr_run_laws.specs.Closed.{IsClosed}
use Rattle.hsr_run_laws.specs.Once.{IsExactlyOnce}
use Rattle.hsr_run_laws.specs.Premises.{IsRing, NothingForgotten, NothingMistaken, NumberedFirst, OneLossyLink}
use Rattle.hsr_run_laws.specs.Run.{Run, past_of}

-- ---- the sends of a run, each with its effective moment

pub record Sent : Type 0 where
  pub send : Probe
  pub moment : ℕ

abbrev pub is_sending : Event → Bool
is_sending (Send from dst vlan ethertype payload) = true
is_sending (Supervise about) = true
is_sending (Arrive port copy) = false
is_sending Age = false

-- the send that an entry on this past is, if it is one
abbrev pub sent_in : ℕ → Entry → List Entry → Option Sent
sent_in k x past = if is_sending x.event then Some (record { send = record { node = k; place = length past }; moment = now (x ∷ past) }) else None

abbrev pub sends_at : ℕ → List Entry → List Sent
sends_at k [] = []
sends_at k (x ∷ past) = cons_option (sent_in k x past) (sends_at k past)

abbrev pub sends_below : Run → ℕ → List Sent
sends_below run zero = []
sends_below run (suc k) = sends_at k (past_of run k) ++ sends_below run k

abbrev pub sends_of : Run → List Sent
sends_of run = sends_below run (length run.places)

-- the effective moment of the entry at a place of a record
abbrev pub moment_at : ℕ → List Entry → ℕ
moment_at n [] = 0
moment_at n (x ∷ past) = if n == length past then now (x ∷ past) else moment_at n past

abbrev pub moment_of : Run → Probe → ℕ
moment_of run send = moment_at send.place (past_of run send.node)

-- ---- budget held

-- an arrival comes before its send would be forgotten
abbrev pub IsInTime : Run → ℕ → Event → Type 0
IsInTime run at (Arrive port copy) = (send : Probe) → copy.probe ≡ Some send → (moment_of run send ≤ at) × (at < moment_of run send + entry_forget)
IsInTime run at event = Unit {0}

abbrev pub is_within : ℕ → ℕ → Sent → Bool
is_within start width sent = nat_le start sent.moment && nat_lt sent.moment (start + width)

-- Each arrival comes less than 400 milliseconds after its send; and of all sends of all nodes, in the 800 milliseconds
-- from any send on, there are no more than a table has entries.
pub record IsBudgetHeld (run : Run) : Type 0 where
  pub in_time : (k : ℕ) → k < length run.places → Each (λ x past. IsInTime run (now (x ∷ past)) x.event) (past_of run k)
  pub not_crowded : (start : ℕ) → list_any (λ sent. sent.moment == start) (sends_of run) ≡ true → count_by (is_within start (2 * entry_forget)) (sends_of run) ≤ run.capacity

-- Within budget nothing is forgotten that is needed.
abbrev pub BudgetKeeps : Type 0
BudgetKeeps = (run : Run) → IsClosed run → NumberedFirst run → IsBudgetHeld run → NothingForgotten run

-- Within budget no number is mistaken in a ring, since a table has fewer entries than there are numbers.
abbrev pub BudgetTells : Type 0
BudgetTells = (run : Run) (macs : List (List ℕ)) → IsClosed run → IsRing run macs → IsBudgetHeld run → NothingMistaken run

-- So within budget, with losses on at most one link, a ring delivers each frame exactly once.
abbrev pub OnceInBudget : Type 0
OnceInBudget = (run : Run) (macs : List (List ℕ)) → IsClosed run → IsRing run macs → OneLossyLink run → IsBudgetHeld run → IsExactlyOnce run macs
