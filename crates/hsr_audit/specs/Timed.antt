-- The effective moments of a run's sends, and arrivals that come in time.
--     sent_moments     those of a record's sends
--     is_in_time       an event comes in time
--     AreSendMoments   the moments of all sends, rising
use Rattle.std.specs.Prelude.{ℕ, zero, suc, ◌-◌, ◌<◌, ◌&&◌, nat_le, nat_lt, Bool, true, List, [], ◌∷◌, ◌++◌, length, map, if◌then◌else◌, Option, Some, None, IsPermutation}
use Rattle.std.specs.List.Sorted.{IsNonDecreasing}
use Rattle.hsr_duptable.specs.Notes.{entry_forget}
use Rattle.hsr_node.specs.Record.{now}
use Rattle.hsr_node.specs.declared.entry.Entry.{Entry}
use Rattle.hsr_node.specs.declared.event.Event.{Event}
use Rattle.hsr_node.specs.declared.event.Event.TheVariants.{Arrive}
use Rattle.hsr_node.specs.declared.event.Probe.{Probe}
use Rattle.hsr_run_laws.specs.Budget.{Sent, is_sending, moment_of, sends_of}
use Rattle.hsr_run_laws.specs.Run.{Run, past_of, record_of}
use Rattle.hsr_audit.specs.Budgeted.{IsInTimeAt}

-- ---- moments

-- the effective moments of a record's sends, the oldest first
abbrev pub sent_moments : List Entry → List ℕ
sent_moments [] = []
sent_moments (x ∷ past) = sent_moments past ++ (if is_sending x.event then now (x ∷ past) ∷ [] else [])

-- those of the sends of the nodes below one
abbrev pub sent_moments_below : Run → ℕ → List ℕ
sent_moments_below run zero = []
sent_moments_below run (suc k) = sent_moments_below run k ++ sent_moments (past_of run k)

abbrev pub moment_sent : Sent → ℕ
moment_sent sent = sent.moment

-- the moments of all sends, rising
pub record AreSendMoments (run : Run) (moments : List ℕ) : Type 0 where
  pub rise : IsNonDecreasing moments
  pub same : IsPermutation (map moment_sent (sends_of run)) moments

-- ---- arrivals

-- a moment is that of a send, or less than 400 milliseconds later
abbrev pub is_timely : ℕ → ℕ → Bool
is_timely sent at = nat_le sent at && nat_lt (at - sent) entry_forget

-- so it is for the send that a copy names, if it names one
abbrev pub is_timely_of : Run → ℕ → Option Probe → Bool
is_timely_of run at None = true
is_timely_of run at (Some send) = is_timely (moment_of run send) at

-- an event at an effective moment, if it is an arrival, comes in time
abbrev pub is_in_time : Run → ℕ → Event → Bool
is_in_time run at (Arrive port copy) = is_timely_of run at copy.probe
is_in_time run at event = true

-- the arrivals at the first places of a node's record come in time
abbrev pub InTimeBelow : Run → ℕ → ℕ → Type 0
InTimeBelow run k n = (i : ℕ) → i < n → IsInTimeAt run k i

-- the first place of a node's record where an arrival is late
pub record IsFirstLate (run : Run) (k i : ℕ) : Type 0 where
  pub below : i < length (record_of run k)
  pub late : ¬ IsInTimeAt run k i
  pub before : InTimeBelow run k i

-- the records of the nodes below one have no late arrival
abbrev pub AllInTimeBelow : Run → ℕ → Type 0
AllInTimeBelow run n = (k : ℕ) → k < n → InTimeBelow run k (length (record_of run k))
