-- What is said of a run that is within budget, and of one that isn't.
--     IsMost          the greatest number of sends in a window
--     IsFirstBreach   the first reason why a run isn't within budget
--     IsEnough        what the law gives within budget
use Rattle.std.specs.Prelude.{ℕ, ◌*◌, ◌<◌, ◌≤◌, ◌≡◌, ◌⊎◌, ◌==◌, true, List, [], ◌∷◌, length, count_by}
use Rattle.std.specs.List.{list_any}
use Rattle.hsr_duptable.specs.Notes.{entry_forget}
use Rattle.hsr_node.specs.Record.{Each, now}
use Rattle.hsr_node.specs.declared.event.Probe.{Probe}
use Rattle.hsr_link.specs.Rows.{put_copies}
use Rattle.hsr_link.specs.declared.row.Dir.{Dir}
use Rattle.hsr_run_laws.specs.Budget.{IsBudgetHeld, IsInTime, is_within, sends_of}
use Rattle.hsr_run_laws.specs.Once.{IsExactlyOnce, is_copy}
use Rattle.hsr_run_laws.specs.Premises.{HasNoRedBox, IsRing, NothingForgotten, NothingMistaken, NumberedFirst, OneLossyLink}
use Rattle.hsr_run_laws.specs.Run.{Run, past_of, record_of, rows_of}
use Rattle.hsr_table_flaws.specs.Flaws.{HoldsAt, IsFirstNot}
use Rattle.hsr_audit.specs.declared.breach.BudgetFault.{BudgetFault}
use Rattle.hsr_audit.specs.declared.breach.BudgetFault.TheVariants.{Late, Crowded, NoMemory}

-- ---- arrivals

-- the arrival at a place of a node's record comes in time
abbrev pub IsInTimeAt : Run → ℕ → ℕ → Type 0
IsInTimeAt run k = HoldsAt (λ x past. IsInTime run (now (x ∷ past)) x.event) (record_of run k)

-- each arrival comes in time
abbrev pub AreInTime : Run → Type 0
AreInTime run = (k : ℕ) → k < length run.places → Each (λ x past. IsInTime run (now (x ∷ past)) x.event) (past_of run k)

-- ---- windows

-- a send has this effective moment
abbrev pub IsSendMoment : Run → ℕ → Type 0
IsSendMoment run m = list_any (λ sent. sent.moment == m) (sends_of run) ≡ true

-- how many sends of all nodes there are in the 800 milliseconds from a moment on
abbrev pub crowd : Run → ℕ → ℕ
crowd run m = count_by (is_within m (2 * entry_forget)) (sends_of run)

-- the greatest crowd from the moment of a send on; 0 where there are no sends
pub record IsMost (run : Run) (most : ℕ) : Type 0 where
  pub no_more : (m : ℕ) → IsSendMoment run m → crowd run m ≤ most
  pub as_many : ((m : ℕ) × IsSendMoment run m × (crowd run m ≡ most)) ⊎ ((sends_of run ≡ []) × (most ≡ 0))

-- each arrival comes in time; of the moments of sends this is the least from which on there are more sends than a table has entries
pub record IsFirstCrowded (run : Run) (m : ℕ) : Type 0 where
  pub in_time : AreInTime run
  pub moment : IsSendMoment run m
  pub crowded : run.capacity < crowd run m
  pub before : (n : ℕ) → n < m → IsSendMoment run n → crowd run n ≤ run.capacity

-- ---- answers

-- the first arrival that is late, or else the first moment that is crowded; no memory says nothing of the run
abbrev pub IsFirstBreach : Run → BudgetFault → Type 0
IsFirstBreach run (Late k i) = IsFirstNot run (IsInTimeAt run) k i
IsFirstBreach run (Crowded m) = IsFirstCrowded run m
IsFirstBreach run NoMemory = Unit {0}

-- where an arrival is late or a moment crowded, the run isn't within budget
abbrev pub IsOverspent : Run → BudgetFault → Type 0
IsOverspent run (Late k i) = ¬ IsBudgetHeld run
IsOverspent run (Crowded m) = ¬ IsBudgetHeld run
IsOverspent run NoMemory = Unit {0}

-- ---- what budget is for

-- no direction of a link carried two copies of one send
abbrev pub CarriesOnce : Run → Type 0
CarriesOnce run = (l : ℕ) (dir : Dir) (send : Probe) → l < length run.links → count_by (is_copy send) (put_copies dir (rows_of run l)) ≤ 1

-- The tables are large enough. Where each RedBox numbers a Station's frame first, and so where there is no RedBox, nothing is
-- forgotten that is needed, and no direction of a link carried a frame twice. A ring mistakes nothing, and where it lost
-- copies on one link at most it delivers each frame exactly once.
pub record IsEnough (run : Run) : Type 0 where
  pub keeps : NumberedFirst run → NothingForgotten run
  pub boxless : HasNoRedBox run → NothingForgotten run
  pub calm : NumberedFirst run → CarriesOnce run
  pub tells : (macs : List (List ℕ)) → IsRing run macs → NothingMistaken run
  pub once : (macs : List (List ℕ)) → IsRing run macs → OneLossyLink run → IsExactlyOnce run macs
