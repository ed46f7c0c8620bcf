-- When the parts of a run agree, and the first cause where they don't.
--     Agrees       agreement of all
--     IsOpen       why a run isn't closed
--     IsFirst      a cause, with nothing before it
--     HasNoStorm   no direction of a link carried two copies of one send
use Rattle.std.specs.Prelude.{ℕ, ◌<◌, ◌≡◌, Bool, true, false, List, length, slice_index_or, Vec, ⊤}
use Rattle.std.specs.Global.{Global}
use Rattle.std.specs.List.{list_any}
use Rattle.hsr_node.specs.Kept.{Receipts, Record, owner_of, past_of}
use Rattle.hsr_node.specs.Record.{IsLegal}
use Rattle.hsr_link.specs.Rows.{is_queued}
use Rattle.hsr_link.specs.declared.row.Dir.{Dir}
use Rattle.hsr_link.specs.declared.row.Dir.TheVariants.{Forth, Back}
use Rattle.hsr_link.specs.declared.row.Row.{Row}
use Rattle.hsr_run_laws.specs.Closed.{IsClosed, IsOfSend, PutAgrees, TakenAgrees}
use Rattle.hsr_finished_run.specs.Finished.{run_of}
use Rattle.hsr_run_laws.specs.Once.{IsCalm}
use Rattle.hsr_run_laws.specs.Premises.{HasNoRedBox}
use Rattle.hsr_finished_run.specs.Receipts.{HasReceipts, IsFirstWrong}
use Rattle.hsr_run_laws.specs.Run.{Run, rows_of}
use Rattle.hsr_finished_run.specs.Shape.{HasShape, IsShaped}
use Rattle.hsr_topology.specs.Topology.{Topology}
use Rattle.hsr_run_index.specs.declared.agreement.Passage.{Passage}
use Rattle.hsr_run_index.specs.declared.agreement.Passage.TheVariants.{Put, Taken}
use Rattle.hsr_finished_run.specs.declared.disagree.CheckFault.{CheckFault}
use Rattle.hsr_finished_run.specs.declared.disagree.CheckFault.TheVariants as fault
use Rattle.hsr_finished_run.specs.declared.disagree.Disagree.{Disagree}
use Rattle.hsr_finished_run.specs.declared.disagree.Disagree.TheVariants.{Shape, LinkPut, LinkTaken, Stranger, NotQuiet}
use Rattle.hsr_finished_run.specs.declared.disagree.Disagree.TheVariants as cause
use Rattle.hsr_finished_run.specs.declared.planned.Planned.{Planned}

-- ---- records

-- the first n records are legal
abbrev pub AreLegal : ℕ → List Record → ℕ → Type 0
AreLegal capacity kept n = (k : ℕ) (d : Record) → k < n → IsLegal capacity (owner_of (slice_index_or kept k d)) (past_of (slice_index_or kept k d))

-- ---- links and records

-- what was put on a link in a direction agrees with the record of the node there, or what was taken
abbrev pub ToldAgrees : Passage → Run → ℕ → Dir → Type 0
ToldAgrees Put = PutAgrees
ToldAgrees Taken = TakenAgrees

-- on the first n links, both ways
unfoldable pub AllAgree : Passage → Run → ℕ → Type 0
AllAgree which run n = (l : ℕ) (dir : Dir) → l < n → ToldAgrees which run l dir

-- the lowest link on which it doesn't, Forth before Back
pub record IsFirstOther (which : Passage) (run : Run) (l : ℕ) (dir : Dir) : Type 0 where
  pub below : l < length run.links
  pub here : ¬ ToldAgrees which run l dir
  pub forth_first : dir ≡ Back → ToldAgrees which run l Forth
  pub before : AllAgree which run l

abbrev pub PutsAgree : Run → ℕ → Type 0
PutsAgree = AllAgree Put

abbrev pub TakensAgree : Run → ℕ → Type 0
TakensAgree = AllAgree Taken

abbrev pub IsFirstPut : Run → ℕ → Dir → Type 0
IsFirstPut = IsFirstOther Put

abbrev pub IsFirstTaken : Run → ℕ → Dir → Type 0
IsFirstTaken = IsFirstOther Taken

-- ---- origin

-- the row was put by a node, and its copy is of a send
pub record IsKnown (run : Run) (row : Row) : Type 0 where
  pub put : row.injected ≡ false
  pub origin : IsOfSend run row.carried

-- the first n rows of a link are such
abbrev pub AreKnown : Run → List Row → ℕ → Type 0
AreKnown run rows n = (i : ℕ) (d : Row) → i < n → IsKnown run (slice_index_or rows i d)

-- the lowest row that isn't
pub record IsStranger (run : Run) (rows : List Row) (i : ℕ) : Type 0 where
  pub below : i < length rows
  pub here : (d : Row) → ¬ IsKnown run (slice_index_or rows i d)
  pub before : AreKnown run rows i

-- all rows of the first n links
unfoldable pub HasNoStranger : Run → ℕ → Type 0
HasNoStranger run n = (l : ℕ) → l < n → AreKnown run (rows_of run l) (length (rows_of run l))

-- the lowest link with a stranger, and its lowest row that is one
pub record IsFirstStranger (run : Run) (l i : ℕ) : Type 0 where
  pub below : l < length run.links
  pub here : IsStranger run (rows_of run l) i
  pub before : HasNoStranger run l

-- ---- quiet

abbrev pub is_noisy : List Row → Bool
is_noisy rows = list_any (λ (row : Row). is_queued row.fate) rows

-- nothing waits on the first n links
unfoldable pub IsQuiet : Run → ℕ → Type 0
IsQuiet run n = (l : ℕ) → l < n → is_noisy (rows_of run l) ≡ false

pub record IsFirstNoisy (run : Run) (l : ℕ) : Type 0 where
  pub below : l < length run.links
  pub here : is_noisy (rows_of run l) ≡ true
  pub before : IsQuiet run l

-- ---- all

-- records and rows are the topology's, and the run is closed, so that its tables have a size that is allowed
pub record IsSettledRun (capacity : ℕ) (topology : Topology) (kept : List Record) (rows : List (Vec Row Global)) : Type 0 where
  pub shaped : IsShaped topology kept rows
  pub closed : IsClosed (run_of capacity topology kept rows)
  pub puts : PutsAgree (run_of capacity topology kept rows) (length topology.links)
  pub takens : TakensAgree (run_of capacity topology kept rows) (length topology.links)
  pub known : HasNoStranger (run_of capacity topology kept rows) (length topology.links)
  pub quiet : IsQuiet (run_of capacity topology kept rows) (length topology.links)

-- The records and rows are the topology's, the run is closed, and the receipts are the records' and tell the plan.
pub record Agrees (capacity : ℕ) (topology : Topology) (kept : List Record) (rows : List (Vec Row Global)) (passes : List Receipts) (plan : List Planned) : Type 0 where
  pub shaped : IsShaped topology kept rows
  pub closed : IsClosed (run_of capacity topology kept rows)
  pub receipts : HasReceipts kept passes plan

-- Why a run isn't closed: the first cause in the order in which a run is checked, where tables have a size that is allowed, records
-- and rows are the topology's and the receipts are right.
abbrev pub IsOpen : Run → Disagree → Type 0
IsOpen run Shape = ⊥
IsOpen run (LinkPut link dir) = IsFirstPut run link dir
IsOpen run (LinkTaken link dir) = PutsAgree run (length run.links) × IsFirstTaken run link dir
IsOpen run (Stranger link row) = PutsAgree run (length run.links) × TakensAgree run (length run.links) × IsFirstStranger run link row
IsOpen run (NotQuiet link) =
    PutsAgree run (length run.links) × TakensAgree run (length run.links) × HasNoStranger run (length run.links) × IsFirstNoisy run link
IsOpen run (cause.Receipts worker) = ⊥

-- where tables have a size that is allowed, and records and rows are the topology's: the cause is there, and none before it
abbrev pub IsFirstIn : Run → List Record → List Receipts → List Planned → Disagree → Type 0
IsFirstIn run kept passes plan (cause.Receipts worker) =
    PutsAgree run (length run.links) × TakensAgree run (length run.links) × HasNoStranger run (length run.links) × IsQuiet run (length run.links)
    × IsFirstWrong kept passes plan worker
IsFirstIn run kept passes plan d = IsOpen run d

-- the cause is there, and none before it
abbrev pub IsFirst : (capacity : ℕ) → Topology → List Record → List (Vec Row Global) → List Receipts → List Planned → Disagree → Type 0
IsFirst capacity topology kept rows passes plan Shape = ¬ HasShape capacity topology kept rows
IsFirst capacity topology kept rows passes plan d = HasShape capacity topology kept rows × IsFirstIn (run_of capacity topology kept rows) kept passes plan d

-- whatever the receipts are
unfoldable pub IsFirstOfAll : (capacity : ℕ) → Topology → List Record → List (Vec Row Global) → Disagree → Type 0
IsFirstOfAll capacity topology kept rows d = (passes : List Receipts) (plan : List Planned) → IsFirst capacity topology kept rows passes plan d

-- of a fault that is a disagreement
abbrev pub IfDisagree : CheckFault → (Disagree → Type 0) → Type 0
IfDisagree (fault.Disagree d) P = P d
IfDisagree fault.NoMemory P = ⊤

-- ---- no storm

-- Where there is no RedBox and nothing was forgotten, no direction of a link carried two copies of one send.
unfoldable pub HasNoStorm : Run → Type 0
HasNoStorm run = HasNoRedBox run → IsCalm run
