-- What a text is read as.
--     Disagreeing   what a text stands for is no closed run
--     IsTextOf      a text of a run
--     Answers       the closed run whose text it is, or why it is the text of none
--     IsReadAs      no more than this run, or that reading or memory failed
use Rattle.std.specs.Prelude.{ℕ, ◌≡◌, ◌≤◌, ◌⊎◌, List, length, Result, Ok, Err, Vec, map}
use Rattle.std.specs.Global.{Global}
use Rattle.std.specs.List.{AllByRecursion}
use Rattle.hsr_text.specs.Moments.{IsMomentOf}
use Rattle.hsr_text.specs.declared.time_unit.TimeUnit.{TimeUnit}
use Rattle.hsr_node.specs.Kept.{Receipts}
use Rattle.hsr_link.specs.declared.row.Row.{Row}
use Rattle.hsr_run_laws.specs.Run.{record_of}
use Rattle.hsr_finished_run.specs.Checked.{Agrees, IsFirst}
use Rattle.hsr_finished_run.specs.Finished.{Finished, items_of}
use Rattle.hsr_finished_run.specs.OfRecords.{IsClosedOf, IsOpenOf}
use Rattle.hsr_finished_run.specs.Receipts.{HasReceipts}
use Rattle.hsr_finished_run.specs.declared.disagree.Disagree.{Disagree}
use Rattle.hsr_transcript.specs.Form.{form_of}
use Rattle.hsr_transcript.specs.Judged.{IsRefused, Standing, Stands}
use Rattle.hsr_transcript.specs.Transcript.{Said, run_text_in, said_in, said_lines}
use Rattle.hsr_transcript.specs.declared.fault.ReadFault.{ReadFault}
use Rattle.hsr_transcript.specs.declared.fault.ReadFault.TheVariants.{Version, BadLine, End, Disagrees, Read, NoMemory}

-- no line has more than 8192 octets
abbrev pub AreShort : List (List ℕ) → Type 0
AreShort lines = AllByRecursion (λ line. length line ≤ 8192) lines

-- What is said stands, but its records and rows are no closed run, whatever receipts its workers have; this is the first
-- cause.
pub record Disagreeing (capacity : ℕ) (t : Said) (cause : Disagree) : Type 0 where
  pub standing : Standing
  pub stands : Stands capacity t standing
  pub passes : List Receipts
  pub receipts : HasReceipts standing.records passes standing.plan
  pub rows : List (Vec Row Global)
  pub same : map items_of rows ≡ standing.rows
  pub first : IsFirst capacity standing.topology standing.records rows passes standing.plan cause
  pub refused : ¬ Agrees capacity standing.topology standing.records rows passes standing.plan

-- a text is out of form at this line, or in form and refused there
abbrev pub IsBadAt : ℕ → List ℕ → ℕ → Type 0
IsBadAt capacity text line =
    (form_of capacity text ≡ Err (BadLine line)) ⊎ ((t : Said) × (form_of capacity text ≡ Ok t) × IsRefused capacity t line)

-- each moment is one of this unit
abbrev pub IsTimed : TimeUnit → Finished → Type 0
IsTimed unit f = (k : ℕ) → AllByRecursion (λ x. IsMomentOf unit x.at) (record_of f.run k)

-- A text of this run, with no line too long: the one of version 2, or, where each moment is a multiple of 1000, the one of
-- version 1.
pub record IsTextOf (capacity : ℕ) (f : Finished) (text : List ℕ) : Type 0 where
  pub capacity_is : f.run.capacity ≡ capacity
  pub unit : TimeUnit
  pub timed : IsTimed unit f
  pub told : text ≡ run_text_in unit f
  pub short : AreShort (said_lines capacity (said_in unit f))

abbrev pub Answers : ℕ → Result Finished ReadFault → List ℕ → Type 0
Answers capacity (Ok f) text = IsTextOf capacity f text
Answers capacity (Err Version) text = form_of capacity text ≡ Err Version
Answers capacity (Err End) text = form_of capacity text ≡ Err End
Answers capacity (Err (BadLine line)) text = IsBadAt capacity text line
Answers capacity (Err (Disagrees cause)) text = (t : Said) × (form_of capacity text ≡ Ok t) × Disagreeing capacity t cause
Answers capacity (Err Read) text = Unit {0}
Answers capacity (Err NoMemory) text = Unit {0}

-- ---- of a run

-- the run is answered, unless reading or memory fails
abbrev pub IsReadAs : Finished → Result Finished ReadFault → Type 0
IsReadAs f (Ok read) = read ≡ f
IsReadAs f (Err Read) = Unit {0}
IsReadAs f (Err NoMemory) = Unit {0}
IsReadAs f (Err _) = ⊥

-- ---- on the way

-- what stands is closed, or is no closed run, with the passes that records and plan tell
abbrev pub Closes : ℕ → Standing → List (Vec Row Global) → Result Finished ReadFault → Type 0
Closes capacity s rows (Ok f) = IsClosedOf capacity s.topology s.records rows s.plan f
Closes capacity s rows (Err (Disagrees cause)) = IsOpenOf capacity s.topology s.records rows s.plan cause
Closes capacity s rows (Err NoMemory) = Unit {0}
Closes capacity s rows (Err _) = ⊥
