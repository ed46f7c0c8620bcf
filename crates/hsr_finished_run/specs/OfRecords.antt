-- What records, rows and a plan are, with the passes that the records and the plan tell.
--     ArePassesOf   the passes that they tell
--     IsClosedOf    with these the parts agree, and are this finished run
--     IsOpenOf      with these they don't agree, and this is the first cause
use Rattle.std.specs.Prelude.{ℕ, ◌≡◌, List, Vec}
use Rattle.std.specs.Global.{Global}
use Rattle.hsr_node.specs.Kept.{Receipts, Record}
use Rattle.hsr_link.specs.declared.row.Row.{Row}
use Rattle.hsr_topology.specs.Topology.{Topology}
use Rattle.hsr_finished_run.specs.Checked.{Agrees, IsFirst}
use Rattle.hsr_finished_run.specs.Finished.{Finished, run_of}
use Rattle.hsr_finished_run.specs.Passes.{AreByPlan, AreByWorker, IsToldBy, others_of, receipts_of}
use Rattle.hsr_finished_run.specs.Receipts.{HasReceipts}
use Rattle.hsr_finished_run.specs.declared.disagree.Disagree.{Disagree}
use Rattle.hsr_finished_run.specs.declared.planned.Planned.{Planned}

-- Pass w is worker w's: of the main worker by the plan, of all others their entries in node and place order. They are right
-- ones where the records tell of the plan.
pub record ArePassesOf (kept : List Record) (plan : List Planned) (passes : List Receipts) : Type 0 where
  pub right : IsToldBy kept plan → HasReceipts kept passes plan
  pub workers : AreByWorker 0 passes
  pub main : AreByPlan kept plan (receipts_of 0 passes)
  pub others : (w : ℕ) → (w ≡ 0 → ⊥) → receipts_of w passes ≡ others_of w 0 kept

pub record IsClosedOf (capacity : ℕ) (topology : Topology) (kept : List Record) (rows : List (Vec Row Global)) (plan : List Planned) (closed : Finished) : Type 0 where
  pub passes : List Receipts
  pub told : ArePassesOf kept plan passes
  pub is : closed ≡ record { run = run_of capacity topology kept rows; plan = plan }
  pub agrees : Agrees capacity topology kept rows passes plan

pub record IsOpenOf (capacity : ℕ) (topology : Topology) (kept : List Record) (rows : List (Vec Row Global)) (plan : List Planned) (d : Disagree) : Type 0 where
  pub passes : List Receipts
  pub told : ArePassesOf kept plan passes
  pub first : IsFirst capacity topology kept rows passes plan d
  pub refused : ¬ Agrees capacity topology kept rows passes plan

-- ---- whatever passes are told

unfoldable pub AllAgreeOf : (capacity : ℕ) → Topology → List Record → List (Vec Row Global) → List Planned → Type 0
AllAgreeOf capacity topology kept rows plan = (passes : List Receipts) → ArePassesOf kept plan passes → Agrees capacity topology kept rows passes plan

unfoldable pub IsFirstOf : (capacity : ℕ) → Topology → List Record → List (Vec Row Global) → List Planned → Disagree → Type 0
IsFirstOf capacity topology kept rows plan d = (passes : List Receipts) → ArePassesOf kept plan passes → IsFirst capacity topology kept rows passes plan d
