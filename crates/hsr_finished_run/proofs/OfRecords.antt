-- Records and a plan with the passes that they tell: what agrees, and the first cause.
use Rattle.std.proofs.Common.{◌≡◌, ℕ, List, map, Vec, refl}
use Rattle.std.specs.Global.{Global}
use Rattle.hsr_node.specs.Kept.{Record}
use Rattle.hsr_link.specs.declared.row.Row.{Row}
use Rattle.hsr_finished_run.specs.Checked.{HasNoStorm, IsFirstOfAll, IsSettledRun}
use Rattle.hsr_finished_run.specs.Finished.{IsFinished, run_of}
use Rattle.hsr_finished_run.specs.OfRecords.{AllAgreeOf, IsClosedOf, IsFirstOf, IsOpenOf}
use Rattle.hsr_finished_run.specs.Passes.{IsToldBy}
use Rattle.hsr_finished_run.specs.declared.disagree.Disagree.{Disagree}
use Rattle.hsr_finished_run.specs.declared.disagree.Disagree.TheVariants as cause
use Rattle.hsr_finished_run.specs.declared.planned.Planned.{Planned}
use Rattle.hsr_topology.specs.Topology.{Topology}
use Rattle.hsr_topology.specs.Wired.{IsWired}
use Rattle.hsr_finished_run.proofs.Agreed.{agrees, calm, finished, receipts_first, refused}
use Rattle.hsr_finished_run.proofs.Existing.{has_passes, not_told}

module _ (capacity : ℕ) (topology : Topology) (kept : List Record) (rows : List (Vec Row Global)) (plan : List Planned) where
  pub agree : IsSettledRun capacity topology kept rows → IsToldBy kept plan → AllAgreeOf capacity topology kept rows plan
  unfolding AllAgreeOf
  agree is told passes of = agrees capacity topology kept rows passes plan is (of.right told)

  pub plan_first : IsSettledRun capacity topology kept rows → (IsToldBy kept plan → ⊥) → IsFirstOf capacity topology kept rows plan (cause.Receipts 0)
  unfolding IsFirstOf
  plan_first is other passes of = receipts_first capacity topology kept rows passes plan is 0 (not_told capacity topology kept rows passes plan is.shaped other)

  pub first_of : (d : Disagree) → IsFirstOfAll capacity topology kept rows d → IsFirstOf capacity topology kept rows plan d
  unfolding IsFirstOf IsFirstOfAll
  first_of d first passes of = first passes plan

  -- ---- with passes that are there

  pub closed_of : AllAgreeOf capacity topology kept rows plan → IsClosedOf capacity topology kept rows plan (record { run = run_of capacity topology kept rows; plan = plan })
  unfolding AllAgreeOf
  closed_of all = let there = has_passes kept plan in record { passes = there.passes; told = there.told; is = refl; agrees = all there.passes there.told }

  pub open_of : (d : Disagree) → IsFirstOf capacity topology kept rows plan d → IsOpenOf capacity topology kept rows plan d
  unfolding IsFirstOf
  open_of d first =
      let there = has_passes kept plan in
      let is = first there.passes there.told in
      record { passes = there.passes; told = there.told; first = is; refused = refused capacity topology kept rows there.passes plan d is }

  pub finished_of : IsWired topology.places topology.links → AllAgreeOf capacity topology kept rows plan →
      (map (λ (r : Record). r.place) kept ≡ topology.places) × IsFinished (record { run = run_of capacity topology kept rows; plan = plan })
  finished_of wired all = finished capacity topology kept rows (closed_of all).passes plan wired (closed_of all).agrees

  pub calm_of : IsWired topology.places topology.links → AllAgreeOf capacity topology kept rows plan → HasNoStorm (run_of capacity topology kept rows)
  calm_of wired all = calm capacity topology kept rows (closed_of all).passes plan wired (closed_of all).agrees
