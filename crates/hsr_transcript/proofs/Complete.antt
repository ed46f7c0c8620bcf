-- What the text of a finished run says is never refused, and stands for that run again.
use Rattle.std.proofs.Common.{◌≡◌, inl, inr, ℕ, List, map, Vec, sym, ap, ◌∙◌, subst, subst₂}
use Rattle.std.specs.Global.{Global}
use Rattle.hsr_node.specs.Kept.{Receipts, Record}
use Rattle.hsr_link.specs.declared.row.Row.{Row}
use Rattle.hsr_finished_run.specs.Checked.{Agrees}
use Rattle.hsr_run_laws.specs.Closed.{IsClosed}
use Rattle.hsr_finished_run.specs.Finished.{Finished, IsFinished, items_of, run_of}
use Rattle.hsr_finished_run.specs.Receipts.{HasReceipts}
use Rattle.hsr_run_laws.specs.Run.{Run}
use Rattle.hsr_finished_run.specs.Shape.{IsShaped}
use Rattle.hsr_topology.specs.Topology.{Topology}
use Rattle.hsr_finished_run.specs.declared.disagree.Disagree.{Disagree}
use Rattle.hsr_transcript.specs.Answers.{Disagreeing}
use Rattle.hsr_transcript.specs.Judged.{IsRefused, Standing, Stands, records_line}
use Rattle.hsr_transcript.specs.Order.{IsOrder}
use Rattle.hsr_text.specs.declared.time_unit.TimeUnit.{TimeUnit}
use Rattle.hsr_transcript.specs.Transcript.{said_in}
use Rattle.hsr_transcript.proofs.Numbered.{entries_from}
use Rattle.hsr_transcript.proofs.Plans.{one_plan, planned_order}
use Rattle.hsr_transcript.proofs.Shapes.{shaped}
use Rattle.hsr_transcript.proofs.Unlike.{none_unlike}

-- the plan of the run has the order that is said
has_order : (f : Finished) → IsFinished f → IsOrder (map (λ p. p.node) f.plan) f.run.records f.plan
has_order f finished = planned_order f.run f.plan finished.closed.records finished.planned

pub not_refused : (unit : TimeUnit) (f : Finished) → IsFinished f → (line : ℕ) → IsRefused f.run.capacity (said_in unit f) line → ⊥
not_refused unit f finished line (inl h) = h.0 finished.wired
not_refused unit f finished line (inr (inl h)) = h.1 f.plan (has_order f finished)
not_refused unit f finished line (inr (inr h)) = none_unlike f.run.capacity f.run.places f.run.records (records_line (said_in unit f)) line finished.closed.records finished.closed.legal h.2

pub plan_again : (unit : TimeUnit) (f : Finished) → IsFinished f → (s : Standing) → Stands f.run.capacity (said_in unit f) s → s.plan ≡ f.plan
plan_again unit f finished s stands = one_plan (map (λ p. p.node) f.plan) f.run.records s.plan f.plan stands.plan (has_order f finished)

pub run_again : (unit : TimeUnit) (f : Finished) → IsFinished f → (s : Standing) → Stands f.run.capacity (said_in unit f) s → (rows : List (Vec Row Global)) → map items_of rows ≡ s.rows
    → run_of f.run.capacity s.topology s.records rows ≡ f.run
run_again unit f finished s stands rows same =
    let records : map (λ (r : Record). r.entries) s.records ≡ f.run.records =
    ap (map (λ (r : Record). r.entries)) stands.records ∙ entries_from 0 f.run.places f.run.records finished.closed.records in
    let carried : map items_of rows ≡ f.run.rows = same ∙ stands.rows in
    λ i. record { capacity = f.run.capacity; places = (stands.topology i).places; links = (stands.topology i).links; records = records i; rows = carried i }

pub agrees_again : (unit : TimeUnit) (f : Finished) → IsFinished f → (s : Standing) → Stands f.run.capacity (said_in unit f) s → (rows : List (Vec Row Global)) → map items_of rows ≡ s.rows
    → (passes : List Receipts) → HasReceipts s.records passes s.plan → Agrees f.run.capacity s.topology s.records rows passes s.plan
agrees_again unit f finished s stands rows same passes receipts = record {
  shaped = subst₂ (λ (t : Topology) (kept : List Record). IsShaped t kept rows) (sym stands.topology) (sym stands.records) (shaped f.run rows finished.wired finished.closed (same ∙ stands.rows));
  closed = subst (λ (run : Run). IsClosed run) (sym (run_again unit f finished s stands rows same)) finished.closed;
  receipts = receipts;
}

pub not_disagreeing : (unit : TimeUnit) (f : Finished) → IsFinished f → (cause : Disagree) → Disagreeing f.run.capacity (said_in unit f) cause → ⊥
not_disagreeing unit f finished cause d = d.refused (agrees_again unit f finished d.standing d.stands d.rows d.same d.passes d.receipts)
