-- Parts that agree are a finished run without a storm; parts with a cause don't agree.
use Rattle.std.proofs.Common.{◌≡◌, ℕ, false, List, [], None, length, map, Vec, sym, ◌∙◌}
use Rattle.std.specs.Global.{Global}
use Rattle.std.proofs.lemmas.Bool.{false≢true}
use Rattle.hsr_node.specs.Kept.{Receipts, Record}
use Rattle.hsr_link.specs.declared.row.Dir.TheVariants.{Forth}
use Rattle.hsr_link.specs.declared.row.Fate.TheVariants.{Queued}
use Rattle.hsr_link.specs.declared.row.Row.{Row}
use Rattle.hsr_finished_run.specs.Checked.{Agrees, AreLegal, HasNoStorm, HasNoStranger, IsFirst, IsFirstOfAll, IsQuiet, IsSettledRun, PutsAgree, TakensAgree}
use Rattle.hsr_finished_run.specs.Finished.{IsFinished, run_of}
use Rattle.hsr_finished_run.specs.Receipts.{HasReceipts, IsFirstWrong}
use Rattle.hsr_run_laws.specs.Run.{rows_of}
use Rattle.hsr_finished_run.specs.Shape.{HasShape}
use Rattle.hsr_topology.specs.Topology.{Topology}
use Rattle.hsr_topology.specs.Wired.{IsWired}
use Rattle.hsr_finished_run.specs.declared.disagree.Disagree.{Disagree}
use Rattle.hsr_finished_run.specs.declared.disagree.Disagree.TheVariants.{Shape, LinkPut, LinkTaken, Stranger, NotQuiet}
use Rattle.hsr_finished_run.specs.declared.disagree.Disagree.TheVariants as cause
use Rattle.hsr_finished_run.specs.declared.planned.Planned.{Planned}
use Rattle.hsr_finished_run.proofs.Closing.{closed, known_rows, quiet_rows}
use Rattle.hsr_run_laws.proofs.NoStorm.{no_storm}
use Rattle.hsr_finished_run.proofs.Plan.{is_planned}
use Rattle.hsr_finished_run.proofs.Shaped.{from_there}
use Rattle.hsr_run_laws.proofs.WithoutBoxes.{boxless}

any_row : Row
any_row = record { dir = Forth; carried = record { probe = None; octets = [] }; injected = false; fate = Queued }

pub settled : (capacity : ℕ) (topology : Topology) (kept : List Record) (rows : List (Vec Row Global)) → IsWired topology.places topology.links → HasShape capacity topology kept rows →
    AreLegal capacity kept (length kept) →
    PutsAgree (run_of capacity topology kept rows) (length topology.links) → TakensAgree (run_of capacity topology kept rows) (length topology.links) →
    HasNoStranger (run_of capacity topology kept rows) (length topology.links) → IsQuiet (run_of capacity topology kept rows) (length topology.links) →
    IsSettledRun capacity topology kept rows
settled capacity topology kept rows wired shaped legal puts takens known quiet = record {
  shaped = shaped.1;
  closed = closed capacity topology kept rows shaped.1 shaped.0 wired legal puts takens known quiet;
  puts = puts;
  takens = takens;
  known = known;
  quiet = quiet;
}

module _ (capacity : ℕ) (topology : Topology) (kept : List Record) (rows : List (Vec Row Global)) (passes : List Receipts) (plan : List Planned) where
  pub agrees : IsSettledRun capacity topology kept rows → HasReceipts kept passes plan → Agrees capacity topology kept rows passes plan
  agrees is receipts = record { shaped = is.shaped; closed = is.closed; receipts = receipts }

  pub receipts_first : IsSettledRun capacity topology kept rows → (worker : ℕ) → IsFirstWrong kept passes plan worker → IsFirst capacity topology kept rows passes plan (cause.Receipts worker)
  receipts_first is worker wrong = ((is.closed.tables, is.shaped), (is.puts, is.takens, is.known, is.quiet, wrong))

  pub any_first : (d : Disagree) → IsFirstOfAll capacity topology kept rows d → IsFirst capacity topology kept rows passes plan d
  unfolding IsFirstOfAll
  any_first d first = first passes plan

  pub refused : (d : Disagree) → IsFirst capacity topology kept rows passes plan d → ¬ Agrees capacity topology kept rows passes plan
  unfolding HasReceipts
  refused Shape first all = first (all.closed.tables, all.shaped)
  refused (LinkPut link dir) first all = first.1.here (all.closed.put link dir first.1.below)
  refused (LinkTaken link dir) first all = first.1.1.here (all.closed.taken link dir first.1.1.below)
  refused (Stranger link row) first all =
      let run = run_of capacity topology kept rows in
      let is = first.1.2 in
      let settled = known_rows run (rows_of run link) (all.closed.settled link is.below) in
      is.here.here any_row (settled row any_row is.here.below)
  refused (NotQuiet link) first all =
      let run = run_of capacity topology kept rows in
      let is = first.1.3 in
      absurd (false≢true (sym (quiet_rows run (rows_of run link) (all.closed.settled link is.below)) ∙ is.here))
  refused (cause.Receipts worker) first all = first.1.4.here (all.receipts worker)

  pub finished : IsWired topology.places topology.links → Agrees capacity topology kept rows passes plan →
      (map (λ (r : Record). r.place) kept ≡ topology.places) × IsFinished (record { run = run_of capacity topology kept rows; plan = plan })
  unfolding HasReceipts
  finished wired all = (
    all.shaped.places,
    record {
      wired = wired;
      closed = all.closed;
      planned = is_planned capacity topology kept rows passes plan all.shaped (all.receipts 0);
    },
  )

  pub calm : IsWired topology.places topology.links → Agrees capacity topology kept rows passes plan → HasNoStorm (run_of capacity topology kept rows)
  unfolding HasNoStorm
  calm wired all = λ boxes.
      let run = run_of capacity topology kept rows in
      no_storm run (λ l dir below. from_there topology.places topology.links wired l dir below) all.closed (boxless run all.closed boxes)
