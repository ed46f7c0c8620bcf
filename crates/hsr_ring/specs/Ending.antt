-- The finished run that a world's records, links and plan are, and why they are none.
--     AreRowsOf     rows of links
--     IsToldClosed  with such rows they are this finished run
--     IsToldOpen    with such rows they are none, for this first cause
--     IsKnownOnceEnded   where nothing is under way and nothing was injected, they agree with such rows
use Rattle.std.specs.Prelude.{ℕ, ◌≡◌, false, List, map, Vec}
use Rattle.std.specs.List.{list_any}
use Rattle.std.specs.Global.{Global}
use Rattle.hsr_node.specs.Kept.{Record}
use Rattle.hsr_link.specs.declared.row.Row.{Row}
use Rattle.hsr_finished_run.specs.Finished.{Finished, items_of}
use Rattle.hsr_finished_run.specs.OfRecords.{AllAgreeOf, IsClosedOf, IsOpenOf}
use Rattle.hsr_topology.specs.Topology.{Topology}
use Rattle.hsr_finished_run.specs.declared.disagree.Disagree.{Disagree}
use Rattle.hsr_finished_run.specs.declared.planned.Planned.{Planned}
use Rattle.hsr_world_laws.specs.Closing.{is_busy}
use Rattle.hsr_world_laws.specs.Origin.{is_injected}
use Rattle.hsr_world_laws.specs.Spans.{Span}
use Rattle.hsr_world_links.specs.Parting.{rows_in}

abbrev pub AreRowsOf : List Span → List (Vec Row Global) → Type 0
AreRowsOf spans rows = map items_of rows ≡ map rows_in spans

pub record IsToldClosed (capacity : ℕ) (topology : Topology) (kept : List Record) (plan : List Planned) (spans : List Span) (closed : Finished) : Type 0 where
  pub rows : List (Vec Row Global)
  pub of_links : AreRowsOf spans rows
  pub told : IsClosedOf capacity topology kept rows plan closed

pub record IsToldOpen (capacity : ℕ) (topology : Topology) (kept : List Record) (plan : List Planned) (spans : List Span) (d : Disagree) : Type 0 where
  pub rows : List (Vec Row Global)
  pub of_links : AreRowsOf spans rows
  pub told : IsOpenOf capacity topology kept rows plan d

abbrev pub IsKnownOnceEnded : ℕ → Topology → List Record → List Planned → List Span → Type 0
IsKnownOnceEnded capacity topology kept plan spans = list_any is_busy spans ≡ false → is_injected spans ≡ false
    → (rows : List (Vec Row Global)) → AreRowsOf spans rows → AllAgreeOf capacity topology kept rows plan
