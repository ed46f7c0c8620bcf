-- What the types of the code tell of all of a run.
use Rattle.std.specs.Prelude.{ℕ, ◌<◌, ◌^◌, List, length}
use Rattle.std.specs.List.{AllByRecursion}
use Rattle.hsr_node.specs.declared.entry.Entry.{Entry}
use Rattle.hsr_link.specs.declared.row.Row.{Row}
use Rattle.hsr_finished_run.specs.Finished.{Finished}
use Rattle.hsr_run_laws.specs.Run.{record_of, rows_of}
use Rattle.hsr_transcript_lines.specs.Fits.{IsEntryFit, IsPlaceFit, IsRowFit}

abbrev pub AreEntriesFit : List Entry → Type 0
AreEntriesFit entries = (length entries < 2 ^ 64) × AllByRecursion IsEntryFit entries

abbrev pub AreRowsFit : List Row → Type 0
AreRowsFit rows = (length rows < 2 ^ 64) × AllByRecursion IsRowFit rows

pub record Fits (f : Finished) : Type 0 where
  pub places : AllByRecursion IsPlaceFit f.run.places
  pub plan : length f.plan < 2 ^ 64
  pub records : (k : ℕ) → k < length f.run.places → AreEntriesFit (record_of f.run k)
  pub rows : (l : ℕ) → l < length f.run.links → AreRowsFit (rows_of f.run l)
