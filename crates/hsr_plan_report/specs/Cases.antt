-- What came of each run of a sweep, as rows of a page.
--     AreCaseRows   the rows of the first runs
use Rattle.std.specs.Prelude.{ℕ, ◌<◌, ◌≡◌, List, [], ◌∷◌, ◌++◌, length, slice_index_or}
use Rattle.std.specs.Str.{IsTrimAsciiEnd}
use Rattle.hsr_naming.specs.declared.naming.Naming.{Naming}
use Rattle.hsr_report.specs.Report.{spending_text}
use Rattle.hsr_plan_page.specs.declared.facts.CaseRow.{CaseRow}
use Rattle.hsr_plan_page.specs.declared.facts.Counts.{Counts}
use Rattle.hsr_plan_page.specs.declared.facts.Tally.{Tally}
use Rattle.hsr_plan_sweep.specs.Lines.{found_text}
use Rattle.hsr_plan_sweep.specs.declared.counting.Count.{Count}
use Rattle.hsr_plan_sweep.specs.declared.playing.Played.{Played}

abbrev pub tally_of : Count → Tally
tally_of count = record { sends = count.sends; complete = count.complete; needed = count.needed; latency = count.latency; load = count.load }

abbrev pub counts_of : Count → Counts
counts_of count = record { tally = tally_of count; missed = count.missed; twice = count.twice }

-- a row tells what was counted of its run, what that spent of its tables, and what was found, as the line of a sweep does
pub record IsCaseRow (naming : Naming) (played : Played) (row : CaseRow) : Type 0 where
  pub counts : row.counts ≡ counts_of played.count
  pub budget : row.budget.items ≡ spending_text naming played.count.spending
  pub found : IsTrimAsciiEnd (found_text naming played.count) row.found.items

-- one more row, that of a run
abbrev pub AddsRow : Naming → Played → List CaseRow → List CaseRow → Type 0
AddsRow naming played before after = (row : CaseRow) × IsCaseRow naming played row × (after ≡ before ++ row ∷ [])

-- those of the first runs
pub record AreCaseRows (naming : Naming) (plays : List Played) (n : ℕ) (rows : List CaseRow) : Type 0 where
  pub many : length rows ≡ n
  pub each : (i : ℕ) (played : Played) (row : CaseRow) → i < n → IsCaseRow naming (slice_index_or plays i played) (slice_index_or rows i row)
