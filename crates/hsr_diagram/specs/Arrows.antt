-- The arrows of a picture.
--     hops_by_link   the hops of a run, link by link
--     look_of        what became of a copy
--     arrow_of       the arrow of a row: from the entry that passed its copy to the entry that judged it
use Rattle.std.specs.Prelude.{ℕ, zero, suc, Bool, true, false, if◌then◌else◌, List, [], ◌∷◌, ◌++◌, slice_get, slice_index_or, Option, Some, None}
use Rattle.std.specs.Option.{option_and_then}
use Rattle.hsr_frame.specs.declared.node.Cause.{Cause}
use Rattle.hsr_frame.specs.declared.node.Cause.TheVariants.{Passed, Duplicate, Returned}
use Rattle.hsr_node.specs.declared.entry.Entry.{Entry}
use Rattle.hsr_node.specs.declared.event.Outcome.{Outcome}
use Rattle.hsr_node.specs.declared.event.Outcome.TheVariants.{Judged}
use Rattle.hsr_run_laws.specs.Run.{Run, record_of, rows_of}
use Rattle.hsr_timeline.specs.declared.origin.Spot.{Spot}
use Rattle.hsr_timeline.specs.declared.stamp.Stamp.{Stamp}
use Rattle.hsr_timeline.specs.declared.hop.Hop.{Hop}
use Rattle.hsr_timeline.specs.Hops.{hops_from}
use Rattle.hsr_timeline.specs.declared.shown.Shown.{Shown}
use Rattle.hsr_diagram.specs.declared.arrow.Arrow.{Arrow}
use Rattle.hsr_diagram.specs.declared.arrow.Look.{Look}
use Rattle.hsr_diagram.specs.declared.arrow.Look.TheVariants.{TakenUp, SentOn, Again, Home, Refused, Lost}

-- ---- hops

-- those of the links below one
abbrev pub hops_by_link : Run → ℕ → List (List Hop)
hops_by_link run zero = []
hops_by_link run (suc l) = hops_by_link run l ++ hops_from run l 0 (rows_of run l) ∷ []

-- the hop of a row
abbrev pub hop_at : List (List Hop) → Shown → Option Hop
hop_at hops shown = slice_get (slice_index_or hops shown.link []) shown.number

abbrev pub passed_by : Option Hop → Option Spot
passed_by None = None
passed_by (Some hop) = hop.passed

abbrev pub judged_by : Option Hop → Option Spot
judged_by None = None
judged_by (Some hop) = hop.judged

-- ---- looks

-- what became of an arrival: whether it was taken up, and why not
abbrev pub look_by : Bool → Cause → Look
look_by true cause = TakenUp
look_by false Passed = SentOn
look_by false Duplicate = Again
look_by false Returned = Home
look_by false cause = Refused

abbrev pub outcome_look : Outcome → Look
outcome_look (Judged up ports seq cause) = look_by up cause
outcome_look outcome = Refused

abbrev pub entry_look : Option Entry → Look
entry_look None = Refused
entry_look (Some x) = outcome_look x.outcome

-- by the entry that judged the copy
abbrev pub look_at : Run → Option Spot → Look
look_at run None = Refused
look_at run (Some spot) = entry_look (slice_get (record_of run spot.node) spot.place)

abbrev pub look_of : Run → Bool → Option Spot → Look
look_of run is_lost judged = if is_lost then Lost else look_at run judged

-- ---- arrows

abbrev pub arrow_by : Run → (Spot → Option Stamp) → Shown → Option Hop → Arrow
arrow_by run stamp shown hop = record {
  row = shown;
  passed = passed_by hop;
  start = option_and_then stamp (passed_by hop);
  judged = judged_by hop;
  look = look_of run shown.is_lost (judged_by hop);
}

abbrev pub arrow_of : Run → List (List Hop) → (Spot → Option Stamp) → Shown → Arrow
arrow_of run hops stamp shown = arrow_by run stamp shown (hop_at hops shown)
