-- The page of a plan, by what was gathered of it.
--     IsPageOf      a page with these numbers
--     is_doubtful   it tells a doubt
--     IsReport      the page of the plan that octets say, and how a run ends that writes it
--     ReportEnds    how a run over a plan ends that writes its page, what it wrote, and what it told
use Rattle.std.specs.Prelude.{ℕ, ◌≡◌, ◌*◌, ◌-◌, ◌^◌, ◌⊎◌, ⊤, min, ◌&&◌, ◌||◌, not, Bool, true, false, List, [], length, Option, Some, None, Result, Ok, Err}
use Rattle.std.specs.Io.KnownBytes.{Appends, Keeps}
use Rattle.std.specs.Str.{IsTrimAsciiEnd, IsUtf8}
use Rattle.std.specs.Str.Lossy.{utf8_lossy}
use Rattle.hex.specs.Hex.{encode_lower}
use Rattle.sha2.specs.Sha256.{sha256}
use Rattle.hsr_certify_text.specs.declared.verdict.Verdict.{Verdict}
use Rattle.hsr_certify_text.specs.declared.verdict.Verdict.TheVariants.{Certified, Doubted as IsDoubted}
use Rattle.hsr_plan_text.specs.Plan.{Plan}
use Rattle.hsr_plan_text.specs.declared.plan.Moves.{Moves}
use Rattle.hsr_plan_text.specs.declared.plan.Moves.TheVariants.{Timed}
use Rattle.hsr_plan_text.specs.declared.plan.Transfer.TheVariants as transfer
use Rattle.hsr_plan_text.specs.declared.fault.PlanFault.{PlanFault}
use Rattle.hsr_plan_scenario.specs.Ends.{TellsFault, TellsInput}
use Rattle.hsr_plan_scenario.specs.Runs.{IsUnrunOf}
use Rattle.hsr_plan_scenario.specs.declared.planning.Ending.{Ending}
use Rattle.hsr_plan_scenario.specs.declared.planning.Ending.TheVariants.{Planned, Doubted, Refused, Failed, Unwritten}
use Rattle.hsr_plan_page.specs.Whole.{IsPlanPage}
use Rattle.hsr_plan_page.specs.declared.facts.CaseRow.{CaseRow}
use Rattle.hsr_plan_page.specs.declared.facts.Facts.{Facts}
use Rattle.hsr_plan_sweep.specs.Refusals.{IsUnswept}
use Rattle.hsr_plan_sweep.specs.Swept.{IfHidden, ending_of}
use Rattle.hsr_plan_sweep.specs.Variants.{bared, plan_in}
use Rattle.hsr_plan_sweep.specs.Verdict.{is_in_doubt}
use Rattle.hsr_plan_sweep.specs.declared.playing.Played.{Played}
use Rattle.hsr_plan_report.specs.Gathered.{IsBareOf, IsSweepOf, IsUnreportedBare, asked_with}
use Rattle.hsr_plan_report.specs.Own.{IsOwnOf}
use Rattle.hsr_plan_report.specs.declared.asked.Asked.{Asked}
use Rattle.hsr_plan_report.specs.declared.gathered.Bare.{Bare}
use Rattle.hsr_plan_report.specs.declared.gathered.Swept.{Swept}
use Rattle.hsr_plan_report.specs.declared.own.Own.{Own}

-- ---- the page

abbrev pub rows_if : Option Swept → List CaseRow
rows_if None = []
rows_if (Some swept) = swept.rows.items

abbrev pub bare_rows : Bare → List CaseRow
bare_rows bare = rows_if bare.swept

abbrev pub is_certified : Verdict → Bool
is_certified (Certified sends) = true
is_certified (IsDoubted doubt) = false

-- a line without its end, as a page shows it; what were no UTF-8 would be replaced
pub record IsShown (line text : List ℕ) : Type 0 where
  pub trimmed : List ℕ
  pub ends : IsTrimAsciiEnd line trimmed
  pub is : text ≡ utf8_lossy trimmed

-- what a direction of a link carries, in kbit/s: as the plan says of its wires, else 100 Mbit/s
abbrev pub rate_of : Moves → ℕ
rate_of (Timed (transfer.Wire wire)) = min (wire.rate * 1000) (2 ^ 64 - 1)
rate_of _ = 100000

-- its sum is that of the plan's text, in hexadecimal digits
abbrev pub sum_of : List ℕ → List ℕ
sum_of text = encode_lower (sha256 text)

-- its numbers and lines are those that were gathered, and what was asked
pub record IsPageOf (text : List ℕ) (plan : Plan) (asked : Asked) (own : Own) (swept : Swept) (bare : Bare) (page : List ℕ) : Type 0 where
  pub facts : Facts
  pub is : IsPlanPage facts page
  pub octets : facts.octets ≡ length text
  pub sum : facts.sum.now ≡ sum_of text
  pub within : facts.within ≡ asked.within
  pub at : facts.at ≡ asked.at
  pub limit_load : facts.limit_load ≡ asked.limit_load
  pub limit_latency : facts.limit_latency ≡ asked.limit_latency
  pub rate : facts.rate ≡ rate_of plan.outline.moves
  pub any_order : IsShown own.certification.line.items facts.in_any_order.line.now
  pub certified : facts.in_any_order.is_certified ≡ is_certified own.certification.verdict
  pub in_run : IsShown own.run.found.items facts.in_run.line.now
  pub certain : facts.in_run.is_certified ≡ own.run.is_certified
  pub budget : IsShown own.run.budget.items facts.budget.now
  pub table : facts.table ≡ 512
  pub tally : facts.tally ≡ own.run.tally
  pub streams : facts.streams.now ≡ own.run.streams.items
  pub loads : facts.loads.now ≡ own.run.load.channels.items
  pub latencies : facts.latencies.now ≡ own.run.latency.nodes.items
  pub outages : facts.outages.now ≡ bare.outages.items
  pub cases : facts.cases.now ≡ swept.rows.items
  pub bare_cases : facts.bare_cases.now ≡ bare_rows bare

-- ---- doubts

abbrev pub played_if : List Played → Option Swept → List Played
played_if plays None = plays
played_if plays (Some alone) = alone.played.plays.items

-- the runs in which a link or a node alone is off: those without the plan's own events, if it has some
abbrev pub played_alone : Swept → Bare → List Played
played_alone swept bare = played_if swept.played.plays.items bare.swept

abbrev pub is_doubtful : Asked → Own → Swept → Bare → Bool
is_doubtful asked own swept bare =
    not (is_certified own.certification.verdict && own.run.is_certified) || is_in_doubt (asked_with asked false) (played_alone swept bare)

-- ---- reports

pub record IsReportOf (text : List ℕ) (plan : Plan) (asked : Asked) (page : List ℕ) (ending : Ending) : Type 0 where
  pub own : Own
  pub is_own : IsOwnOf text plan asked.within own
  pub swept : Swept
  pub is_swept : IsSweepOf plan (asked_with asked false) swept
  pub bare : Bare
  pub is_bare : IsBareOf (bared true plan) asked bare
  pub is_page : IsPageOf text plan asked own swept bare page
  pub ends : ending ≡ ending_of (is_doubtful asked own swept bare)

-- octets are a text, and this is the page of what it says as a plan
abbrev pub IsReport : List ℕ → Asked → List ℕ → Ending → Type 0
IsReport octets asked page ending = IsUtf8 octets × ((plan : Plan) × (plan_in false octets ≡ Ok plan) × IsReportOf octets plan asked page ending)

-- a plan has no run, or one of its sweeps isn't played
abbrev pub IsUnreported : Plan → Asked → Type 0
IsUnreported plan asked = IsUnrunOf 512 plan ⊎ (IsUnswept plan (asked_with asked false) ⊎ IsUnreportedBare (bared true plan) asked)

abbrev pub IsUnreportedIf : Result Plan PlanFault → Asked → Type 0
IsUnreportedIf (Ok plan) asked = IsUnreported plan asked
IsUnreportedIf (Err fault) asked = ⊤

-- octets are no text; or one that is no plan, or a plan that has no page
abbrev pub IsUnreportable : List ℕ → Asked → Type 0
IsUnreportable octets asked = (¬ IsUtf8 octets) ⊎ IsUnreportedIf (plan_in false octets) asked

-- ---- ends

-- a page was written, and nothing told
abbrev pub WritesReport : List ℕ → Asked → Bool → Option (List ℕ) → Option (List ℕ) → Option (List ℕ) → Option (List ℕ) → Ending → Type 0
WritesReport octets asked shown held holds told tells ending = (page : List ℕ) × IsReport octets asked page ending × Appends held holds page × IfHidden shown (Keeps told tells)

-- A page was written, with a doubt or without, and nothing told; or there is none, and nothing was written, and a fault told; or the text wasn't
-- read, or an allocation failed, and nothing was written, and that told; of a failed write no more is said than that nothing was told. What is told
-- of a run that shows how far it is stays open.
abbrev pub ReportEnds : List ℕ → Asked → Bool → Option (List ℕ) → Option (List ℕ) → Option (List ℕ) → Option (List ℕ) → Ending → Type 0
ReportEnds octets asked shown held holds told tells Planned = WritesReport octets asked shown held holds told tells Planned
ReportEnds octets asked shown held holds told tells Doubted = WritesReport octets asked shown held holds told tells Doubted
ReportEnds octets asked shown held holds told tells Refused = IsUnreportable octets asked × Keeps held holds × IfHidden shown (TellsFault told tells)
ReportEnds octets asked shown held holds told tells Failed = Keeps held holds × IfHidden shown (TellsInput told tells)
ReportEnds octets asked shown held holds told tells Unwritten = IfHidden shown (Keeps told tells)
