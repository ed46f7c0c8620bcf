-- What the plan's own run comes to, with tables of 512 entries, and the verdict in any order.
--     IsOwnRun   what a finished run comes to
--     IsOwn      what the run of what is meant comes to
--     IsOwnOf    what that of a plan comes to, and the verdict on it
use Rattle.std.specs.Prelude.{ℕ, ◌≡◌, Bool, true, false, List, length, Option}
use Rattle.hsr_finished_run.specs.Finished.{Finished}
use Rattle.hsr_latency.specs.Latencies.{latencies}
use Rattle.hsr_load.specs.Loads.{AreLoadsOf}
use Rattle.hsr_run_laws.specs.Run.{Run}
use Rattle.hsr_ring.specs.Finishing.{IsFinishedBy}
use Rattle.hsr_plan_text.specs.Plan.{Plan}
use Rattle.hsr_plan_schedule.specs.Meaning.{Meaning}
use Rattle.hsr_plan_hops.specs.Moving.{MeansMoved}
use Rattle.hsr_plan_certify.specs.Verdicts.{IsCertification}
use Rattle.hsr_plan_page.specs.declared.facts.StreamRow.{StreamRow}
use Rattle.hsr_plan_sweep.specs.Runs.{IsCountedOf, audience}
use Rattle.hsr_plan_sweep.specs.Sendings.{streams_by}
use Rattle.hsr_plan_sweep.specs.declared.counting.Count.{Count}
use Rattle.hsr_naming.specs.declared.names.Names.{Names}
use Rattle.hsr_naming.specs.declared.naming.Naming.{Naming}
use Rattle.hsr_naming.specs.declared.naming.Naming.TheVariants as naming
use Rattle.hsr_run_names.specs.Naming.{AreNamesOf}
use Rattle.hsr_plan_scenario.specs.Says.{names_meant_by}
use Rattle.hsr_report.specs.Report.{finding_line, spending_text}
use Rattle.hsr_report.specs.declared.finding.Finding.{Finding}
use Rattle.hsr_report.specs.declared.finding.Finding.TheVariants.{Certified, Doubt}
use Rattle.hsr_plan_report.specs.Cases.{tally_of}
use Rattle.hsr_plan_report.specs.StreamRows.{AreStreamRows}
use Rattle.hsr_plan_report.specs.declared.own.Own.{Own}
use Rattle.hsr_plan_report.specs.declared.own.OwnRun.{OwnRun}

abbrev pub is_certain : Finding → Bool
is_certain (Certified sends) = true
is_certain (Doubt doubt) = false

-- of which stream each send of a run is
abbrev pub streams_in : Meaning → Run → List (Option ℕ)
streams_in m run = streams_by m.sends m.orders (length run.places)

abbrev pub IsRunOfMeaning : Plan → Meaning → Run → Count → Type 0
IsRunOfMeaning plan m run count = IsCountedOf plan m run count

-- what came of each stream, and behind all of supervision
abbrev pub AreStreamsOf : Plan → Meaning → Run → List StreamRow → Type 0
AreStreamsOf plan m run rows = AreStreamRows (record { audience = audience plan m; run = run; streams = streams_in m run }) (length plan.streams) rows

-- nodes and sends are called by the names that are meant, as `hsr_plan run --names` calls them
abbrev pub IsCalled : Meaning → Run → Naming → Type 0
IsCalled m run called = (names : Names) × AreNamesOf run (names_meant_by m).names (names_meant_by m).streams names × (called ≡ naming.Names names)

-- its numbers, streams, loads, latencies and lines are those of the run
pub record IsOwnRun (plan : Plan) (m : Meaning) (run : Run) (own : OwnRun) : Type 0 where
  pub count : Count
  pub counted : IsRunOfMeaning plan m run count
  pub tally : own.tally ≡ tally_of count
  pub streams : AreStreamsOf plan m run own.streams.items
  pub loads : AreLoadsOf run own.load.channels.items
  pub latencies : own.latency.nodes.items ≡ latencies run
  pub certified : own.is_certified ≡ is_certain count.finding
  pub called : IsCalled m run own.naming
  pub found : own.found.items ≡ finding_line own.naming count.finding
  pub budget : own.budget.items ≡ spending_text own.naming count.spending

pub record IsOwn (plan : Plan) (m : Meaning) (own : OwnRun) : Type 0 where
  pub run : Finished
  pub finished : IsFinishedBy 512 m.topology m.capacity m.orders run
  pub is : IsOwnRun plan m run.run own

pub record IsOwnOf (text : List ℕ) (plan : Plan) (within : Option ℕ) (own : Own) : Type 0 where
  pub meaning : Meaning
  pub means : MeansMoved 512 plan meaning
  pub is : IsOwn plan meaning own.run
  pub certified : IsCertification 512 within text meaning own.certification.verdict own.certification.line.items
