-- The count of a plan's run, and those of all cases.
use Rattle.std.specs.Prelude.{◌≡◌, ◌++◌, List, length, Result, Ok, Err}
use Rattle.std.specs.List.{AllZip}
use Rattle.hsr_finished_run.specs.Finished.{Finished}
use Rattle.hsr_run_laws.specs.Run.{Run}
use Rattle.hsr_ring.specs.Finishing.{IsFinishedBy}
use Rattle.hsr_plan_text.specs.Plan.{Plan}
use Rattle.hsr_plan_text.specs.declared.fault.PlanFault.{PlanFault}
use Rattle.hsr_plan_schedule.specs.Meaning.{Meaning}
use Rattle.hsr_plan_hops.specs.Moving.{MeansMoved}
use Rattle.hsr_plan_sweep.specs.Audience.{Audience}
use Rattle.hsr_plan_sweep.specs.Counting.{IsCounted}
use Rattle.hsr_plan_sweep.specs.Sendings.{streams_by}
use Rattle.hsr_plan_sweep.specs.Variants.{Ground, varied}
use Rattle.hsr_plan_sweep.specs.declared.cases.Case.{Case}
use Rattle.hsr_plan_sweep.specs.declared.counting.Count.{Count}
use Rattle.hsr_plan_sweep.specs.declared.playing.Played.{Played}

-- those at whom the sends of a plan may be due
abbrev pub audience : Plan → Meaning → Audience
audience plan m = record { nodes = m.nodes; streams = plan.streams; events = plan.events }

-- the count of a run of what a plan means
abbrev pub IsCountedOf : Plan → Meaning → Run → Count → Type 0
IsCountedOf plan m run count = IsCounted (audience plan m) (streams_by m.sends m.orders (length run.places)) run count

-- with tables of 512 entries
pub record IsCountOfMeaning (plan : Plan) (m : Meaning) (count : Count) : Type 0 where
  pub run : Finished
  pub finished : IsFinishedBy 512 m.topology m.capacity m.orders run
  pub counted : IsCountedOf plan m run.run count

pub record IsCountOf (plan : Plan) (count : Count) : Type 0 where
  pub meaning : Meaning
  pub means : MeansMoved 512 plan meaning
  pub counted : IsCountOfMeaning plan meaning count

-- P of what is said as a plan, where that is no fault
abbrev pub IfSays : Result Plan PlanFault → (Plan → Type 0) → Type 0
IfSays (Ok plan) P = P plan
IfSays (Err fault) P = ⊥

-- the count of a case is that of the run of what is said as a plan, with what is off in that case
abbrev pub IsPlayed : Result Plan PlanFault → Ground → Case → Played → Type 0
IsPlayed said g case played = (played.case ≡ case) × IfSays said (λ plan. IsCountOf (varied g case plan) played.count)

-- each case is counted
abbrev pub ArePlayed : Result Plan PlanFault → Ground → List Case → List Played → Type 0
ArePlayed said g cases plays = AllZip (IsPlayed said g) cases plays

-- and put behind others
abbrev pub AddsPlays : Result Plan PlanFault → Ground → List Case → List Played → List Played → Type 0
AddsPlays said g cases before after = (more : List Played) × (after ≡ before ++ more) × ArePlayed said g cases more
