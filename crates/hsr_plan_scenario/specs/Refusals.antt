-- Why a plan gives no scenario, and why octets are none.
--     MeansNothing   a plan means nothing, as it is told
--     IsUnmoved      a plan means nothing, once its copies move
--     IsUntold       what is meant has no text that tells it
--     IsTroubleOf    there is no scenario of a plan
--     IsUnplanned    there is none of what octets say as a plan
--     IsNoScenario   octets are no scenario that is played
--     IsLeftOpen     the run of a scenario isn't closed
use Rattle.std.specs.Prelude.{ℕ, ◌≡◌, ◌≢◌, ◌⊎◌, ◌<◌, ◌^◌, ⊤, IsOk, List, length, Option, Result, Ok, Err}
use Rattle.std.specs.Str.{IsUtf8}
use Rattle.hsr_world_steps.specs.declared.step.DrainFault.{DrainFault}
use Rattle.hsr_finished_run.specs.declared.disagree.Disagree.{Disagree}
use Rattle.hsr_ring.specs.Finishing.{IsUnfinishedBy}
use Rattle.hsr_ring.specs.declared.finishing.Unfinished.{Unfinished}
use Rattle.hsr_ring.specs.declared.finishing.Unfinished.TheVariants.{Step, Check}
use Rattle.hsr_scenario.specs.Meaning.{Meant, meaning}
use Rattle.hsr_scenario.specs.declared.fault.ScenarioFault.{ScenarioFault}
use Rattle.hsr_scenario.specs.declared.fault.What.{What}
use Rattle.hsr_scenario.specs.declared.fault.What.TheVariants.{NoMemory as NoRoom}
use Rattle.hsr_plan_text.specs.Fallible.{FailsAt}
use Rattle.hsr_plan_text.specs.Meaning.{plan_of}
use Rattle.hsr_plan_text.specs.Plan.{Outline, Plan}
use Rattle.hsr_plan_text.specs.declared.fault.PlanFault.{PlanFault}
use Rattle.hsr_plan_text.specs.declared.fault.Spot.TheVariants.{Top}
use Rattle.hsr_plan_text.specs.declared.fault.What.TheVariants.{NoMemory}
use Rattle.hsr_plan_schedule.specs.Meaning.{Meaning, listed}
use Rattle.hsr_plan_hops.specs.Moving.{MeansMoved}
use Rattle.hsr_plan_hops.specs.Refusing.{IsImmovable, MeansUnmoved}
use Rattle.hsr_plan_hops.specs.declared.unmoved.Unmoved.TheVariants as unmoved
use Rattle.hsr_plan_scenario.specs.Says.{Tells, entries_tried}
use Rattle.hsr_plan_scenario.specs.Spelled.{scenario_text}
use Rattle.hsr_plan_scenario.specs.declared.checking.Trouble.{Trouble}
use Rattle.hsr_plan_scenario.specs.declared.checking.Trouble.TheVariants.{Plan as Faulty, TooLong, Endless, Differs}
use Rattle.hsr_plan_scenario.specs.declared.judging.Wrong.{Wrong}
use Rattle.hsr_plan_scenario.specs.declared.judging.Wrong.TheVariants.{Told, Open}

-- ---- what a plan means

-- there is a fault in the network of a plan, its events, its supervision or its streams
abbrev pub MeansNothing : Plan → Type 0
MeansNothing plan = (fault : PlanFault) × (listed plan ≡ Err fault)

-- this is the first fault of a plan; or its copies move by hops or wires, and this is why they don't
abbrev pub IsUnmoved : ℕ → Plan → Trouble → Type 0
IsUnmoved capacity plan (Faulty fault) = FailsAt fault fault.what (listed plan)
IsUnmoved capacity plan (Endless limit) = MeansUnmoved capacity plan (unmoved.Endless limit)
IsUnmoved capacity plan Differs = MeansUnmoved capacity plan unmoved.Differs
IsUnmoved capacity plan (TooLong octets) = ⊥

-- ---- the scenario of what is meant

-- an allocation failed
abbrev pub no_room : Trouble
no_room = Faulty (record { spot = Top; what = NoMemory })

-- the trouble where a text isn't read for this cause
abbrev pub unread : What → Trouble
unread NoRoom = no_room
unread what = Differs

-- this holds, or an allocation failed
abbrev pub IfDiffers : Type 0 → Trouble → Type 0
IfDiffers P Differs = P
IfDiffers P trouble = trouble ≡ no_room

-- the text of what is meant has over 16 MiB, or isn't read as that
abbrev pub IsMisread : Outline → Meaning → Type 0
IsMisread outline m = ¬ Tells outline m (scenario_text outline m)

abbrev pub IsUntold : Outline → Meaning → Trouble → Type 0
IsUntold outline m (TooLong octets) = 2 ^ 24 < length (scenario_text outline m)
IsUntold outline m trouble = IfDiffers (IsMisread outline m) trouble

-- ---- the scenario of a plan

-- what a plan means isn't moved; or it is, and isn't told
abbrev pub IsTroubleOf : ℕ → Plan → Trouble → Type 0
IsTroubleOf capacity plan trouble = IsUnmoved capacity plan trouble ⊎ ((m : Meaning) × MeansMoved capacity plan m × IsUntold plan.outline m trouble)

-- ---- the scenario of a text

-- this is the first fault of a text that is read as a plan, or of the plan that it is
abbrev pub IsTroubleIn : ℕ → Result Plan PlanFault → Trouble → Type 0
IsTroubleIn capacity (Ok plan) trouble = IsTroubleOf capacity plan trouble
IsTroubleIn capacity (Err first) (Faulty fault) = FailsAt {Y = Plan} fault fault.what (Err first)
IsTroubleIn capacity (Err first) trouble = ⊥

-- it isn't that an allocation failed
abbrev pub IsKnown : Trouble → Type 0
IsKnown (Faulty fault) = fault.what ≢ NoMemory
IsKnown trouble = ⊤

-- a plan has no scenario: it means nothing; or what it means can't be moved by hops or wires; or the text of what it means isn't read as that, as
-- none of over 16 MiB is
abbrev pub HasNoScenario : ℕ → Plan → Type 0
HasNoScenario capacity plan = MeansNothing plan ⊎ (IsImmovable capacity plan ⊎ ((m : Meaning) × MeansMoved capacity plan m × IsMisread plan.outline m))

abbrev pub HasNoneIf : ℕ → Result Plan PlanFault → Type 0
HasNoneIf capacity (Ok plan) = HasNoScenario capacity plan
HasNoneIf capacity (Err fault) = ⊤

-- octets are no text; or one that is no plan, or a plan that has no scenario
abbrev pub IsUnplanned : ℕ → List ℕ → Type 0
IsUnplanned capacity octets = (¬ IsUtf8 octets) ⊎ HasNoneIf capacity (plan_of octets)

-- ---- scenarios

-- what is meant isn't played to its end, for this cause
abbrev pub IsStopped : Meant → Unfinished → Type 0
IsStopped m why = IsUnfinishedBy entries_tried m.topology m.capacity m.steps why

-- there are no nodes; or an order is refused, or a drain doesn't end
abbrev pub IsUnplayed : Meant → Type 0
IsUnplayed m = (length m.topology.places ≡ 0) ⊎ ((index : ℕ) × (fault : DrainFault) × IsStopped m (Step index fault))

-- a text is no scenario; or one that isn't played
abbrev pub IsUnplayedIf : Result Meant ScenarioFault → Type 0
IsUnplayedIf (Ok m) = IsUnplayed m
IsUnplayedIf (Err fault) = ⊤

-- octets are no text; or one that is no scenario, or a scenario without nodes, or one of which an order is refused
abbrev pub IsNoScenario : List ℕ → Type 0
IsNoScenario octets = (¬ IsUtf8 octets) ⊎ IsUnplayedIf (meaning octets)

-- all orders of a scenario are obeyed, but the run that they lead to isn't closed, for this cause: something is on its way, or was injected
abbrev pub IsLeftOpen : List ℕ → Disagree → Type 0
IsLeftOpen octets cause = (m : Meant) × (meaning octets ≡ Ok m) × IsStopped m (Check cause)

-- it is known why octets are no such scenario
abbrev pub IsWrong : List ℕ → Wrong → Type 0
IsWrong octets (Told line) = IsOk line → IsNoScenario octets
IsWrong octets (Open cause) = IsLeftOpen octets cause
