-- Why a plan means nothing, once its copies move.
--     IsEndless      too many orders do what is told
--     IsStuck        what comes next at a stage can't be done
--     IsUnmovable    copies can't be moved at a transfer
--     IsUnmoved      a plan means nothing, once its copies move
--     IsImmovable    so it is though it means something as it is told
use Rattle.std.specs.Prelude.{ℕ, ◌-◌, ◌^◌, ◌≡◌, ◌<◌, ◌⊎◌, nat_le, nat_lt, Bool, true, false, List, [], ◌∷◌, length, Some, None, Err, ⊤}
use Rattle.hsr_topology.specs.declared.end.End.{End}
use Rattle.hsr_scenario.specs.declared.steps.Order.{Order}
use Rattle.hsr_scenario.specs.declared.steps.Order.TheVariants.{Step, Drain}
use Rattle.hsr_world_steps.specs.declared.step.Step.TheVariants.{Clock, Put, Take, Judge}
use Rattle.hsr_world_steps.specs.declared.step.Step as steps
use Rattle.hsr_world_steps.specs.declared.step.WorldFault.{WorldFault}
use Rattle.hsr_plan_text.specs.Fallible.{FailsAt}
use Rattle.hsr_plan_text.specs.Plan.{Plan}
use Rattle.hsr_plan_text.specs.declared.plan.Transfer.{Transfer}
use Rattle.hsr_plan_text.specs.declared.plan.Transfer.TheVariants as transfer
use Rattle.hsr_plan_text.specs.declared.plan.Moves.{Moves}
use Rattle.hsr_plan_text.specs.declared.plan.Moves.TheVariants.{EachSendDrains, EachMomentDrains, Timed}
use Rattle.hsr_plan_schedule.specs.Meaning.{Meaning, Means, listed}
use Rattle.hsr_world_laws.specs.Lawful.{IsEnded, finished_of}
use Rattle.hsr_world_laws.specs.World.{tried}
use Rattle.hsr_plan_hops.specs.Beginning.{Begins, DoesAll, IsNext, Stage, next_copy}
use Rattle.hsr_plan_hops.specs.Flights.{is_to_come}
use Rattle.hsr_plan_hops.specs.Timing.{are_in_time}
use Rattle.hsr_plan_hops.specs.Telling.{IsUnknownTo}
use Rattle.hsr_plan_hops.specs.Turns.{is_put}
use Rattle.hsr_plan_hops.specs.declared.flights.Arrival.{Arrival}
use Rattle.hsr_plan_hops.specs.declared.turns.Due.TheVariants.{Judgement}
use Rattle.hsr_plan_hops.specs.declared.unmoved.Unmoved.{Unmoved}
use Rattle.hsr_plan_hops.specs.declared.unmoved.Unmoved.TheVariants as unmoved

-- ---- it goes on for too long

-- the most orders
abbrev pub order_limit : ℕ
order_limit = 2 ^ 20

-- more orders than that do what is told, up to some stage
pub record IsEndless (capacity : ℕ) (transfer : Transfer) (told : Meaning) : Type 0 where
  pub orders : List Order
  pub stage : Stage
  pub begins : Begins capacity transfer told orders stage
  pub over : order_limit < length orders

-- ---- it gets stuck

-- a step comes next that the world refuses: no put, and no supervision that is left out
pub record IsRefused (capacity : ℕ) (transfer : Transfer) (links : List (List End)) (s : Stage) : Type 0 where
  pub step : steps.Step
  pub more : List Order
  pub fault : WorldFault
  pub next : IsNext capacity transfer links s step more
  pub no_put : is_put step ≡ false
  pub refused : tried capacity s.world step ≡ Err fault
  pub known : ¬ IsUnknownTo capacity s.world step

-- an order may be told at a moment: no drain, no move of a copy, and no moment that isn't later
abbrev pub may_be_told : ℕ → Order → Bool
may_be_told now Drain = false
may_be_told now (Step (Clock at)) = nat_lt now at
may_be_told now (Step (Put n port)) = false
may_be_told now (Step (Take l dir)) = false
may_be_told now (Step (Judge n port)) = false
may_be_told now (Step step) = true

-- the first order that is left of what is told may not be told
abbrev pub IsMistold : ℕ → List Order → Type 0
IsMistold now [] = ⊥
IsMistold now (order ∷ told) = may_be_told now order ≡ false

-- a copy comes to its end before what is told next
abbrev pub comes_first : ℕ → List Order → Arrival → Bool
comes_first now [] a = true
comes_first now (Step (Clock at) ∷ told) a = nat_le a.at at
comes_first now (order ∷ told) a = nat_le a.at now

-- the next copy comes to its end at the last moment that there is, and that isn't to come any more
pub record IsMissed (transfer : Transfer) (links : List (List End)) (s : Stage) : Type 0 where
  pub copy : Arrival
  pub next : next_copy transfer links s ≡ Some copy
  pub last : copy.at ≡ 2 ^ 64 - 1
  pub missed : is_to_come s.moment s.begun copy.at ≡ false

-- what comes next can't be done, or no port is there to judge what was taken
abbrev pub IsStuck : ℕ → Transfer → List (List End) → Stage → Type 0
IsStuck capacity transfer links s =
    IsRefused capacity transfer links s ⊎ (IsMistold s.moment s.told ⊎ (IsMissed transfer links s ⊎ (s.due ≡ Judgement None)))

pub record GetsStuck (capacity : ℕ) (transfer : Transfer) (told : Meaning) : Type 0 where
  pub orders : List Order
  pub stage : Stage
  pub begins : Begins capacity transfer told orders stage
  pub stuck : IsStuck capacity transfer told.topology.links stage

-- ---- it ends badly

-- all that is told is done, and no copy is on its way, but the world that this leads to isn't ended
pub record IsUnended (capacity : ℕ) (transfer : Transfer) (told : Meaning) : Type 0 where
  pub orders : List Order
  pub stage : Stage
  pub all : DoesAll capacity transfer told orders stage
  pub open_end : ¬ IsEnded stage.world

-- all that is told is done, and leads to a finished run in which a copy isn't judged when it has to be
pub record IsLate (capacity : ℕ) (transfer : Transfer) (told : Meaning) : Type 0 where
  pub orders : List Order
  pub stage : Stage
  pub all : DoesAll capacity transfer told orders stage
  pub ended : IsEnded stage.world
  pub late : are_in_time transfer (finished_of capacity stage.world).run ≡ false

-- ---- why

-- no world has room for that number of copies on a link
abbrev pub HasBadRoom : Meaning → Type 0
HasBadRoom told = (told.capacity < 1) ⊎ (4096 < told.capacity)

-- a hop takes no time
abbrev pub IsBadPace : Transfer → Type 0
IsBadPace (transfer.Hop us) = us ≡ 0
IsBadPace (transfer.Wire wire) = ⊥

-- that is so, or no world has such room; or what is told gets stuck, or ends badly
abbrev pub IsUnmovable : ℕ → Transfer → Meaning → Type 0
IsUnmovable capacity transfer told = IsBadPace transfer ⊎ (HasBadRoom told ⊎ (GetsStuck capacity transfer told ⊎ (IsUnended capacity transfer told ⊎ IsLate capacity transfer told)))

-- why what is told isn't moved at a transfer
abbrev pub IsUnmovedAtPace : ℕ → Transfer → Meaning → Unmoved → Type 0
IsUnmovedAtPace capacity transfer told (unmoved.Plan fault) = ⊥
IsUnmovedAtPace capacity transfer told (unmoved.Endless limit) = (limit ≡ order_limit) × IsEndless capacity transfer told
IsUnmovedAtPace capacity transfer told unmoved.Differs = IsUnmovable capacity transfer told
IsUnmovedAtPace capacity transfer told unmoved.Memory = ⊤

-- so it is where copies move by hops or wires; what is told moves otherwise by itself
abbrev pub IsUnmovedBy : ℕ → Moves → Meaning → Unmoved → Type 0
IsUnmovedBy capacity EachSendDrains told why = ⊥
IsUnmovedBy capacity EachMomentDrains told why = ⊥
IsUnmovedBy capacity (Timed transfer) told why = IsUnmovedAtPace capacity transfer told why

-- the copies of a plan move by hops or wires, and this is why what it means isn't moved
pub record MeansUnmoved (capacity : ℕ) (plan : Plan) (why : Unmoved) : Type 0 where
  pub transfer : Transfer
  pub at_transfer : plan.outline.moves ≡ Timed transfer
  pub told : Meaning
  pub means : Means plan told
  pub unmoved : IsUnmovedAtPace capacity transfer told why

-- this is the first fault of a plan; or its copies move by hops or wires, and this is why they don't
abbrev pub IsUnmoved : ℕ → Plan → Unmoved → Type 0
IsUnmoved capacity plan (unmoved.Plan fault) = FailsAt fault fault.what (listed plan)
IsUnmoved capacity plan (unmoved.Endless limit) = MeansUnmoved capacity plan (unmoved.Endless limit)
IsUnmoved capacity plan unmoved.Differs = MeansUnmoved capacity plan unmoved.Differs
IsUnmoved capacity plan unmoved.Memory = ⊤

-- the copies of a plan move by hops or wires, and too many orders do what it means, or what it means can't be moved
pub record IsImmovable (capacity : ℕ) (plan : Plan) : Type 0 where
  pub transfer : Transfer
  pub at_transfer : plan.outline.moves ≡ Timed transfer
  pub told : Meaning
  pub means : Means plan told
  pub why : IsEndless capacity transfer told ⊎ IsUnmovable capacity transfer told
