-- What holds while orders are woven.
use Rattle.std.specs.Prelude.{ℕ, ◌+◌, ◌-◌, ◌==◌, ◌≡◌, ◌<◌, ◌≤◌, ◌⊎◌, Bool, true, false, List, [], ◌∷◌, length, Option, Some, None, Ok, Err, IsErr, if◌then◌else◌, ⊤}
use Rattle.hsr_frame.specs.declared.node.About.TheVariants.{Proxied}
use Rattle.hsr_node.specs.declared.event.StepFault.TheVariants.{NotProxied}
use Rattle.hsr_topology.specs.declared.end.End.{End}
use Rattle.hsr_scenario.specs.declared.steps.Order.{Order}
use Rattle.hsr_scenario.specs.declared.steps.Order.TheVariants.{Step}
use Rattle.hsr_world_steps.specs.declared.step.Step.TheVariants.{Clock, Put, Supervise}
use Rattle.hsr_world_steps.specs.declared.step.Step as steps
use Rattle.hsr_world_steps.specs.declared.step.WorldFault.{WorldFault}
use Rattle.hsr_world_steps.specs.declared.step.WorldFault.TheVariants.{Node}
use Rattle.hsr_plan_text.specs.declared.plan.Moves.{Moves}
use Rattle.hsr_plan_text.specs.declared.plan.Moves.TheVariants.{EachSendDrains, EachMomentDrains, Timed}
use Rattle.hsr_plan_schedule.specs.Meaning.{Meaning}
use Rattle.hsr_plan_text.specs.declared.plan.Transfer.{Transfer}
use Rattle.hsr_world_laws.specs.World.{World, tried}
use Rattle.hsr_plan_hops.specs.Beginning.{Begins, IsSettled, Stage, behind, next_copy}
use Rattle.hsr_world_laws.specs.Lawful.{IsEnded, finished_of}
use Rattle.hsr_plan_hops.specs.Timing.{are_in_time}
use Rattle.hsr_plan_hops.specs.declared.unmoved.Unmoved.{Unmoved}
use Rattle.hsr_plan_hops.specs.declared.unmoved.Unmoved.TheVariants as unmoved
use Rattle.hsr_plan_hops.specs.Refusing.{IsUnmovedAtPace, comes_first, order_limit}
use Rattle.hsr_plan_hops.specs.declared.flights.Arrival.{Arrival}
use Rattle.hsr_plan_hops.specs.declared.turns.Due.TheVariants.{Puts}

-- the orders so far, and the stage that they lead to
pub record Woven : Type 0 where
  pub stage : Stage
  pub orders : List Order

-- they do what is told so far, and aren't too many
pub record IsBegun (capacity : ℕ) (transfer : Transfer) (told : Meaning) (v : Woven) : Type 0 where
  pub begins : Begins capacity transfer told v.orders v.stage
  pub few : length v.orders ≤ order_limit

-- and nothing is left to judge or to put
pub record IsIdle (capacity : ℕ) (transfer : Transfer) (told : Meaning) (v : Woven) : Type 0 where
  pub begun : IsBegun capacity transfer told v
  pub settled : IsSettled capacity v.stage.world v.stage.due

-- ---- a step

-- a world does a step, which leads from one stage to another; or it refuses it for this
abbrev pub IsTried : ℕ → Transfer → List (List End) → Stage → steps.Step → List Order → Stage → Option WorldFault → Type 0
IsTried capacity transfer links s step more t None = (tried capacity s.world step ≡ Ok t.world) × (t ≡ behind transfer links s step more t.world)
IsTried capacity transfer links s step more t (Some fault) = (t ≡ s) × (tried capacity s.world step ≡ Err fault)

-- one order more was done
pub record GoesOn (capacity : ℕ) (transfer : Transfer) (told : Meaning) (v : Woven) (step : steps.Step) (more : List Order) (x : Woven) : Type 0 where
  pub begun : IsBegun capacity transfer told x
  pub stage : x.stage ≡ behind transfer told.topology.links v.stage step more x.stage.world
  pub one : length x.orders ≡ length v.orders + 1

-- so it is; or the step is refused for this
abbrev pub GoesOnIf : ℕ → Transfer → Meaning → Woven → steps.Step → List Order → Woven → Option WorldFault → Type 0
GoesOnIf capacity transfer told v step more x None = GoesOn capacity transfer told v step more x
GoesOnIf capacity transfer told v step more x (Some fault) = (x ≡ v) × (tried capacity v.stage.world step ≡ Err fault)

-- a step that is never left out: no put, and no supervision about a station
abbrev pub is_owed : steps.Step → Bool
is_owed (Put n port) = false
is_owed (Supervise n (Proxied mac)) = false
is_owed step = true

-- a RedBox refuses supervision about a station that it doesn't know
abbrev pub is_unknown : steps.Step → WorldFault → Bool
is_unknown (Supervise n (Proxied mac)) (Node NotProxied) = true
is_unknown step fault = false

-- what is told next was done, or left out
pub record IsObeyed (capacity : ℕ) (transfer : Transfer) (told : Meaning) (v : Woven) (more : List Order) (x : Woven) : Type 0 where
  pub begun : IsBegun capacity transfer told x
  pub told_on : x.stage.told ≡ more
  pub longer : length v.orders ≤ length x.orders

-- ---- what has to be done at once

-- what was taken was judged, by this node
pub record IsJudged (capacity : ℕ) (transfer : Transfer) (told : Meaning) (v x : Woven) (n : ℕ) : Type 0 where
  pub begun : IsBegun capacity transfer told x
  pub due : x.stage.due ≡ Puts n
  pub told_on : x.stage.told ≡ v.stage.told
  pub longer : length v.orders ≤ length x.orders

-- a port of a node put what it had, or has nothing
abbrev pub PutsIf : ℕ → Transfer → Meaning → Woven → ℕ → ℕ → Woven → Bool → Type 0
PutsIf capacity transfer told v n port x true = GoesOn capacity transfer told v (Put n port) v.stage.told x
PutsIf capacity transfer told v n port x false = (x ≡ v) × IsErr (tried capacity v.stage.world (Put n port))

-- nothing is left to judge or to put; as much is told, and no order was lost
pub record Settles (capacity : ℕ) (transfer : Transfer) (told : Meaning) (v x : Woven) : Type 0 where
  pub begun : IsBegun capacity transfer told x
  pub settled : IsSettled capacity x.stage.world x.stage.due
  pub told_on : x.stage.told ≡ v.stage.told
  pub longer : length v.orders ≤ length x.orders

-- ---- what comes next

-- the next copy, if it comes to its end before what is told next
abbrev pub arriving_if : ℕ → List Order → Option Arrival → Option Arrival
arriving_if now told None = None
arriving_if now told (Some a) = if comes_first now told a then Some a else None

abbrev pub arriving : Transfer → List (List End) → Stage → Option Arrival
arriving transfer links s = arriving_if s.moment s.told (next_copy transfer links s)

-- what is told behind a moment that comes next
abbrev pub behind_moment : ℕ → List Order → List Order
behind_moment at (Step (Clock next) ∷ told) = if next == at then told else Step (Clock next) ∷ told
behind_moment at told = told

-- how much is left to do, at most
abbrev pub left : Woven → ℕ
left v = (order_limit - length v.orders) + length v.stage.told

-- something more was done
pub record Advances (capacity : ℕ) (transfer : Transfer) (told : Meaning) (v x : Woven) : Type 0 where
  pub begun : IsBegun capacity transfer told x
  pub less : left x < left v

-- so it is; or all is done
abbrev pub AdvancesIf : ℕ → Transfer → Meaning → Woven → Woven → Bool → Type 0
AdvancesIf capacity transfer told v x true = Advances capacity transfer told v x
AdvancesIf capacity transfer told v x false = (x ≡ v) × (v.stage.told ≡ []) × (next_copy transfer told.topology.links v.stage ≡ None)

-- something more was done, and nothing is left to judge or to put; or all is done
pub record HasAdvanced (capacity : ℕ) (transfer : Transfer) (told : Meaning) (v x : Woven) : Type 0 where
  pub begun : IsBegun capacity transfer told x
  pub settled : IsSettled capacity x.stage.world x.stage.due
  pub less : left x < left v

abbrev pub GoesOnFrom : ℕ → Transfer → Meaning → Woven → Woven → Bool → Type 0
GoesOnFrom capacity transfer told v x true = HasAdvanced capacity transfer told v x
GoesOnFrom capacity transfer told v x false = (x ≡ v) × (v.stage.told ≡ []) × (next_copy transfer told.topology.links v.stage ≡ None)

-- ---- the end

-- a world is ended, and each copy of its run is in time
pub record EndsWell (capacity : ℕ) (transfer : Transfer) (w : World) : Type 0 where
  pub ended : IsEnded w
  pub in_time : are_in_time transfer (finished_of capacity w).run ≡ true

-- it isn't ended
abbrev pub IsOpenFor : World → Unmoved → Type 0
IsOpenFor w unmoved.Memory = ⊤
IsOpenFor w unmoved.Differs = ¬ IsEnded w
IsOpenFor w why = ⊥

-- it isn't ended; or it is, and a copy of its run isn't in time
abbrev pub EndsBadly : ℕ → Transfer → World → Unmoved → Type 0
EndsBadly capacity transfer w unmoved.Memory = ⊤
EndsBadly capacity transfer w unmoved.Differs = (¬ IsEnded w) ⊎ (IsEnded w × (are_in_time transfer (finished_of capacity w).run ≡ false))
EndsBadly capacity transfer w why = ⊥

-- ---- what is told, once copies move

-- so it is where copies move by hops or wires; otherwise what is told stays as it is
abbrev pub IsUnmovedBy : ℕ → Moves → Meaning → Unmoved → Type 0
IsUnmovedBy capacity EachSendDrains told why = ⊥
IsUnmovedBy capacity EachMomentDrains told why = ⊥
IsUnmovedBy capacity (Timed transfer) told why = IsUnmovedAtPace capacity transfer told why
