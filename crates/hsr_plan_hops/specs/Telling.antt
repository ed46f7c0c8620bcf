-- What a plan tells is done, and nothing else but moves of copies. Supervision about stations that their RedBox doesn't know then is left
-- out; and nothing is done while a node has a copy to put.
use Rattle.std.specs.Prelude.{ℕ, ◌≡◌, ◌<◌, ◌⊎◌, List, [], ◌∷◌, Ok, Err, IsErr, ⊤}
use Rattle.hsr_frame.specs.declared.node.About.TheVariants.{Proxied}
use Rattle.hsr_node.specs.declared.event.StepFault.TheVariants.{NotProxied}
use Rattle.hsr_topology.specs.declared.end.End.{End}
use Rattle.hsr_scenario.specs.declared.steps.Order.{Order}
use Rattle.hsr_scenario.specs.declared.steps.Order.TheVariants.{Step, Drain}
use Rattle.hsr_world_steps.specs.declared.step.Step.TheVariants.{Clock, Supervise, Put, Take, Judge}
use Rattle.hsr_world_steps.specs.declared.step.Step as steps
use Rattle.hsr_world_steps.specs.declared.step.WorldFault.TheVariants.{Node}
use Rattle.hsr_world_laws.specs.World.{World, tried}
use Rattle.hsr_plan_hops.specs.Turns.{due_behind}
use Rattle.hsr_plan_hops.specs.declared.turns.Due.{Due}
use Rattle.hsr_plan_hops.specs.declared.turns.Due.TheVariants.{Nothing, Judgement, Puts}

-- ---- what is left out

-- it is supervision about a station, which its RedBox refuses in this world, since it doesn't know the station
abbrev pub IsUnknownTo : ℕ → World → steps.Step → Type 0
IsUnknownTo capacity w (Supervise n (Proxied mac)) = tried capacity w (Supervise n (Proxied mac)) ≡ Err (Node NotProxied)
IsUnknownTo capacity w _ = ⊥

abbrev pub IsUnknown : ℕ → World → Order → Type 0
IsUnknown capacity w (Step step) = IsUnknownTo capacity w step
IsUnknown capacity w Drain = ⊥

-- of what is told so much is left, once some of that from its front on is left out
abbrev pub LeavesOut : ℕ → World → List Order → List Order → Type 0
LeavesOut capacity w [] left = left ≡ []
LeavesOut capacity w (order ∷ told) left = (left ≡ order ∷ told) ⊎ (IsUnknown capacity w order × LeavesOut capacity w told left)

-- ---- what is done

-- a moment is the next that is told, or comes before it; behind the last that is told, any may come
abbrev pub IsMoment : ℕ → List Order → List Order → Type 0
IsMoment at [] more = more ≡ []
IsMoment at (Step (Clock next) ∷ told) more = ((next ≡ at) × (more ≡ told)) ⊎ ((at < next) × (more ≡ Step (Clock next) ∷ told))
IsMoment at _ more = ⊥

-- a step is the next that is told, and so much is told behind it; moves of copies aren't told
abbrev pub Does : steps.Step → List Order → List Order → Type 0
Does (Put n port) told more = more ≡ told
Does (Take l dir) told more = more ≡ told
Does (Judge n port) told more = more ≡ told
Does (Clock at) told more = IsMoment at told more
Does step told more = told ≡ Step step ∷ more

-- ---- what is put

-- as many ports as a node may have
abbrev pub port_limit : ℕ
port_limit = 4

-- each port of a node refuses a put
abbrev pub HasPut : ℕ → World → ℕ → Type 0
HasPut capacity w n = (port : ℕ) → port < port_limit → IsErr (tried capacity w (Put n port))

-- what a node passed is put before another step
abbrev pub PutsFirst : ℕ → World → Due → steps.Step → Type 0
PutsFirst capacity w Nothing step = ⊤
PutsFirst capacity w (Judgement end) step = ⊤
PutsFirst capacity w (Puts n) (Put k port) = ⊤
PutsFirst capacity w (Puts n) step = HasPut capacity w n

-- ---- all

-- a step is done in a world, behind which so much of what is told is left
pub record IsDone (capacity : ℕ) (told : List Order) (due : Due) (w : World) (step : steps.Step) (more : List Order) (after : World) : Type 0 where
  pub left : List Order
  pub left_out : LeavesOut capacity w told left
  pub does : Does step left more
  pub puts_first : PutsFirst capacity w due step
  pub done : tried capacity w step ≡ Ok after

-- so it is with all these orders, of which the first stands where this is due: all that is told is done or left out, and no order is refused
abbrev pub Tells : ℕ → List (List End) → List Order → Due → World → List Order → World → Type 0
Tells capacity links told due w [] after = LeavesOut capacity w told [] × (w ≡ after)
Tells capacity links told due w (Drain ∷ orders) after = ⊥
Tells capacity links told due w (Step step ∷ orders) after =
    (more : List Order) × (between : World) × IsDone capacity told due w step more between × Tells capacity links more (due_behind links step) between orders after
