-- Orders that do what is told from its front on: how far they lead, and what comes next there.
--     Stage      how far what is told is done
--     IsNext     a step comes next at a stage
--     behind     the stage behind a step
--     Begins     orders do what is told, up to a stage
use Rattle.std.specs.Prelude.{ℕ, ◌+◌, ◌==◌, ◌≡◌, ◌<◌, ◌⊎◌, Bool, true, false, List, [], ◌∷◌, ◌++◌, Option, Some, None, Ok, IsErr, ⊤}
use Rattle.hsr_topology.specs.declared.end.End.{End}
use Rattle.hsr_scenario.specs.declared.steps.Order.{Order}
use Rattle.hsr_scenario.specs.declared.steps.Order.TheVariants.{Step}
use Rattle.hsr_world_steps.specs.declared.step.Step.TheVariants.{Clock, Put}
use Rattle.hsr_world_steps.specs.declared.step.Step as steps
use Rattle.hsr_plan_schedule.specs.Meaning.{Meaning}
use Rattle.hsr_plan_text.specs.declared.plan.Transfer.{Transfer}
use Rattle.hsr_world_laws.specs.World.{World, tried}
use Rattle.hsr_plan_hops.specs.Flights.{Channels, Sight, channels_behind, is_on_time, next_of, no_channels, turn_behind}
use Rattle.hsr_plan_hops.specs.Moving.{world_of}
use Rattle.hsr_plan_hops.specs.Telling.{Does, HasPut, IsUnknownTo, PutsFirst}
use Rattle.hsr_plan_hops.specs.Turns.{begun_behind, due_behind, is_first, may_stand, moment_behind}
use Rattle.hsr_plan_hops.specs.declared.flights.Arrival.{Arrival}
use Rattle.hsr_plan_hops.specs.declared.turns.Due.{Due}
use Rattle.hsr_plan_hops.specs.declared.turns.Due.TheVariants.{Nothing, Judgement, Puts}

-- what is left of what is told, what is due, the moment, whether something that is told was done at it, how many copies were put, the
-- channels, and the world
pub record Stage : Type 0 where
  pub told : List Order
  pub due : Due
  pub moment : ℕ
  pub begun : Bool
  pub turn : ℕ
  pub channels : Channels
  pub world : World

-- nothing of what is told is done
abbrev pub first_stage : Meaning → Stage
first_stage told = record { told = told.orders; due = Nothing; moment = 0; begun = false; turn = 0; channels = no_channels told.topology.links; world = world_of told }

-- what a node looks at there, where these are the links
abbrev pub seen_at : List (List End) → Stage → Sight
seen_at links s = record { links = links; now = s.moment; begun = s.begun; channels = s.channels; world = s.world }

-- the copy that comes to its end next
abbrev pub next_copy : Transfer → List (List End) → Stage → Option Arrival
next_copy transfer links s = next_of transfer (seen_at links s)

-- ---- what comes next

-- a copy comes to its end at a moment
abbrev pub arrives_then : ℕ → Option Arrival → Bool
arrives_then at None = false
arrives_then at (Some a) = a.at == at

-- each port of a node below one refuses a put
abbrev pub HasPutBelow : ℕ → World → ℕ → ℕ → Type 0
HasPutBelow capacity w n port = (lower : ℕ) → lower < port → IsErr (tried capacity w (Put n lower))

-- A moment is set if it's told next, or if the next copy comes to its end at it. Of the ports of a node the lowest puts first.
abbrev pub IsCalledFor : ℕ → Option Arrival → Stage → steps.Step → List Order → Type 0
IsCalledFor capacity next s (Clock at) more = (s.told ≡ Step (Clock at) ∷ more) ⊎ (arrives_then at next ≡ true)
IsCalledFor capacity next s (Put n port) more = HasPutBelow capacity s.world n port
IsCalledFor capacity next s step more = ⊤

-- A step comes next, and behind it so much is told: it's told, or moves a copy. It may stand where this is due, all that a node passed is
-- put before, the copies that come to their ends before it are taken, and it's called for.
pub record IsNext (capacity : ℕ) (transfer : Transfer) (links : List (List End)) (s : Stage) (step : steps.Step) (more : List Order) : Type 0 where
  pub does : Does step s.told more
  pub stands : may_stand s.due step ≡ true
  pub puts_first : PutsFirst capacity s.world s.due step
  pub first : is_first s.moment s.begun step ≡ true
  pub on_time : is_on_time s.moment (next_copy transfer links s) step ≡ true
  pub called_for : IsCalledFor capacity (next_copy transfer links s) s step more

-- the stage behind a step that is done
abbrev pub behind : Transfer → List (List End) → Stage → steps.Step → List Order → World → Stage
behind transfer links s step more after = record {
  told = more;
  due = due_behind links step;
  moment = moment_behind s.moment step;
  begun = begun_behind s.begun step;
  turn = turn_behind s.turn step;
  channels = channels_behind transfer links s.moment s.turn step after s.channels;
  world = after;
}

-- the same stage, where so much is told
abbrev pub telling : Stage → List Order → Stage
telling s more = record s { told = more }

-- Orders do what is told, up to a stage: each is the step that comes next, and is done. Supervision that comes next is left out where
-- it's about a station that its RedBox doesn't know then.
pub data Begins (capacity : ℕ) (transfer : Transfer) (told : Meaning) : List Order → Stage → Type 0 where
  at_first : Begins capacity transfer told [] (first_stage told)
  done : (orders : List Order) (s : Stage) (step : steps.Step) (more : List Order) (after : World) → Begins capacity transfer told orders s
      → IsNext capacity transfer told.topology.links s step more → tried capacity s.world step ≡ Ok after
      → Begins capacity transfer told (orders ++ Step step ∷ []) (behind transfer told.topology.links s step more after)
  left_out : (orders : List Order) (s : Stage) (step : steps.Step) (more : List Order) → Begins capacity transfer told orders s
      → IsNext capacity transfer told.topology.links s step more → IsUnknownTo capacity s.world step → Begins capacity transfer told orders (telling s more)

-- ---- where all is done

-- nothing is left to judge or to put
abbrev pub IsSettled : ℕ → World → Due → Type 0
IsSettled capacity w Nothing = ⊤
IsSettled capacity w (Judgement end) = ⊥
IsSettled capacity w (Puts n) = HasPut capacity w n

-- orders do all that is told, and no copy is on its way
pub record DoesAll (capacity : ℕ) (transfer : Transfer) (told : Meaning) (orders : List Order) (s : Stage) : Type 0 where
  pub begins : Begins capacity transfer told orders s
  pub settled : IsSettled capacity s.world s.due
  pub all : s.told ≡ []
  pub landed : next_copy transfer told.topology.links s ≡ None
