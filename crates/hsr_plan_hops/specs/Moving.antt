-- What a plan means, with the moves of its copies.
use Rattle.std.specs.Prelude.{ℕ, ◌≡◌, true, false, List}
use Rattle.hsr_finished_run.specs.Finished.{Finished}
use Rattle.hsr_ring.specs.Finishing.{IsFinishedBy}
use Rattle.hsr_scenario.specs.declared.steps.Order.{Order}
use Rattle.hsr_plan_text.specs.Plan.{Plan}
use Rattle.hsr_plan_text.specs.declared.plan.Transfer.{Transfer}
use Rattle.hsr_plan_text.specs.declared.plan.Moves.{Moves}
use Rattle.hsr_plan_text.specs.declared.plan.Moves.TheVariants.{EachSendDrains, EachMomentDrains, Timed}
use Rattle.hsr_plan_schedule.specs.Meaning.{Meaning, Means}
use Rattle.hsr_world_laws.specs.World.{World, new_world}
use Rattle.hsr_plan_hops.specs.Flights.{AreOnTime, Sight, no_channels}
use Rattle.hsr_plan_hops.specs.Timing.{are_in_time}
use Rattle.hsr_plan_hops.specs.Telling.{Tells}
use Rattle.hsr_plan_hops.specs.Turns.{are_in_turn}
use Rattle.hsr_plan_hops.specs.declared.turns.Due.TheVariants.{Nothing}

-- a world in which nothing of what is told was done
abbrev pub world_of : Meaning → World
world_of told = new_world told.capacity told.topology.places told.topology.links

-- what is seen before anything of it is done
abbrev pub first_sight : Meaning → Sight
first_sight told = record { links = told.topology.links; now = 0; begun = false; channels = no_channels told.topology.links; world = world_of told }

-- Orders lead to a finished run with tables of `capacity` entries: none is refused, and at the end nothing is on its way. They do what is
-- told, and put at once what a node passed. Each copy that isn't lost as it is put is taken just when it comes to its end, in the order in
-- which they were put and before anything that is told is done then, unless its link was cut before. Each copy that isn't lost is judged just
-- when a hop is over since it was passed, or when its wires let it come.
pub record IsRunAtPace (capacity : ℕ) (transfer : Transfer) (told : Meaning) (orders : List Order) : Type 0 where
  pub run : Finished
  pub finished : IsFinishedBy capacity told.topology told.capacity orders run
  pub tells : Tells capacity told.topology.links told.orders Nothing (world_of told) orders finished.world
  pub on_time : AreOnTime capacity transfer 0 (first_sight told) orders
  pub in_time : are_in_time transfer run.run ≡ true

-- and each copy is judged as soon as it is taken, and taken before what is told is done at that moment
pub record MovesAtPace (capacity : ℕ) (transfer : Transfer) (told : Meaning) (orders : List Order) : Type 0 where
  pub in_turn : are_in_turn told.topology.links Nothing 0 false orders ≡ true
  pub run : IsRunAtPace capacity transfer told orders

-- what is told, with other orders
abbrev pub ordered : Meaning → List Order → Meaning
ordered told orders = record told { orders = orders }

-- what is told means this, once copies move
abbrev pub Moved : ℕ → Moves → Meaning → Meaning → Type 0
Moved capacity EachSendDrains told m = m ≡ told
Moved capacity EachMomentDrains told m = m ≡ told
Moved capacity (Timed transfer) told m = (orders : List Order) × MovesAtPace capacity transfer told orders × (m ≡ ordered told orders)

-- what a plan means in a world with tables of `capacity` entries
pub record MeansMoved (capacity : ℕ) (plan : Plan) (m : Meaning) : Type 0 where
  pub told : Meaning
  pub means : Means plan told
  pub moved : Moved capacity plan.outline.moves told m
