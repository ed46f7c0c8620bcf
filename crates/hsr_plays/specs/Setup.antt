-- What is to be certified in any order.
--     Setup       nodes and links, how much waits and is noted, the steps, and how long a copy lives
--     is_move     a put, a take or a judgement
--     asked_by    the send that a step asks for
use Rattle.std.specs.Prelude.{ℕ, ◌<◌, ◌^◌, Bool, true, false, List, length, Option, Some, None}
use Rattle.std.specs.List.{All}
use Rattle.hsr_frame.specs.Address.{supervision_address}
use Rattle.hsr_frame.specs.Layout.{ethertype_supervision}
use Rattle.hsr_duptable.specs.Table.{IsTableSize}
use Rattle.hsr_node.specs.declared.place.Place.{Place}
use Rattle.hsr_topology.specs.Wired.{IsWired}
use Rattle.hsr_topology.specs.declared.end.End.{End}
use Rattle.hsr_run_laws.specs.Run.{Run}
use Rattle.hsr_routes.specs.Routes.{bare}
use Rattle.hsr_scenario.specs.declared.steps.Order.{Order}
use Rattle.hsr_scenario.specs.declared.steps.Order.TheVariants as order
use Rattle.hsr_world_laws.specs.Fit.{FitsPlace, FitsStep}
use Rattle.hsr_world_laws.specs.World.{World, new_world}
use Rattle.hsr_world_steps.specs.declared.step.Step.{Step}
use Rattle.hsr_plays.specs.declared.span.Asked.{Asked}
use Rattle.hsr_world_steps.specs.declared.step.Step.TheVariants.{Clock, Send, Supervise, Age, Put, Take, Judge, Cut, Mend, Inject}

pub record Setup : Type 0 where
  pub places : List Place
  pub links : List (List End)
  -- how many copies wait in each direction of a link
  pub room : ℕ
  -- how many entries a table has
  pub capacity : ℕ
  -- the steps of a scenario, which count from 0
  pub orders : List Order
  -- how long a copy lives, less than this, where that is told
  pub within : Option ℕ

-- its nodes and links
abbrev pub net_of : Setup → Run
net_of s = bare s.places s.links

-- the world in which it begins
abbrev pub first_world : Setup → World
first_world s = new_world s.room s.places s.links

abbrev pub FitsOrder : Order → Type 0
FitsOrder (order.Step step) = FitsStep step
FitsOrder order.Drain = Unit {0}

-- Its nodes and links are a topology, a table has a size that is allowed, and all is as the types of the code tell. There are fewer steps than a
-- node refuses for their number; a text that is read as a scenario has fewer.
pub record IsSetup (s : Setup) : Type 0 where
  pub wired : IsWired s.places s.links
  pub table : IsTableSize s.capacity
  pub fit_places : All FitsPlace s.places
  pub fit_orders : All FitsOrder s.orders
  pub few : length s.orders < 2 ^ 32

-- ---- steps

-- a copy is put, taken or judged
abbrev pub is_move : Step → Bool
is_move (Put node port) = true
is_move (Take link dir) = true
is_move (Judge node port) = true
is_move _ = false

-- the send that a step asks for; a supervision frame comes from a node's first address, and goes to the group of supervision frames
abbrev pub asked_by : Order → Option Asked
asked_by (order.Step (Send node from dst vlan ethertype payload)) = Some (record { node = node; from = from; dst = dst; kind = ethertype })
asked_by (order.Step (Supervise node about)) = Some (record { node = node; from = 0; dst = supervision_address; kind = ethertype_supervision })
asked_by _ = None
