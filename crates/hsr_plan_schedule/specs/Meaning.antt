-- What a plan means.
use Rattle.std.specs.Prelude.{◌≡◌, ℕ, List, [], length, Result, Ok, Err, unwrap_or}
use Rattle.std.specs.Ordering.{nat_cmp}
use Rattle.std.specs.List.Sorted.{IsPermutation, IsSortedByKey, IsStableByKey}
use Rattle.hsr_topology.specs.Topology.{Topology}
use Rattle.hsr_scenario.specs.declared.steps.Order.{Order}
use Rattle.hsr_toml.specs.Fallible.{◌>>=◌}
use Rattle.hsr_plan_text.specs.Fallible.{at_spot}
use Rattle.hsr_plan_text.specs.Plan.{Outline, Plan}
use Rattle.hsr_plan_text.specs.declared.fault.PlanFault.{PlanFault}
use Rattle.hsr_plan_text.specs.declared.fault.Spot.TheVariants as spot
use Rattle.hsr_plan_network.specs.Nodes.{Node}
use Rattle.hsr_plan_network.specs.Wiring.{Wired, wired}
use Rattle.hsr_plan_schedule.specs.Occasions.{occasions}
use Rattle.hsr_plan_schedule.specs.Naming.{stream_names}
use Rattle.hsr_plan_schedule.specs.Orders.{told_of}
use Rattle.hsr_plan_schedule.specs.Room.{age_limit, most_open, room}
use Rattle.hsr_plan_schedule.specs.Publishing.{publications}
use Rattle.hsr_plan_schedule.specs.Setting.{Setting}
use Rattle.hsr_plan_schedule.specs.declared.occasion.Occasion.{Occasion}
use Rattle.hsr_plan_schedule.specs.declared.publication.Publication.{Publication}

-- the same occasions by their moments; those of one moment stay in their order
pub record AreInOrder (listed sorted : List Occasion) : Type 0 where
  pub same : IsPermutation listed sorted
  pub sorted_by : IsSortedByKey (λ o. o.at) nat_cmp sorted
  pub stable : IsStableByKey (λ o. o.at) nat_cmp listed sorted

pub record Meaning : Type 0 where
  pub nodes : List Node
  pub topology : Topology
  -- the most sends that may be under way at once, and how many copies wait in each direction of a link
  pub at_once : ℕ
  pub capacity : ℕ
  pub orders : List Order
  -- the names of the plan's streams, and of each frame that the orders send the number of its stream
  pub streams : List (List ℕ)
  pub sends : List ℕ

-- the nodes and the topology of a plan, and all that happens in it, as it is listed
pub record Listed : Type 0 where
  pub wired : Wired
  pub occasions : List Occasion
  -- what its streams publish
  pub publications : List Publication

abbrev pub listed : Plan → Result Listed PlanFault
listed plan = at_spot spot.Top (wired plan.outline.network)
    >>= λ w. occasions plan w.nodes w.topology.links >>= λ os. publications plan.outline.until plan.streams
    >>= λ ps. Ok (record { wired = w; occasions = os; publications = ps })

-- where a plan's occasions take place, among its nodes and links; there is room for all that may be under way, or as much as there can be
abbrev pub setting : Plan → Wired → List Publication → Setting
setting plan wired ps = record {
  moves = plan.outline.moves;
  capacity = unwrap_or plan.outline.capacity 4096;
  nodes = wired.nodes;
  links = wired.topology.links;
  streams = plan.streams;
  publications = ps;
  epoch = plan.outline.epoch;
}

-- the orders that tell what is listed, in order, and the streams of the frames that they send
abbrev pub Orders : Plan → Listed → List Order → List ℕ → Type 0
Orders plan all orders sends =
    (os : List Occasion) × AreInOrder all.occasions os × (orders ≡ (told_of (setting plan all.wired all.publications) os).orders) × (sends ≡ (told_of (setting plan all.wired all.publications) os).sends)

-- the most sends of orders that may be under way at once, by a plan's own moves on its links
abbrev pub open_by : Outline → Topology → List Order → ℕ
open_by outline topology orders = most_open (age_limit outline.moves (length topology.links)) 0 [] orders

-- the nodes and the topology of a plan, the orders that tell what is listed, in order, the room that is said or that these need, and the plan's
-- streams by their names
pub record Tells (plan : Plan) (all : Listed) (m : Meaning) : Type 0 where
  pub nodes : m.nodes ≡ all.wired.nodes
  pub topology : m.topology ≡ all.wired.topology
  pub at_once : m.at_once ≡ open_by plan.outline all.wired.topology m.orders
  pub capacity : m.capacity ≡ room plan.outline.capacity m.at_once
  pub orders : Orders plan all m.orders m.sends
  pub streams : m.streams ≡ stream_names plan.streams

-- P of what is listed in a plan, where that is no fault
abbrev pub IfListed : Result Listed PlanFault → (Listed → Type 0) → Type 0
IfListed (Ok all) P = P all
IfListed (Err fault) P = ⊥

-- what a plan means, where it means something
abbrev pub Means : Plan → Meaning → Type 0
Means plan m = IfListed (listed plan) (λ all. Tells plan all m)
