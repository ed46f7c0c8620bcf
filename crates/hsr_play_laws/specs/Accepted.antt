-- What the law that no step is refused stands on.
--     HaveFewAddresses   a Station has as many addresses as its type has room for, at most
--     FewSteps           a node has had fewer steps than it refuses for their number
--     HeardNow           a RedBox knows an address at its interlink where the step that comes next has it speak for that
--     AcceptsEach        no step is refused, where Stations have few addresses
use Rattle.std.specs.Prelude.{ℕ, ◌<◌, ◌≤◌, ◌^◌, ◌≡◌, true, max, List, ◌∷◌, length, Ok}
use Rattle.std.specs.List.{All}
use Rattle.hsr_frame.specs.declared.node.About.TheVariants.{Proxied}
use Rattle.hsr_frame.specs.declared.node.Mode.{Mode}
use Rattle.hsr_node.specs.Record.{knows, now, steps}
use Rattle.hsr_node.specs.declared.event.Event.TheVariants.{Age}
use Rattle.hsr_node.specs.declared.place.Place.{Place}
use Rattle.hsr_node.specs.declared.place.Place.TheVariants.{Danh, RedBox, QuadBox, Station}
use Rattle.hsr_run_laws.specs.Run.{place_of}
use Rattle.hsr_scenario.specs.declared.steps.Order.{Order}
use Rattle.hsr_scenario.specs.declared.steps.Order.TheVariants as order
use Rattle.hsr_world_laws.specs.World.{World, record_at, tried}
use Rattle.hsr_world_steps.specs.declared.step.Step.{Step}
use Rattle.hsr_world_steps.specs.declared.step.Step.TheVariants.{Supervise}
use Rattle.hsr_plays.specs.Conditions.{IsClear, IsHeard}
use Rattle.hsr_plays.specs.Plays.{IsPlayed}
use Rattle.hsr_plays.specs.Setup.{IsSetup, Setup, net_of}

-- A RedBox knows the 64 addresses that it heard latest. So it could forget one of a Station with more.
abbrev pub HasFewAddresses : Place → Type 0
HasFewAddresses (Danh mac mode) = Unit {0}
HasFewAddresses (RedBox mac mode) = Unit {0}
HasFewAddresses QuadBox = Unit {0}
HasFewAddresses (Station macs) = length macs.items ≤ 16

abbrev pub HaveFewAddresses : Setup → Type 0
HaveFewAddresses s = All HasFewAddresses s.places

abbrev pub FewSteps : Type 0
FewSteps = (s : Setup) (done later : List Order) (n : ℕ) (w : World) → IsSetup s → IsClear s → IsPlayed s done later n w → (k : ℕ) → steps (record_at w k) < 2 ^ 62

abbrev pub HeardNow : Type 0
HeardNow = (s : Setup) (done later : List Order) (n node : ℕ) (station : List ℕ) (w : World) → HaveFewAddresses s → IsSetup s → IsClear s →
    IsPlayed s done (order.Step (Supervise node (Proxied station)) ∷ later) n w → (mac : List ℕ) (mode : Mode) → place_of (net_of s) node ≡ RedBox mac mode → IsHeard s (length done) node station →
    knows (RedBox mac mode) (record_at w node) (max (now (record_at w node)) w.moment) Age station ≡ true

-- the step that comes next is accepted
abbrev pub AcceptsEach : Type 0
AcceptsEach = (s : Setup) (done later : List Order) (step : Step) (n : ℕ) (w : World) → HaveFewAddresses s → IsSetup s → IsClear s → IsPlayed s done (order.Step step ∷ later) n w →
    (after : World) × (tried s.capacity w step ≡ Ok after)
