-- How many copies may wait in each direction of a link, where a plan doesn't say. Each direction carries a copy of a send once, so as many sends as may
-- be under way at once are as many copies as may wait there, in whatever order copies move.
--     age_limit   how old a send may be that is under way
--     most_open   the most sends that may be under way at once
--     room        how many copies may wait
use Rattle.std.specs.Prelude.{ℕ, ◌-◌, ◌*◌, min, max, nat_le, Bool, List, [], ◌∷◌, ◌++◌, length, Option, Some, None, if◌then◌else◌}
use Rattle.hsr_world_steps.specs.declared.step.Step.TheVariants.{Clock, Send, Supervise}
use Rattle.hsr_scenario.specs.declared.steps.Order.{Order}
use Rattle.hsr_scenario.specs.declared.steps.Order.TheVariants.{Step, Drain}
use Rattle.hsr_plan_text.specs.declared.plan.Moves.{Moves}
use Rattle.hsr_plan_text.specs.declared.plan.Moves.TheVariants.{EachSendDrains, EachMomentDrains, Timed}
use Rattle.hsr_plan_text.specs.declared.plan.Transfer.TheVariants.{Hop, Wire}

-- ---- what is under way

-- by hops a copy takes a hop for each direction of each link at most, in microseconds; on wires it may wait for as long as there is room; else
-- a drain ends its way
abbrev pub age_limit : Moves → ℕ → Option ℕ
age_limit EachSendDrains links = None
age_limit EachMomentDrains links = None
age_limit (Timed (Hop us)) links = Some (us * (2 * links))
age_limit (Timed (Wire wire)) links = None

-- a send of a moment isn't older than that
abbrev pub is_young : ℕ → ℕ → ℕ → Bool
is_young age now at = nat_le (now - at) age

-- sends by their moments, from the first on that isn't older
abbrev pub young : ℕ → ℕ → List ℕ → List ℕ
young age now [] = []
young age now (at ∷ more) = if is_young age now at then at ∷ more else young age now more

abbrev pub still_open : Option ℕ → ℕ → List ℕ → List ℕ
still_open None now sends = sends
still_open (Some age) now sends = young age now sends

-- the sends that may be under way behind an order, by their moments: a drain brings all to their ends
abbrev pub open_behind : Option ℕ → ℕ → Order → List ℕ → List ℕ
open_behind limit now (Step (Send k from dst vlan ethertype payload)) sends = still_open limit now sends ++ now ∷ []
open_behind limit now (Step (Supervise k about)) sends = still_open limit now sends ++ now ∷ []
open_behind limit now Drain sends = []
open_behind limit now order sends = sends

abbrev pub moment_behind : ℕ → Order → ℕ
moment_behind now (Step (Clock at)) = at
moment_behind now order = now

-- the most sends that may be under way at once, where these are before some orders
abbrev pub most_open : Option ℕ → ℕ → List ℕ → List Order → ℕ
most_open limit now sends [] = length sends
most_open limit now sends (order ∷ orders) = max (length sends) (most_open limit (moment_behind now order) (open_behind limit now order sends) orders)

-- ---- room

-- as much as is said; else as much as so many sends need, at least 64 and at most 4096
abbrev pub room : Option ℕ → ℕ → ℕ
room (Some said) sends = said
room None sends = max 64 (min sends 4096)
