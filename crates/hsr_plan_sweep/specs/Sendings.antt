-- Of which stream each send of a run is, in the order in which a run lists its sends: by node, and of each node as it sent them.
use Rattle.std.specs.Prelude.{ℕ, zero, suc, ◌==◌, if◌then◌else◌, List, [], ◌∷◌, ◌++◌, slice_get, Option, Some, None}
use Rattle.std.specs.List.{cons_option, flat_map}
use Rattle.hsr_world_steps.specs.declared.step.Step.TheVariants as step
use Rattle.hsr_scenario.specs.declared.steps.Order.{Order}
use Rattle.hsr_scenario.specs.declared.steps.Order.TheVariants.{Step}
use Rattle.hsr_plan_sweep.specs.declared.sendings.Sending.{Sending}

-- what an order sends, where the next frames are of these streams; supervision is of none
abbrev pub sending_by : List ℕ → Order → Option Sending
sending_by streams (Step (step.Send k from dst vlan kind payload)) = Some (record { node = k; stream = slice_get streams 0 })
sending_by streams (Step (step.Supervise k about)) = Some (record { node = k; stream = None })
sending_by streams _ = None

abbrev pub without_first : List ℕ → List ℕ
without_first [] = []
without_first (s ∷ ss) = ss

abbrev pub behind : List ℕ → Order → List ℕ
behind streams (Step (step.Send k from dst vlan kind payload)) = without_first streams
behind streams _ = streams

abbrev pub sendings : List ℕ → List Order → List Sending
sendings streams [] = []
sendings streams (o ∷ os) = cons_option (sending_by streams o) [] ++ sendings (behind streams o) os

-- the stream of what a node sends, if it is of this one
abbrev pub stream_at : ℕ → Sending → List (Option ℕ)
stream_at k sending = if sending.node == k then sending.stream ∷ [] else []

-- of the first nodes, one behind the other
abbrev pub streams_below : List Sending → ℕ → List (Option ℕ)
streams_below all zero = []
streams_below all (suc k) = streams_below all k ++ flat_map (stream_at k) all

-- of which stream each send is of so many nodes that do these orders, whose frames are of these streams
abbrev pub streams_by : List ℕ → List Order → ℕ → List (Option ℕ)
streams_by streams orders nodes = streams_below (sendings streams orders) nodes
