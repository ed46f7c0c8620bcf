-- How long each send of a finished run took to each node that took it up, and the send of each group that took longest.
--     taken      of all nodes
--     group_of   the group of a send
--     longest    of a group's sends the one that took longest
use Rattle.std.specs.Prelude.{ℕ, zero, suc, ◌≡◌, ◌==◌, Bool, false, List, [], ◌++◌, filter, find, fold, length, reverse, slice_get, Option, Some, None, option_map, if◌then◌else◌}
use Rattle.hsr_node.specs.declared.event.Probe.{Probe}
use Rattle.hsr_run_laws.specs.Run.{Run, is_of}
use Rattle.hsr_latency.specs.Delays.{delays, greatest}
use Rattle.hsr_latency.specs.Kept.{greater}
use Rattle.hsr_latency.specs.declared.delay.Arrivals.TheVariants.{Up}
use Rattle.hsr_latency.specs.declared.delay.Delay.{Delay}
use Rattle.hsr_latency.specs.declared.grouped.Member.{Member}

-- those of the nodes below one, by node
abbrev pub taken_below : Run → ℕ → List Delay
taken_below run zero = []
taken_below run (suc k) = taken_below run k ++ delays Up run k

abbrev pub taken : Run → List Delay
taken run = taken_below run (length run.places)

-- ---- groups

abbrev pub is_send : Probe → Member → Bool
is_send send member = is_of send (Some member.send)

abbrev pub number_of : Member → ℕ
number_of member = member.group

-- that of the last member that is the send
abbrev pub group_of : List Member → Probe → Option ℕ
group_of members send = option_map number_of (find (is_send send) (reverse members))

abbrev pub is_group : ℕ → Option ℕ → Bool
is_group g None = false
is_group g (Some group) = group == g

-- a send of the group took so long
abbrev pub is_in : (Probe → Option ℕ) → ℕ → Delay → Bool
is_in group g delay = is_group g (group delay.send)

-- of equals that of the lowest send
abbrev pub longest : (Probe → Option ℕ) → List Delay → ℕ → Option Delay
longest group delays g = greatest (filter (is_in group g) delays)

-- of each group the one of its sends that took longest
pub record AreLongest (group : Probe → Option ℕ) (delays : List Delay) (groups : ℕ) (list : List (Option Delay)) : Type 0 where
  pub many : length list ≡ groups
  pub each : (g : ℕ) (most : Option Delay) → slice_get list g ≡ Some most → most ≡ longest group delays g

-- ---- how they are kept

-- one more delay, if it is of a group
pub record Keeps (group : Option ℕ) (delay : Delay) (old new : List (Option Delay)) : Type 0 where
  pub long : length new ≡ length old
  pub each : (g : ℕ) (most : Option Delay) → slice_get old g ≡ Some most → slice_get new g ≡ Some (if is_group g group then greater most delay else most)

-- those that are kept of each group
abbrev pub AreKept : (Probe → Option ℕ) → List Delay → List (Option Delay) → Type 0
AreKept group delays list = (g : ℕ) (most : Option Delay) → slice_get list g ≡ Some most → most ≡ fold greater None (filter (is_in group g) delays)
