-- The latency of a finished run: at each node that took up a frame, how long the slowest took, and the slowest second copy.
--     latency_of   that of a node
--     latencies    those of all nodes, by node
--     worst        the first node than whose slowest none took longer
use Rattle.std.specs.Prelude.{ℕ, zero, suc, nat_lt, not, Bool, List, [], ◌++◌, find, length, Option, option_map}
use Rattle.std.specs.List.{cons_option, list_all}
use Rattle.hsr_run_laws.specs.Run.{Run}
use Rattle.hsr_latency.specs.Delays.{delays, greatest}
use Rattle.hsr_latency.specs.declared.delay.Arrivals.TheVariants.{Up, Second}
use Rattle.hsr_latency.specs.declared.delay.Delay.{Delay}
use Rattle.hsr_latency.specs.declared.latency.NodeLatency.{NodeLatency}

-- a node where so many went up, of which this took longest, and this of the second copies
abbrev pub latency_by : ℕ → ℕ → Option Delay → Delay → NodeLatency
latency_by k frames second worst = record { node = k; frames = frames; worst = worst; second = second }

-- none where nothing went up
abbrev pub latency_of : Run → ℕ → Option NodeLatency
latency_of run k = option_map (latency_by k (length (delays Up run k)) (greatest (delays Second run k))) (greatest (delays Up run k))

-- those of the nodes below one
abbrev pub latencies_below : Run → ℕ → List NodeLatency
latencies_below run zero = []
latencies_below run (suc k) = latencies_below run k ++ cons_option (latency_of run k) []

abbrev pub latencies : Run → List NodeLatency
latencies run = latencies_below run (length run.places)

-- the slowest of one took longer than that of another
abbrev pub is_worse : NodeLatency → NodeLatency → Bool
is_worse x y = nat_lt y.worst.time x.worst.time

-- none of them is worse
abbrev pub is_worst : List NodeLatency → NodeLatency → Bool
is_worst latencies latency = list_all (λ (other : NodeLatency). not (is_worse other latency)) latencies

abbrev pub worst : List NodeLatency → Option NodeLatency
worst latencies = find (is_worst latencies) latencies
