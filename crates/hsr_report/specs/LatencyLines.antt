-- The lines of latency in a report: one for each node that took up a frame, then the node where one took longest.
use Rattle.std.specs.Prelude.{ℕ, List, ◌++◌, codes, Option, Some, None}
use Rattle.std.specs.Fmt.{decimal}
use Rattle.std.specs.List.{flat_map}
use Rattle.hsr_naming.specs.Naming.{node_text, send_text}
use Rattle.hsr_naming.specs.declared.naming.Naming.{Naming}
use Rattle.hsr_latency.specs.Latencies.{worst}
use Rattle.hsr_latency.specs.declared.delay.Delay.{Delay}
use Rattle.hsr_latency.specs.declared.latency.NodeLatency.{NodeLatency}

-- how long it took, and which send it was; a hyphen where there is none
unfoldable pub delay_text : Naming → Delay → List ℕ
delay_text naming delay = decimal delay.time ++ codes " at " ++ send_text naming delay.send

abbrev pub delay_or_none : Naming → Option Delay → List ℕ
delay_or_none naming None = codes "-"
delay_or_none naming (Some delay) = delay_text naming delay

unfoldable pub latency_line : Naming → NodeLatency → List ℕ
latency_line naming latency =
    codes "latency " ++ node_text naming latency.node ++ codes " frames " ++ decimal latency.frames ++ codes " worst "
    ++ delay_text naming latency.worst ++ codes " second " ++ delay_or_none naming latency.second ++ codes "\n"

-- how long it took where one took longest, and that node
unfoldable pub slowest_text : Naming → ℕ → ℕ → List ℕ
slowest_text naming time k = codes "latency worst " ++ decimal time ++ codes " " ++ node_text naming k

unfoldable pub worst_line : Naming → NodeLatency → List ℕ
worst_line naming latency = slowest_text naming latency.worst.time latency.node ++ codes " at " ++ send_text naming latency.worst.send ++ codes "\n"

abbrev pub worst_if : Naming → Option NodeLatency → List ℕ
worst_if naming None = codes "latency none\n"
worst_if naming (Some latency) = worst_line naming latency

abbrev pub latency_lines : Naming → List NodeLatency → List ℕ
latency_lines naming latencies = flat_map (latency_line naming) latencies ++ worst_if naming (worst latencies)
