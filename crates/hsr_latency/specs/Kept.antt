-- The greater of two, as a walk keeps it that looks for the greatest.
use Rattle.std.specs.Prelude.{if◌then◌else◌, Option, Some, None}
use Rattle.hsr_latency.specs.Delays.{is_greater}
use Rattle.hsr_latency.specs.Latencies.{is_worse}
use Rattle.hsr_latency.specs.declared.delay.Delay.{Delay}
use Rattle.hsr_latency.specs.declared.latency.NodeLatency.{NodeLatency}

abbrev pub greater : Option Delay → Delay → Option Delay
greater None delay = Some delay
greater (Some most) delay = if is_greater delay most then Some delay else Some most

abbrev pub worse : Option NodeLatency → NodeLatency → Option NodeLatency
worse None latency = Some latency
worse (Some most) latency = if is_worse latency most then Some latency else Some most
