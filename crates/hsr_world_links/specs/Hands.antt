-- What a port holds, where it receives, and the spans with something else there.
use Rattle.std.specs.Prelude.{List, set, Option, Some, None}
use Rattle.hsr_link.specs.declared.row.Dir.{Dir}
use Rattle.hsr_node.specs.declared.event.Carried.{Carried}
use Rattle.hsr_world_laws.specs.Spans.{Span, Spot, lane_of, with_lane}
use Rattle.hsr_world_laws.specs.World.{span_in}

abbrev pub handed : Dir → Option Carried → Span → Span
handed dir hand span = with_lane dir (record (lane_of dir span) { hand = hand }) span

abbrev pub hand_in : List Span → Option Spot → Option Carried
hand_in spans None = None
hand_in spans (Some spot) = (lane_of spot.dir (span_in spans spot.link)).hand

abbrev pub with_hand : Option Carried → List Span → Option Spot → List Span
with_hand hand spans None = spans
with_hand hand spans (Some spot) = set spans spot.link (handed spot.dir hand (span_in spans spot.link))
