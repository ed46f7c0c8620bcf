use Rattle.std.proofs.Common.{◌≡◌, map}
use Rattle.std.specs.List.{range_with_len}
use Rattle.hsr_world_links.specs.Ports.{places_of, port_at}
use Rattle.hsr_world_links.specs.Views.{span_view}
use Rattle.hsr_world_links.proofs.port.new_ports.Given as goal

abbrev pub invariant-loop-number : goal.invariant-loop-number
invariant-loop-number g l = l.all.items ≡ map (port_at (places_of l.nodes) (map span_view l.spans)) (range_with_len 0 l.number)
