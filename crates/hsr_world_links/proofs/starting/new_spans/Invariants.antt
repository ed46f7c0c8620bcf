use Rattle.std.proofs.Common.{◌≡◌, take, map}
use Rattle.hsr_world_laws.specs.World.{new_span}
use Rattle.hsr_world_links.specs.Views.{span_view}
use Rattle.hsr_world_links.proofs.starting.new_spans.Given as goal

abbrev pub invariant-loop-link : goal.invariant-loop-link
invariant-loop-link l = map span_view l.spans.items ≡ map (new_span l.capacity) (take l.link-index l.links)
