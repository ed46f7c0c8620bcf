use Rattle.std.proofs.Common.{ap, ◌∙◌, map, List}
use Rattle.hsr_ring.specs.Starting.{new_records}
use Rattle.hsr_world_links.specs.Views.{span_view}
use Rattle.hsr_ring.specs.Views.{world_of}
use Rattle.hsr_world_laws.specs.World.{new_span}
use Rattle.hsr_finished_run.specs.declared.planned.Planned.{Planned}
use Rattle.hsr_ring.proofs.Started.{new_numbered, new_world_is}
use Rattle.hsr_ring.proofs.running.Running.new.Goals as goal

pub invariant_of-result : goal.invariant_of-result
invariant_of-result g c =
    new_numbered c.in_ok-nodes.nodes.items c.args.topology.now.places (c.in_ok-nodes.ensures ∙ ap (new_records 0) c.places.ensures.value) c.places.ensures.wired.few_places

pub returns : goal.returns
returns g c =
    ap (λ (plan : List Planned). world_of 0 c.in_ok-nodes.nodes.items (map span_view c.in_ok-spans.spans.items) plan) c.new.ensures.items
    ∙ new_world_is c.args.capacity c.args.topology.now.places c.args.topology.now.links c.in_ok-nodes.nodes.items (map span_view c.in_ok-spans.spans.items)
    (c.in_ok-nodes.ensures ∙ ap (new_records 0) c.places.ensures.value)
    (c.in_ok-spans.ensures ∙ ap (map (new_span c.args.capacity)) c.links.ensures.value)
