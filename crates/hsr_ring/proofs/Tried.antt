-- What a step is refused for, or makes of a world, where it is known what it makes of the spans.
use Rattle.std.proofs.Common.{◌≡◌, ℕ, List, [], ◌∷◌, Option, Some, None, Result, Err, refl, ◌∙◌, arith}
use Rattle.std.proofs.lemmas.Grind.{common_steps}
use Rattle.hsr_node.specs.declared.event.Carried.{Carried}
use Rattle.hsr_world_laws.specs.Spans.{held_in, lanes_of, Spot, lane_of, spot_from}
use Rattle.hsr_world_links.specs.Views.{in_span, in_spans, put_at_spot, put_out}
use Rattle.hsr_ring.specs.Views.{in_world}
use Rattle.hsr_world_links.specs.Ports.{port_fault}
use Rattle.hsr_world_laws.specs.World.{World, if_port, judged_at, span_at, put_at, put_from, tried}
use Rattle.hsr_world_steps.specs.declared.step.Step.TheVariants.{Judge, Put}
use Rattle.hsr_world_steps.specs.declared.step.WorldFault.{WorldFault}

pub no_port : (w : World) (n port : ℕ) (fault : WorldFault) (r : Result World WorldFault) → port_fault w.places n port ≡ Some fault → if_port w n port r ≡ Err fault
no_port w n port fault r h = grind (arith, common_steps)

pub a_port : (w : World) (n port : ℕ) (r : Result World WorldFault) → port_fault w.places n port ≡ None → if_port w n port r ≡ r
a_port w n port r h = grind (arith, common_steps)

put_from_is : (w : World) (spot : Spot) (box : List Carried) →
    put_from w spot box ≡ in_world w (in_spans spot.link w.spans (in_span spot.dir (span_at w spot.link) (put_out spot.dir (span_at w spot.link).link (lane_of spot.dir (span_at w spot.link)) box)))
put_from_is w spot [] = refl
put_from_is w spot (copy ∷ box) = refl

put_at_is : (w : World) (spot : Option Spot) → put_at w spot ≡ in_world w (put_at_spot w.spans spot)
put_at_is w None = refl
put_at_is w (Some spot) = put_from_is w spot (lane_of spot.dir (span_at w spot.link)).outbox

pub put_refused : (capacity : ℕ) (w : World) (n port : ℕ) (fault : WorldFault) → port_fault w.places n port ≡ Some fault → tried capacity w (Put n port) ≡ Err fault
unfolding tried
put_refused capacity w n port fault h = no_port w n port fault _ h

pub put_is : (capacity : ℕ) (w : World) (n port : ℕ) → port_fault w.places n port ≡ None →
    tried capacity w (Put n port) ≡ in_world w (put_at_spot w.spans (spot_from (record { node = n; port = port }) 0 w.spans))
unfolding tried
put_is capacity w n port h = a_port w n port _ h ∙ put_at_is w (spot_from (record { node = n; port = port }) 0 w.spans)

pub judge_refused : (capacity : ℕ) (w : World) (n port : ℕ) (fault : WorldFault) → port_fault w.places n port ≡ Some fault → tried capacity w (Judge n port) ≡ Err fault
unfolding tried
judge_refused capacity w n port fault h = no_port w n port fault _ h

pub judge_is : (capacity : ℕ) (w : World) (n port : ℕ) → port_fault w.places n port ≡ None →
    tried capacity w (Judge n port) ≡ judged_at capacity w (record { node = n; port = port }) (held_in (record { node = n; port = port }) (lanes_of w.spans))
unfolding tried
judge_is capacity w n port h = a_port w n port _ h
