-- How a contract sees the lanes and spans of the code, and what a call makes of one span.
use Rattle.std.specs.Prelude.{ℕ, List, [], ◌∷◌, set, Option, Some, None, Result, Ok, Err}
use Rattle.hsr_link.specs.Link.{Link, cut_step, inject_step, mended, put_step, take_step}
use Rattle.hsr_link.specs.declared.row.Dir.{Dir}
use Rattle.hsr_node.specs.declared.event.Carried.{Carried}
use Rattle.hsr_world_laws.specs.Spans.{Lane, Span, Spot, lane_of, with_lane, with_link}
use Rattle.hsr_world_laws.specs.World.{span_in}
use Rattle.hsr_world_links.specs.declared.span.Span as code
use Rattle.hsr_world_links.specs.declared.spot.Spot as code-spot
use Rattle.hsr_world_steps.specs.declared.step.WorldFault.{WorldFault}
use Rattle.hsr_world_steps.specs.declared.step.WorldFault.TheVariants.{Busy, Nothing}
use Rattle.hsr_world_links.specs.declared.lane.Lane as code-lane

abbrev pub lane_view : code-lane.Lane → Lane
lane_view lane = record { from = lane.from; to = lane.to; outbox = lane.outbox.items; hand = lane.hand }

abbrev pub span_view : code.Span → Span
span_view span = record { link = span.link; forth = lane_view span.forth; back = lane_view span.back }

-- ---- one direction of a link, and its link

-- the oldest of an outbox goes onto the link
abbrev pub put_out : Dir → Link → Lane → List Carried → Result (Link × Lane) WorldFault
put_out dir link lane [] = Err Nothing
put_out dir link lane (copy ∷ box) = Ok ((put_step link dir copy).1, record lane { outbox = box })

abbrev pub put_lane : Dir → Link → Lane → Result (Link × Lane) WorldFault
put_lane dir link lane = put_out dir link lane lane.outbox

-- what is taken comes into the hand
abbrev pub taken_in : Lane → Option Carried × Link → Result (Link × Lane) WorldFault
taken_in lane (None, link) = Err Nothing
taken_in lane (Some copy, link) = Ok (link, record lane { hand = Some copy })

abbrev pub take_in : Dir → Link → Lane → Option Carried → Result (Link × Lane) WorldFault
take_in dir link lane (Some held) = Err Busy
take_in dir link lane None = taken_in lane (take_step link dir)

abbrev pub take_lane : Dir → Link → Lane → Result (Link × Lane) WorldFault
take_lane dir link lane = take_in dir link lane lane.hand

-- ---- spans

abbrev pub in_span : Dir → Span → Result (Link × Lane) WorldFault → Result Span WorldFault
in_span dir span (Ok (link, lane)) = Ok (with_link link (with_lane dir lane span))
in_span dir span (Err fault) = Err fault

abbrev pub in_spans : ℕ → List Span → Result Span WorldFault → Result (List Span) WorldFault
in_spans l spans (Ok span) = Ok (set spans l span)
in_spans l spans (Err fault) = Err fault

abbrev pub put_span : Dir → Span → Result Span WorldFault
put_span dir span = in_span dir span (put_lane dir span.link (lane_of dir span))

abbrev pub take_span : Dir → Span → Result Span WorldFault
take_span dir span = in_span dir span (take_lane dir span.link (lane_of dir span))

abbrev pub put_spans : Dir → ℕ → List Span → Result (List Span) WorldFault
put_spans dir l spans = in_spans l spans (put_span dir (span_in spans l))

abbrev pub take_spans : Dir → ℕ → List Span → Result (List Span) WorldFault
take_spans dir l spans = in_spans l spans (take_span dir (span_in spans l))

-- a span of those is changed
abbrev pub on_span : (Span → Span) → ℕ → List Span → List Span
on_span f l spans = set spans l (f (span_in spans l))

abbrev pub mend_span : Span → Span
mend_span span = with_link (mended span.link) span

abbrev pub cut_span : Span → Span
cut_span span = with_link (cut_step span.link).1 span

abbrev pub inject_span : Dir → List ℕ → Span → Span
inject_span dir octets span = with_link (inject_step span.link dir (record { probe = None; octets = octets })).1 span

-- the oldest of the outbox of a port goes onto its link
abbrev pub put_at_spot : List Span → Option Spot → Result (List Span) WorldFault
put_at_spot spans None = Err Nothing
put_at_spot spans (Some spot) = put_spans spot.dir spot.link spans

abbrev pub spot_view : code-spot.Spot → Spot
spot_view spot = record { link = spot.link; dir = spot.dir }
