-- Where an order of a plan comes from: who sends, when, and from which stream, or as supervision.
--     stream_at   the stream whose frame an order sends
--     origin_of   sender, moment, and stream or supervision
use Rattle.std.specs.Prelude.{ℕ, Bool, true, false, take, count_by, slice_get, Option, Some, None, option_map}
use Rattle.hsr_scenario.specs.declared.steps.Order.{Order}
use Rattle.hsr_scenario.specs.declared.steps.Order.TheVariants.{Step}
use Rattle.hsr_world_steps.specs.declared.step.Step.TheVariants.{Send, Supervise}
use Rattle.hsr_plays.specs.Spans.{moment_at}
use Rattle.hsr_plan_schedule.specs.Meaning.{Meaning}
use Rattle.hsr_plan_certify.specs.declared.origin.Cause.TheVariants.{Stream, Life}
use Rattle.hsr_plan_certify.specs.declared.origin.Origin.{Origin}

-- an order sends a frame of a stream, and no supervision
abbrev pub is_frame : Order → Bool
is_frame (Step (Send node from dst vlan ethertype payload)) = true
is_frame order = false

-- A meaning lists the streams of its frames, in the order in which they are sent. Before that of the order at a step stand as many as there are
-- frames before the step.
abbrev pub stream_at : Meaning → ℕ → Option ℕ
stream_at m i = slice_get m.sends (count_by is_frame (take i m.orders))

-- of an order that sends: a frame comes from a stream, supervision from none
abbrev pub origin_by : ℕ → Order → Option ℕ → Option Origin
origin_by at (Step (Send node from dst vlan ethertype payload)) stream = option_map (λ i. record { node = node; at = at; cause = Stream i }) stream
origin_by at (Step (Supervise node about)) stream = Some (record { node = node; at = at; cause = Life })
origin_by at order stream = None

abbrev pub origin_if : ℕ → Option Order → Option ℕ → Option Origin
origin_if at None stream = None
origin_if at (Some order) stream = origin_by at order stream

-- of the order at a step, which count from 0; its moment is that behind the orders before it
abbrev pub origin_of : Meaning → ℕ → Option Origin
origin_of m i = origin_if (moment_at m.orders i) (slice_get m.orders i) (stream_at m i)
