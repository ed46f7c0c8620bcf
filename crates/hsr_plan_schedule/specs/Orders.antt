-- The orders of a scenario that tell what happens in a plan.
use Rattle.std.specs.Prelude.{ℕ, ◌+◌, ◌==◌, ◌&&◌, ◌||◌, not, Bool, true, false, List, [], ◌∷◌, ◌++◌, length, replicate, slice_get, slice_set, Option, Some, None, unwrap_or, if◌then◌else◌}
use Rattle.hsr_frame.specs.declared.node.About.TheVariants.{Own, Proxied}
use Rattle.hsr_world_steps.specs.declared.step.Step.TheVariants.{Clock, Supervise}
use Rattle.hsr_world_steps.specs.declared.step.Step.TheVariants as step
use Rattle.hsr_scenario.specs.declared.steps.Order.{Order}
use Rattle.hsr_scenario.specs.declared.steps.Order.TheVariants.{Step, Drain}
use Rattle.hsr_topology.specs.declared.end.End.{End}
use Rattle.hsr_plan_text.specs.Plan.{Stream}
use Rattle.hsr_plan_text.specs.declared.plan.Kind.{Kind}
use Rattle.hsr_plan_text.specs.declared.plan.Kind.TheVariants.{Goose, SampledValues, Number}
use Rattle.hsr_plan_text.specs.declared.plan.Moves.{Moves}
use Rattle.hsr_plan_text.specs.declared.plan.Moves.TheVariants.{EachSendDrains, EachMomentDrains, Timed}
use Rattle.hsr_plan_schedule.specs.Payloads.{payload}
use Rattle.hsr_plan_schedule.specs.Hearing.{Heard, has_room, heard_on, interlink_to, knows, macs_behind, nothing_heard, settled}
use Rattle.hsr_plan_schedule.specs.Setting.{Setting}
use Rattle.hsr_plan_schedule.specs.declared.occasion.Happening.{Happening}
use Rattle.hsr_plan_schedule.specs.declared.occasion.Happening.TheVariants as happening
use Rattle.hsr_plan_schedule.specs.declared.occasion.Occasion.{Occasion}
use Rattle.hsr_plan_schedule.specs.declared.occasion.Sender.{Sender}
use Rattle.hsr_plan_schedule.specs.declared.occasion.Sent.{Sent}
use Rattle.hsr_plan_schedule.specs.declared.publication.Publication.{Publication}
use Rattle.hsr_plan_schedule.specs.declared.publication.Turn.{Turn}

-- what was told so far: the moment, which nodes are off, which links are cut by an event, whether something was sent since the
-- last drain, what was heard of stations, the orders, and of each frame that they send the number of its stream
pub record Told : Type 0 where
  pub now : ℕ
  pub off : List Bool
  pub cut : List Bool
  pub sent : Bool
  pub heard : Heard
  pub orders : List Order
  pub sends : List ℕ

abbrev pub flag : List Bool → ℕ → Bool
flag bs k = unwrap_or (slice_get bs k) false

-- ---- which links are down

abbrev pub ends_off : List Bool → List End → Bool
ends_off off (a ∷ b ∷ []) = flag off a.node || flag off b.node
ends_off off _ = false

-- a link is down if it was cut, or a node at its ends is off
abbrev pub is_down : List Bool → List Bool → ℕ → List End → Bool
is_down off cut l ends = flag cut l || ends_off off ends

abbrev pub downs : List Bool → List Bool → ℕ → List (List End) → List Bool
downs off cut l [] = []
downs off cut l (ends ∷ more) = is_down off cut l ends ∷ downs off cut (l + 1) more

abbrev pub change : Bool → Bool → ℕ → List Order
change true true l = []
change false false l = []
change false true l = Step (step.Cut l) ∷ []
change true false l = Step (step.Mend l) ∷ []

-- the cut or the mending of each link that goes down or up
abbrev pub changes : List Bool → ℕ → List Bool → List Order
changes after l [] = []
changes after l (before ∷ more) = change before (flag after l) l ++ changes after (l + 1) more

abbrev pub changed : List (List End) → List Bool → List Bool → Told → Told
changed links off cut told = record told {
  off = off;
  cut = cut;
  orders = told.orders ++ changes (downs off cut 0 links) 0 (downs told.off told.cut 0 links);
}

-- ---- drains and moments

-- all copies are brought to their ends
abbrev pub drain : Told → Told
drain told = record told { sent = false; heard = settled told.heard; orders = told.orders ++ Drain ∷ [] }

-- what was sent is brought to its end
abbrev pub drained : Told → Told
drained told = if told.sent then drain told else told

abbrev pub set : ℕ → Told → Told
set at told = record told { now = at; orders = told.orders ++ Step (Clock at) ∷ [] }

-- at another moment what was sent is drained, and the moment set
abbrev pub clocked : ℕ → Told → Told
clocked at told = if told.now == at then told else set at (drained told)

-- something is sent, and drained where each send drains; how copies move by hops isn't told here
abbrev pub sending : Moves → Order → Told → Told
sending EachSendDrains order told = drain (record told { orders = told.orders ++ order ∷ [] })
sending EachMomentDrains order told = record told { sent = true; orders = told.orders ++ order ∷ [] }
sending (Timed transfer) order told = record told { orders = told.orders ++ order ∷ [] }

-- ---- stations

-- a frame of a station comes to its RedBox if their interlink is up, and another copy can wait there
abbrev pub comes : Setting → ℕ → Sender → List End → Told → Bool
comes g l sender ends told = not (is_down told.off told.cut l ends) && has_room g.capacity sender.node told.heard

abbrev pub hear_on : Setting → ℕ → Sender → Option (List End) → Told → Told
hear_on g l sender None told = told
hear_on g l sender (Some ends) told =
    if comes g l sender ends told then record told { heard = heard_on g.nodes told.now ends sender.mac told.heard } else told

abbrev pub hear_by : Setting → Option ℕ → Sender → Told → Told
hear_by g None sender told = told
hear_by g (Some l) sender told = hear_on g l sender (slice_get g.links l) told

-- what the frame of a sender tells a RedBox, if the sender is a station
abbrev pub hear : Setting → Sender → Told → Told
hear g sender told = hear_by g (interlink_to g.links sender.node) sender told

-- a RedBox is told to speak for an address that it knows then; by hops for each, since what it knows is known when that is played
abbrev pub is_to_speak : Moves → Bool → Bool
is_to_speak EachSendDrains known = known
is_to_speak EachMomentDrains known = known
is_to_speak (Timed transfer) known = true

-- a RedBox sends supervision about an address
abbrev pub speak : Setting → ℕ → List ℕ → Told → Told
speak g k mac told = if is_to_speak g.moves (knows told.now k mac told.heard) then sending g.moves (Step (Supervise k (Proxied mac))) told else told

abbrev pub speak_of : Setting → ℕ → List (List ℕ) → Told → Told
speak_of g k [] told = told
speak_of g k (mac ∷ macs) told = speak_of g k macs (speak g k mac told)

-- supervision of a node, and of the stations behind it that it knows
abbrev pub live : Setting → ℕ → Told → Told
live g k told = speak_of g k (macs_behind g.nodes g.links k) (sending g.moves (Step (Supervise k Own)) told)

-- ---- frames of streams

abbrev pub type_of : Kind → ℕ
type_of Goose = 0x88B8
type_of SampledValues = 0x88BA
type_of (Number n) = n

abbrev pub name_if : Option (List ℕ) → List ℕ
name_if None = []
name_if (Some name) = name

-- which frame of a stream is sent
abbrev pub turn_of : Sent → Turn
turn_of sent = record { index = sent.index; state = sent.state; count = sent.count }

abbrev pub payload_if : Setting → Stream → Option Publication → Turn → List ℕ
payload_if g stream None turn = []
payload_if g stream (Some p) turn = payload g.epoch p stream stream.framing.size (name_if (slice_get stream.from turn.index)) turn

abbrev pub named_send : Setting → Stream → Sent → Order
named_send g stream sent = Step (step.Send sent.sender.node sent.sender.from sent.dst stream.framing.tag (type_of stream.framing.kind)
    (payload_if g stream (slice_get g.publications sent.stream) (turn_of sent)))

-- a frame is from the stream of that number
abbrev pub from_stream : ℕ → Told → Told
from_stream i told = record told { sends = told.sends ++ i ∷ [] }

abbrev pub send_if : Setting → Option Stream → Sent → Told → Told
send_if g None sent told = told
send_if g (Some stream) sent told = sending g.moves (named_send g stream sent) (from_stream sent.stream (hear g sent.sender told))

-- ---- all

-- what is off sends nothing
abbrev pub happens : Setting → Happening → Told → Told
happens g (happening.Cut l) told = changed g.links told.off (slice_set told.cut l true) told
happens g (happening.Mend l) told = changed g.links told.off (slice_set told.cut l false) told
happens g (happening.Off k) told = changed g.links (slice_set told.off k true) told.cut told
happens g (happening.On k) told = changed g.links (slice_set told.off k false) told.cut told
happens g (happening.Life k) told = if flag told.off k then told else live g k told
happens g (happening.Send sent) told = if flag told.off sent.sender.node then told else send_if g (slice_get g.streams sent.stream) sent told

abbrev pub tell_occasion : Setting → Occasion → Told → Told
tell_occasion g o told = happens g o.what (clocked o.at told)

abbrev pub tell_all : Setting → Told → List Occasion → Told
tell_all g told [] = told
tell_all g told (o ∷ os) = tell_all g (tell_occasion g o told) os

-- nothing told, at the moment 0
abbrev pub start : Setting → Told
start g = record {
  now = 0;
  off = replicate (length g.nodes) false;
  cut = replicate (length g.links) false;
  sent = false;
  heard = nothing_heard g.nodes;
  orders = [];
  sends = [];
}

abbrev pub told_of : Setting → List Occasion → Told
told_of g os = drained (tell_all g (start g) os)
