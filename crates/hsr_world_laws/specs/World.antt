-- A world, and what a step makes of it.
use Rattle.std.specs.Prelude.{ℕ, zero, suc, ◌+◌, ◌*◌, ◌≡◌, not, nat_lt, max, Bool, true, false, if◌then◌else◌, List, [], ◌∷◌, ◌++◌, length, map, set, slice_index_or, is_some, Option, Some, None, option_map, Result, Ok, Err}
use Rattle.std.specs.Option.{option_or}
use Rattle.std.specs.List.{find}
use Rattle.hsr_node.specs.Place.{ports}
use Rattle.hsr_run_laws.specs.Run.{no_end, owner_in, record_in}
use Rattle.hsr_topology.specs.Workers.{port_worker}
use Rattle.hsr_topology.specs.declared.end.End.{End}
use Rattle.hsr_link.specs.Link.{Link, cut_step, inject_step, mended, new_link, put_step, take_step}
use Rattle.hsr_link.specs.Rows.{first_copy}
use Rattle.hsr_link.specs.declared.row.Dir.{Dir}
use Rattle.hsr_link.specs.declared.row.Dir.TheVariants.{Forth, Back}
use Rattle.hsr_node.specs.Record.{Owner, answer, now}
use Rattle.hsr_node.specs.declared.entry.Entry.{Entry}
use Rattle.hsr_node.specs.declared.event.Carried.{Carried}
use Rattle.hsr_node.specs.declared.event.Event.{Event}
use Rattle.hsr_node.specs.declared.event.Event.TheVariants as event
use Rattle.hsr_node.specs.declared.event.Outcome.{Outcome}
use Rattle.hsr_node.specs.declared.event.StepFault.{StepFault}
use Rattle.hsr_node.specs.declared.place.Place.{Place}
use Rattle.hsr_world_laws.specs.Spans.{Lane, Span, Spot, emptied, held_in, lane_of, lanes_of, on_lanes, spot_from, spread, with_lane, with_link}
use Rattle.hsr_finished_run.specs.declared.planned.Planned.{Planned}
use Rattle.hsr_world_steps.specs.declared.step.Step.{Step}
use Rattle.hsr_world_steps.specs.declared.step.Step.TheVariants.{Clock, Send, Supervise, Age, Put, Take, Judge, Cut, Mend, Inject}
use Rattle.hsr_world_steps.specs.declared.step.WorldFault.{WorldFault}
use Rattle.hsr_world_steps.specs.declared.step.WorldFault.TheVariants.{NoSuchNode, NoSuchLink, NoSuchPort, Busy, Nothing, TooLong, Node}

pub record World : Type 0 where
  pub moment : ℕ
  pub places : List Place
  -- each node's record, its newest entry first
  pub records : List (List Entry)
  pub spans : List Span
  pub plan : List Planned

-- ---- nodes

abbrev pub record_at : World → ℕ → List Entry
record_at w n = record_in w.records n

abbrev pub owner_at : World → ℕ → Owner
owner_at w n = owner_in w.places n

abbrev pub has_node : World → ℕ → Bool
has_node w n = nat_lt n (length w.places)

abbrev pub has_port : World → ℕ → ℕ → Bool
has_port w n port = nat_lt port (ports (owner_at w n).place)

-- the world once a node has one more entry: its copies join the outboxes of their ports
abbrev pub added : World → ℕ → Entry → World
added w n x = record w {
  records = set w.records n (x ∷ record_at w n);
  spans = map (on_lanes (spread (owner_at w n) x (record_at w n))) w.spans;
}

abbrev pub and_added : World → ℕ → ℕ → Event → Result Outcome StepFault → Result World WorldFault
and_added w worker n event (Ok outcome) = Ok (added w n (record { worker = worker; at = w.moment; event = event; outcome = outcome }))
and_added w worker n event (Err fault) = Err (Node fault)

-- an event that a worker brings to a node, at the moment of the world
abbrev pub entered : ℕ → World → ℕ → ℕ → Event → Result World WorldFault
entered capacity w worker n event =
    and_added w worker n event (answer capacity (owner_at w n) (record_at w n) (max (now (record_at w n)) w.moment) event)

-- the main worker's own are planned
abbrev pub planned : World → ℕ → Event → World
planned w n event = record w { plan = w.plan ++ record { node = n; at = w.moment; event = event } ∷ [] }

abbrev pub by_main : ℕ → World → ℕ → Event → Result World WorldFault
by_main capacity w n event = if has_node w n then entered capacity (planned w n event) 0 n event else Err NoSuchNode

-- ---- links

abbrev pub has_link : World → ℕ → Bool
has_link w l = nat_lt l (length w.spans)

abbrev pub no_lane : Lane
no_lane = record { from = no_end; to = no_end; outbox = []; hand = None }

abbrev pub span_in : List Span → ℕ → Span
span_in spans l = slice_index_or spans l (record { link = new_link 0; forth = no_lane; back = no_lane })

abbrev pub span_at : World → ℕ → Span
span_at w l = span_in w.spans l

abbrev pub with_span : World → ℕ → Span → World
with_span w l span = record w { spans = set w.spans l span }

abbrev pub if_link : World → ℕ → Result World WorldFault → Result World WorldFault
if_link w l result = if has_link w l then result else Err NoSuchLink

-- the oldest of an outbox goes onto the link
abbrev pub put_from : World → Spot → List Carried → Result World WorldFault
put_from w spot [] = Err Nothing
put_from w spot (copy ∷ box) =
    let span = span_at w spot.link in
    Ok (with_span w spot.link (with_link (put_step span.link spot.dir copy).1 (with_lane spot.dir (record (lane_of spot.dir span) { outbox = box }) span)))

abbrev pub put_at : World → Option Spot → Result World WorldFault
put_at w None = Err Nothing
put_at w (Some spot) = put_from w spot (lane_of spot.dir (span_at w spot.link)).outbox

-- what is taken comes into the hand
abbrev pub taken_by : World → ℕ → Dir → Option Carried × Link → Result World WorldFault
taken_by w l dir (None, link) = Err Nothing
taken_by w l dir (Some copy, link) =
    let span = span_at w l in
    Ok (with_span w l (with_link link (with_lane dir (record (lane_of dir span) { hand = Some copy }) span)))

abbrev pub take_to : World → ℕ → Dir → Option Carried → Result World WorldFault
take_to w l dir (Some held) = Err Busy
take_to w l dir None = taken_by w l dir (take_step (span_at w l).link dir)

-- a copy that was judged leaves the hand
abbrev pub cleared : World → End → World
cleared w end = record w { spans = map (on_lanes (emptied end)) w.spans }

abbrev pub judged_at : ℕ → World → End → Option Carried → Result World WorldFault
judged_at capacity w end None = Err Nothing
judged_at capacity w end (Some copy) = entered capacity (cleared w end) (port_worker end) end.node (event.Arrive end.port copy)

-- the most octets that are injected at once
abbrev pub inject_limit : ℕ
inject_limit = 2048

abbrev pub injected_at : World → ℕ → Dir → List ℕ → Result World WorldFault
injected_at w l dir octets =
    if nat_lt inject_limit (length octets) then Err TooLong
    else Ok (with_span w l (with_link (inject_step (span_at w l).link dir (record { probe = None; octets = octets })).1 (span_at w l)))

-- ---- a step

abbrev pub if_port : World → ℕ → ℕ → Result World WorldFault → Result World WorldFault
if_port w n port result = if has_node w n then (if has_port w n port then result else Err NoSuchPort) else Err NoSuchNode

-- what a step makes of a world, or the first reason why it is refused
unfoldable pub tried : ℕ → World → Step → Result World WorldFault
tried capacity w (Clock at) = Ok (record w { moment = at })
tried capacity w (Send n from dst vlan ethertype payload) = by_main capacity w n (event.Send from dst vlan ethertype payload)
tried capacity w (Supervise n about) = by_main capacity w n (event.Supervise about)
tried capacity w (Age n) = by_main capacity w n event.Age
tried capacity w (Put n port) = if_port w n port (put_at w (spot_from (record { node = n; port = port }) 0 w.spans))
tried capacity w (Take l dir) = if_link w l (take_to w l dir (lane_of dir (span_at w l)).hand)
tried capacity w (Judge n port) =
    if_port w n port (judged_at capacity w (record { node = n; port = port }) (held_in (record { node = n; port = port }) (lanes_of w.spans)))
tried capacity w (Cut l) = if_link w l (Ok (with_span w l (with_link (cut_step (span_at w l).link).1 (span_at w l))))
tried capacity w (Mend l) = if_link w l (Ok (with_span w l (with_link (mended (span_at w l).link) (span_at w l))))
tried capacity w (Inject l dir octets) = if_link w l (injected_at w l dir octets)

-- ---- the first world: nothing was done

abbrev pub new_lane : End → End → Lane
new_lane from to = record { from = from; to = to; outbox = []; hand = None }

abbrev pub new_span : ℕ → List End → Span
new_span room (a ∷ b ∷ _) = record { link = new_link room; forth = new_lane a b; back = new_lane b a }
new_span room _ = record { link = new_link room; forth = no_lane; back = no_lane }

abbrev pub new_world : ℕ → List Place → List (List End) → World
new_world room places links =
    record { moment = 0; places = places; records = map (λ place. []) places; spans = map (new_span room) links; plan = [] }

-- ---- several steps

-- a refused step changes nothing
abbrev pub or_same : World → Result World WorldFault → World
or_same w (Ok after) = after
or_same w (Err fault) = w

abbrev pub run : ℕ → List Step → World → World
run capacity [] w = w
run capacity (step ∷ steps) w = run capacity steps (or_same w (tried capacity w step))

-- ---- the order of a drain: judge what is held, else put what waits in an outbox, by the lowest node and port, else take, by
-- the lowest link, Forth before Back

abbrev pub ports_of : ℕ → ℕ → ℕ → List End
ports_of n first zero = []
ports_of n first (suc count) = record { node = n; port = first } ∷ ports_of n (first + 1) count

abbrev pub ports_from : ℕ → List Place → List End
ports_from n [] = []
ports_from n (place ∷ places) = ports_of n 0 (ports place) ++ ports_from (n + 1) places

abbrev pub is_held : World → End → Bool
is_held w end = is_some (held_in end (lanes_of w.spans))

abbrev pub is_empty : List Carried → Bool
is_empty [] = true
is_empty (copy ∷ copies) = false

abbrev pub waits_in : List Span → Option Spot → Bool
waits_in spans None = false
waits_in spans (Some spot) = not (is_empty (lane_of spot.dir (span_in spans spot.link)).outbox)

abbrev pub is_waiting : World → End → Bool
is_waiting w end = waits_in w.spans (spot_from end 0 w.spans)

abbrev pub take_from : ℕ → List Span → Option Step
take_from l [] = None
take_from l (span ∷ spans) =
    if is_some (first_copy Forth span.link.rows) then Some (Take l Forth)
    else (if is_some (first_copy Back span.link.rows) then Some (Take l Back) else take_from (l + 1) spans)

-- the step that a drain does next, if something is left
abbrev pub next_step : World → Option Step
next_step w =
    let ends = ports_from 0 w.places in
    option_or (option_map (λ (end : End). Judge end.node end.port) (find (is_held w) ends))
    (option_or (option_map (λ (end : End). Put end.node end.port) (find (is_waiting w) ends))
    (take_from 0 w.spans))

-- a number of steps of a drain lead from one world to another
abbrev pub Drains : ℕ → ℕ → World → World → Type 0
Drains capacity zero w after = w ≡ after
Drains capacity (suc n) w after =
    (step : Step) × (between : World) × (next_step w ≡ Some step) × (tried capacity w step ≡ Ok between) × Drains capacity n between after
