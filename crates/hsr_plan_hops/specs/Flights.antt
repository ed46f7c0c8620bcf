-- Copies on their way, channel by channel. A channel is a direction of a link. Copies go over it in the order in which they were put, and each
-- is taken just when it comes to its end, unless a cut took it before. Until it is taken then, nothing that is told is done, and no later moment
-- is set.
--     begins_at    when a copy begins to go over its channel
--     ends_at      when its channel is free behind it
--     arrives_at   when it comes to its end: then it is taken and judged
--     next_of      the copy that comes to its end next
--     is_on_time   a step may stand at a moment, by the copy that comes to its end next
--     AreOnTime    so it is with all orders
use Rattle.std.specs.Prelude.{ℕ, ◌+◌, ◌-◌, ◌^◌, ◌==◌, ◌≡◌, max, min, nat_le, nat_lt, not, Bool, true, false, ◌&&◌, ◌||◌, List, [], ◌∷◌, ◌++◌, fold, length, replicate, Option, Some, None, is_some, slice_get, slice_index_or, slice_set, if◌then◌else◌, Ok}
use Rattle.hsr_topology.specs.Links.{link_from}
use Rattle.hsr_topology.specs.declared.end.End.{End}
use Rattle.hsr_link.specs.Rows.{is_queued, is_same_dir}
use Rattle.hsr_link.specs.declared.row.Dir.{Dir}
use Rattle.hsr_link.specs.declared.row.Dir.TheVariants.{Forth, Back}
use Rattle.hsr_link.specs.declared.row.Fate.{Fate}
use Rattle.hsr_link.specs.declared.row.Fate.TheVariants.{LostCut}
use Rattle.hsr_link.specs.declared.row.Row.{Row}
use Rattle.hsr_scenario.specs.declared.steps.Order.{Order}
use Rattle.hsr_scenario.specs.declared.steps.Order.TheVariants.{Step, Drain}
use Rattle.hsr_wire.specs.Octets.{wire_octets}
use Rattle.hsr_wire.specs.Time.{time_of}
use Rattle.hsr_world_steps.specs.declared.step.Step.TheVariants.{Clock, Put, Take, Judge, Cut}
use Rattle.hsr_world_steps.specs.declared.step.Step as steps
use Rattle.hsr_world_laws.specs.World.{World, span_at, tried}
use Rattle.hsr_plan_text.specs.declared.plan.Transfer.{Transfer}
use Rattle.hsr_plan_text.specs.declared.plan.Transfer.TheVariants as transfer
use Rattle.hsr_plan_text.specs.declared.plan.Switching.{Switching}
use Rattle.hsr_plan_text.specs.declared.plan.Switching.TheVariants as switching
use Rattle.hsr_plan_text.specs.declared.plan.Wire.{Wire}
use Rattle.hsr_plan_hops.specs.Turns.{begun_behind, moment_behind, receiver}
use Rattle.hsr_plan_hops.specs.declared.flights.Flight.{Flight}
use Rattle.hsr_plan_hops.specs.declared.flights.Arrival.{Arrival}

-- ---- which copies are on their way

abbrev pub rows_at : World → ℕ → List Row
rows_at w l = (span_at w l).link.rows

abbrev pub is_queued_if : Option Row → Bool
is_queued_if None = false
is_queued_if (Some row) = is_queued row.fate

-- the copy still waits on its link
abbrev pub is_on_way : World → Flight → Bool
is_on_way w f = is_queued_if (slice_get (rows_at w f.link) f.row)

-- copies, from the first on that still waits
abbrev pub on_way : World → List Flight → List Flight
on_way w [] = []
on_way w (f ∷ flights) = if is_on_way w f then f ∷ flights else on_way w flights

-- a channel: the copies that it had to carry and that weren't taken when its last one was put, and that last one
pub record Channel : Type 0 where
  pub waiting : List Flight
  pub last : Option Flight

abbrev pub no_channel : Channel
no_channel = record { waiting = []; last = None }

-- those of all links, link by link
pub record Channels : Type 0 where
  pub forth : List Channel
  pub back : List Channel

-- nothing was put yet
abbrev pub no_channels : List (List End) → Channels
no_channels links = record { forth = replicate (length links) no_channel; back = replicate (length links) no_channel }

abbrev pub channels_of : Dir → Channels → List Channel
channels_of Forth cs = cs.forth
channels_of Back cs = cs.back

-- ---- when a copy goes over its channel

-- a moment so much later; none is later than the last that a number of 64 bits tells
abbrev pub later : ℕ → ℕ → ℕ
later at us = min (at + us) (2 ^ 64 - 1)

abbrev pub is_cut_off : Fate → Bool
is_cut_off LostCut = true
is_cut_off fate = false

abbrev pub is_cut_off_if : Option Row → Bool
is_cut_off_if None = false
is_cut_off_if (Some row) = is_cut_off row.fate

-- from when on a channel is free: from the end of the copy that was put last; from the first moment on, if a cut took that, or none was put
abbrev pub free_behind : World → Option Flight → ℕ
free_behind w None = 0
free_behind w (Some f) = if is_cut_off_if (slice_get (rows_at w f.link) f.row) then 0 else f.ends

-- a copy that is put now, where its channel is free from a moment on: hops don't get in each other's way, and a wire carries one frame at a time
abbrev pub begins_at : Transfer → ℕ → ℕ → ℕ
begins_at (transfer.Hop us) now free = now
begins_at (transfer.Wire wire) now free = max now free

-- how long octets take on a wire; a rate of 0, which no plan has, counts as 1
abbrev pub time_on : Wire → ℕ → ℕ
time_on wire octets = time_of (max 1 wire.rate) octets

-- a frame takes its wire with all that stands before and behind it
abbrev pub ends_at : Transfer → ℕ → List ℕ → ℕ
ends_at (transfer.Hop us) begins octets = begins
ends_at (transfer.Wire wire) begins octets = later begins (time_on wire (wire_octets octets))

-- ---- channels behind a step

-- the copy of a row that a channel has to carry from now on
abbrev pub flight_of : Transfer → ℕ → ℕ → ℕ → Dir → ℕ → ℕ → Row → Flight
flight_of transfer now turn l dir number free row = record {
  link = l;
  dir = dir;
  row = number;
  turn = turn;
  begins = begins_at transfer now free;
  ends = ends_at transfer (begins_at transfer now free) row.carried.octets;
}

-- the channel with that copy
abbrev pub carrying : World → Channel → Flight → Channel
carrying w c f = record { waiting = on_way w c.waiting ++ f ∷ []; last = Some f }

-- a copy that was lost as it was put isn't carried
abbrev pub put_if : Transfer → ℕ → ℕ → ℕ → Dir → World → Channel → Option Row → Channel
put_if transfer now turn l dir w c None = c
put_if transfer now turn l dir w c (Some row) =
    if is_queued row.fate then carrying w c (flight_of transfer now turn l dir (length (rows_at w l) - 1) (free_behind w c.last) row) else c

-- a copy was put: the last row of the link is its
abbrev pub put_on : Transfer → ℕ → ℕ → ℕ → Dir → World → Channel → Channel
put_on transfer now turn l dir w c = put_if transfer now turn l dir w c (slice_get (rows_at w l) (length (rows_at w l) - 1))

-- what was taken, or lost by a cut, is forgotten
abbrev pub kept : World → Channel → Channel
kept w c = record c { waiting = on_way w c.waiting }

-- the list where the channel of a link is another
abbrev pub with_channel : List Channel → ℕ → Channel → List Channel
with_channel cs l c = if nat_lt l (length cs) then slice_set cs l c else cs

abbrev pub put_at : Transfer → ℕ → ℕ → ℕ → Dir → World → List Channel → List Channel
put_at transfer now turn l dir w cs = with_channel cs l (put_on transfer now turn l dir w (slice_index_or cs l no_channel))

abbrev pub kept_at : ℕ → World → List Channel → List Channel
kept_at l w cs = with_channel cs l (kept w (slice_index_or cs l no_channel))

abbrev pub put_in : Transfer → ℕ → ℕ → ℕ → Dir → World → Channels → Channels
put_in transfer now turn l Forth w cs = record cs { forth = put_at transfer now turn l Forth w cs.forth }
put_in transfer now turn l Back w cs = record cs { back = put_at transfer now turn l Back w cs.back }

abbrev pub kept_in : ℕ → Dir → World → Channels → Channels
kept_in l Forth w cs = record cs { forth = kept_at l w cs.forth }
kept_in l Back w cs = record cs { back = kept_at l w cs.back }

-- a port put a copy on its link
abbrev pub put_by : Transfer → ℕ → ℕ → World → Channels → Option (ℕ × Bool) → Channels
put_by transfer now turn w cs None = cs
put_by transfer now turn w cs (Some at) = put_in transfer now turn at.0 (if at.1 then Forth else Back) w cs

-- the channels behind a step that led to this world
abbrev pub channels_behind : Transfer → List (List End) → ℕ → ℕ → steps.Step → World → Channels → Channels
channels_behind transfer links now turn (Put n port) w cs = put_by transfer now turn w cs (link_from 0 links (record { node = n; port = port }))
channels_behind transfer links now turn (Take l dir) w cs = kept_in l dir w cs
channels_behind transfer links now turn (Cut l) w cs = kept_in l Back w (kept_in l Forth w cs)
channels_behind transfer links now turn step w cs = cs

-- how many copies were put, behind a step
abbrev pub turn_behind : ℕ → steps.Step → ℕ
turn_behind turn (Put n port) = later turn 1
turn_behind turn step = turn

-- ---- when a copy comes to its end

-- a moment isn't past; nor now, once something that is told was done now
abbrev pub is_to_come : ℕ → Bool → ℕ → Bool
is_to_come now begun at = if begun then nat_lt now at else nat_le now at

abbrev pub free_if : World → Option Channel → ℕ
free_if w None = 0
free_if w (Some c) = free_behind w c.last

abbrev pub dir_from : Bool → Dir
dir_from first = if first then Forth else Back

-- where a port has a link, its channel is free at a moment
abbrev pub is_free : World → Channels → ℕ → Option (ℕ × Bool) → Bool
is_free w cs at None = true
is_free w cs at (Some way) = nat_le (free_if w (slice_get (channels_of (dir_from way.1) cs) way.0)) at

-- the link of a port of a node; none where that is the port at which a copy arrives
abbrev pub way_by : List (List End) → End → ℕ → Option (ℕ × Bool)
way_by links end port = if port == end.port then None else link_from 0 links (record { node = end.node; port = port })

abbrev pub leads_on : List (List End) → End → Bool
leads_on links end =
    is_some (way_by links end 0) || (is_some (way_by links end 1) || (is_some (way_by links end 2) || is_some (way_by links end 3)))

abbrev pub is_free_by : List (List End) → World → Channels → ℕ → End → ℕ → Bool
is_free_by links w cs at end port = is_free w cs at (way_by links end port)

abbrev pub are_free : List (List End) → World → Channels → ℕ → End → Bool
are_free links w cs at end =
    is_free_by links w cs at end 0 && (is_free_by links w cs at end 1 && (is_free_by links w cs at end 2 && is_free_by links w cs at end 3))

-- behind the port at which a copy arrives the node has a link by another port, and the channels from all of these are free at a moment
abbrev pub is_way_free : List (List End) → World → Channels → ℕ → Option End → Bool
is_way_free links w cs at None = false
is_way_free links w cs at (Some end) = leads_on links end && are_free links w cs at end

-- how many octets of a frame are there when a node can pass it on: its addresses, a VLAN tag, and what stands in an HSR tag up to its number
abbrev pub head_octets : ℕ
head_octets = 22

-- when the first octets of a copy were there, and its node kept them for its time
abbrev pub head_at : Wire → Flight → ℕ
head_at wire f = later (later f.begins (time_on wire head_octets)) wire.residence

-- so it is with all of it
abbrev pub end_at : Wire → Flight → ℕ
end_at wire f = later f.ends wire.residence

-- what a node looks at: the links, the moment, whether something that is told was done at it, the channels and the world
pub record Sight : Type 0 where
  pub links : List (List End)
  pub now : ℕ
  pub begun : Bool
  pub channels : Channels
  pub world : World

-- the way of a copy is free when its first octets are there, as far as can be seen now
abbrev pub is_cut_through : Sight → Wire → Flight → Bool
is_cut_through v wire f =
    is_to_come v.now v.begun (head_at wire f) && is_way_free v.links v.world v.channels (head_at wire f) (receiver v.links f.link f.dir)

abbrev pub arrives_by : Sight → Wire → Switching → Flight → ℕ
arrives_by v wire switching.Store f = end_at wire f
arrives_by v wire switching.Cut f = if is_cut_through v wire f then head_at wire f else end_at wire f

-- a hop takes so long; by a wire a node judges a frame once it's there as a whole, or cuts through
abbrev pub arrives_at : Transfer → Sight → Flight → ℕ
arrives_at (transfer.Hop us) v f = later f.begins us
arrives_at (transfer.Wire wire) v f = arrives_by v wire wire.switching f

-- ---- the copy that comes to its end next

abbrev pub arrival_of : Transfer → Sight → Flight → Arrival
arrival_of transfer v f = record { link = f.link; dir = f.dir; turn = f.turn; at = arrives_at transfer v f }

abbrev pub arrival_if : Transfer → Sight → Option Flight → Option Arrival
arrival_if transfer v None = None
arrival_if transfer v (Some f) = Some (arrival_of transfer v f)

-- of the copies of a channel the first that waits is the first to arrive
abbrev pub arrival_on : Transfer → Sight → Channel → Option Arrival
arrival_on transfer v c = arrival_if transfer v (slice_get (on_way v.world c.waiting) 0)

-- at one moment those arrive first that were put first
abbrev pub is_sooner : Arrival → Arrival → Bool
is_sooner a b = nat_lt a.at b.at || (a.at == b.at && nat_lt a.turn b.turn)

abbrev pub sooner : Option Arrival → Option Arrival → Option Arrival
sooner None b = b
sooner (Some a) None = Some a
sooner (Some a) (Some b) = if is_sooner b a then Some b else Some a

abbrev pub sooner_on : Transfer → Sight → Option Arrival → Channel → Option Arrival
sooner_on transfer v a c = sooner a (arrival_on transfer v c)

-- of all channels
abbrev pub next_of : Transfer → Sight → Option Arrival
next_of transfer v = fold (sooner_on transfer v) (fold (sooner_on transfer v) None v.channels.forth) v.channels.back

-- ---- what may be done while a copy is the next that comes to its end, if there is one

-- it comes to its end later than now
abbrev pub is_before_end : ℕ → Option Arrival → Bool
is_before_end now None = true
is_before_end now (Some a) = nat_lt now a.at

-- it comes to its end at this moment, or later
abbrev pub is_up_to_end : ℕ → Option Arrival → Bool
is_up_to_end at None = true
is_up_to_end at (Some a) = nat_le at a.at

-- it comes to its end now, and is the one that is taken
abbrev pub is_at_end : ℕ → ℕ → Dir → Option Arrival → Bool
is_at_end now l dir None = false
is_at_end now l dir (Some a) = (a.link == l && is_same_dir a.dir dir) && a.at == now

abbrev pub is_on_time : ℕ → Option Arrival → steps.Step → Bool
is_on_time now next (Clock at) = is_up_to_end at next
is_on_time now next (Put n port) = true
is_on_time now next (Take l dir) = is_at_end now l dir next
is_on_time now next (Judge n port) = true
is_on_time now next _ = is_before_end now next

-- ---- all

-- what is seen behind a step that led to this world
abbrev pub seen_behind : Transfer → ℕ → Sight → steps.Step → World → Sight
seen_behind transfer turn v step after = record {
  links = v.links;
  now = moment_behind v.now step;
  begun = begun_behind v.begun step;
  channels = channels_behind transfer v.links v.now turn step after v.channels;
  world = after;
}

-- so it is with all these orders, of which the first stands where this is seen, behind so many puts
abbrev pub AreOnTime : ℕ → Transfer → ℕ → Sight → List Order → Type 0
AreOnTime capacity transfer turn v [] = Unit {0}
AreOnTime capacity transfer turn v (Drain ∷ orders) = ⊥
AreOnTime capacity transfer turn v (Step step ∷ orders) =
    (between : World) × (tried capacity v.world step ≡ Ok between) × (is_on_time v.now (next_of transfer v) step ≡ true)
    × AreOnTime capacity transfer (turn_behind turn step) (seen_behind transfer turn v step between) orders
