-- The conditions as tests of steps and of spans.
use Rattle.std.specs.Prelude.{ℕ, ◌+◌, ◌-◌, ◌==◌, ◌&&◌, not, min, nat_lt, nat_le, Bool, true, false, if◌then◌else◌, List, [], ◌∷◌, length, count_by, drop, take, Option, Some, None}
use Rattle.std.specs.List.{list_any}
use Rattle.hsr_frame.specs.Address.{is_same_address}
use Rattle.hsr_frame.specs.declared.node.About.{About}
use Rattle.hsr_frame.specs.declared.node.About.TheVariants.{Own, Proxied}
use Rattle.hsr_duptable.specs.Notes.{entry_forget}
use Rattle.hsr_tables.specs.Known.{node_forget}
use Rattle.hsr_node.specs.Copies.{address_at}
use Rattle.hsr_node.specs.declared.place.Place.{Place}
use Rattle.hsr_node.specs.declared.place.Place.TheVariants.{Danh, RedBox}
use Rattle.hsr_topology.specs.declared.end.End.{End}
use Rattle.hsr_link.specs.declared.row.Dir.TheVariants.{Forth, Back}
use Rattle.hsr_network_laws.specs.Network.{Channel, start_of}
use Rattle.hsr_run_laws.specs.Run.{Run, place_of}
use Rattle.hsr_forwarding.specs.Numbers.{number_range}
use Rattle.hsr_topology.specs.Links.{link_from}
use Rattle.hsr_scenario.specs.declared.steps.Order.{Order}
use Rattle.hsr_scenario.specs.declared.steps.Order.TheVariants as order
use Rattle.hsr_world_steps.specs.declared.step.Step.{Step}
use Rattle.hsr_world_steps.specs.declared.step.Step.TheVariants.{Send, Supervise, Age, Cut, Mend}
use Rattle.hsr_plays.specs.Conditions.{is_fine, is_numbered_by_then, is_sent_from}
use Rattle.hsr_plays.specs.Spans.{is_down, is_open_at, meets, moment_after, moment_behind}
use Rattle.hsr_plays.specs.declared.span.SendSpan.{SendSpan}

-- ---- fine, ended

abbrev pub is_coarse : ℕ → Order → Bool
is_coarse i order = not (is_fine order)

abbrev pub is_ended : ℕ → SendSpan → Bool
is_ended steps span = nat_lt span.end steps

-- ---- not back

-- the first step that sets the clock back, of steps from an index on, with the moment at which they begin
abbrev pub first_back : ℕ → ℕ → List Order → Option ℕ
first_back moment i [] = None
first_back moment i (order ∷ later) =
    if nat_le moment (moment_after moment order) then first_back (moment_after moment order) (i + 1) later else Some i

-- ---- brief

-- behind each of these steps the moment is less than so much above the least so far
abbrev pub rises_less : ℕ → ℕ → ℕ → List Order → Bool
rises_less limit least moment [] = true
rises_less limit least moment (order ∷ later) =
    nat_lt (moment_after moment order) (min least (moment_after moment order) + limit)
    && rises_less limit (min least (moment_after moment order)) (moment_after moment order) later

-- the steps between a send and the step that ends its span
abbrev pub inner_steps : List Order → SendSpan → List Order
inner_steps orders span = take (span.end - (span.index + 1)) (drop (span.index + 1) orders)

abbrev pub is_brief : List Order → SendSpan → Bool
is_brief orders span = rises_less entry_forget span.moment span.moment (inner_steps orders span)

-- ---- uncrowded, unwrapped, room

abbrev pub is_uncrowded : ℕ → List SendSpan → SendSpan → Bool
is_uncrowded capacity spans span = nat_le (count_by (meets span) spans) capacity

abbrev pub is_unwrapped : Run → List SendSpan → SendSpan → Bool
is_unwrapped net spans span = nat_le (count_by (is_numbered_by_then net span) spans) number_range

abbrev pub has_room : ℕ → List SendSpan → SendSpan → Bool
has_room room spans span = nat_le (count_by (is_open_at (span.index + 1)) spans) room

-- ---- accepted

-- the least moment behind these steps, or the one before them
abbrev pub least_behind : ℕ → ℕ → List Order → ℕ
least_behind least moment [] = least
least_behind least moment (order ∷ later) = least_behind (min least (moment_after moment order)) (moment_after moment order) later

-- behind each of these steps the moment is below a bound
abbrev pub stays_below : ℕ → ℕ → List Order → Bool
stays_below bound moment [] = true
stays_below bound moment (order ∷ later) = nat_lt (moment_after moment order) bound && stays_below bound (moment_after moment order) later

-- since any time of a span up to the step at an index the clock rose by less than a RedBox remembers an address
abbrev pub was_lately : List Order → ℕ → SendSpan → Bool
was_lately orders i span =
    rises_less node_forget span.moment span.moment (inner_steps orders span)
    && stays_below (least_behind span.moment span.moment (inner_steps orders span) + node_forget) (moment_behind span.moment (inner_steps orders span))
    (take (i - span.end) (drop span.end orders))

-- the address from which a send comes is this one
abbrev pub is_from : Option (List ℕ) → List ℕ → Bool
is_from None mac = false
is_from (Some own) mac = is_same_address own mac

-- a RedBox heard an address by this send, which came over this channel
abbrev pub is_heard_by : Run → List Order → ℕ → List ℕ → Channel → SendSpan → Bool
is_heard_by net orders i mac channel span =
    (span.asked.node == (start_of net channel).node) && (is_from (address_at (place_of net span.asked.node) span.asked.from) mac
    && (nat_le span.end i && (was_lately orders i span && not (is_down orders span channel.link))))

-- the channel to an end of a link, which is its first end or its second
abbrev pub channel_to : ℕ × Bool → Channel
channel_to at = record { link = at.0; dir = if at.1 then Back else Forth }

abbrev pub is_heard_at : Run → List Order → List SendSpan → ℕ → List ℕ → Option (ℕ × Bool) → Bool
is_heard_at net orders spans i mac None = false
is_heard_at net orders spans i mac (Some at) = list_any (is_heard_by net orders i mac (channel_to at)) spans

abbrev pub interlink_of : ℕ → End
interlink_of node = record { node = node; port = 2 }

abbrev pub is_heard : Run → List Order → List SendSpan → ℕ → ℕ → List ℕ → Bool
is_heard net orders spans i node mac = is_heard_at net orders spans i mac (link_from 0 net.links (interlink_of node))

abbrev pub speaks : Run → List Order → List SendSpan → ℕ → ℕ → Place → About → Bool
speaks net orders spans i node (Danh mac mode) Own = true
speaks net orders spans i node (RedBox mac mode) Own = true
speaks net orders spans i node (RedBox mac mode) (Proxied station) = is_heard net orders spans i node station
speaks net orders spans i node _ about = false

abbrev pub is_accepted_step : Run → List Order → List SendSpan → ℕ → Step → Bool
is_accepted_step net orders spans i (Send node from dst vlan ethertype payload) =
    nat_lt node (length net.places) && is_sent_from (address_at (place_of net node) from) dst ethertype (length payload)
is_accepted_step net orders spans i (Supervise node about) = nat_lt node (length net.places) && speaks net orders spans i node (place_of net node) about
is_accepted_step net orders spans i (Age node) = nat_lt node (length net.places)
is_accepted_step net orders spans i (Cut link) = nat_lt link (length net.links)
is_accepted_step net orders spans i (Mend link) = nat_lt link (length net.links)
is_accepted_step net orders spans i _ = true

abbrev pub is_accepted : Run → List Order → List SendSpan → ℕ → Order → Bool
is_accepted net orders spans i (order.Step step) = is_accepted_step net orders spans i step
is_accepted net orders spans i order.Drain = true
