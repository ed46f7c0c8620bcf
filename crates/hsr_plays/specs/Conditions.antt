-- The conditions under which a setup is certified in any order, in the order of their doubts.
--     IsFine        a step moves no copy, and injects nothing
--     IsEnded       the span of a send ends
--     IsAccepted    a step is accepted in each play
--     IsNotBack     a step doesn't set the clock back
--     IsBrief       the clock rises by less than 400 ms in the span of a send
--     IsUncrowded   it meets no more spans than a table has entries
--     IsUnwrapped   no number of its node comes again
--     IsCovered     the send is one that networks promise to bring
--     HasRoom       no more sends are open than a direction of a link has room
--     IsServed      routes that avoid what is down lead to each node that the send is due at
--     IsClear       all of them
use Rattle.std.specs.Prelude.{ℕ, ◌+◌, ◌<◌, ◌≤◌, ◌≡◌, ◌==◌, ◌&&◌, ◌||◌, not, nat_le, Bool, true, false, if◌then◌else◌, List, [], length, count_by, slice_get, is_some, Option, Some, None}
use Rattle.hsr_frame.specs.Egress.{is_supervision}
use Rattle.hsr_frame.specs.Send.{send_refusal}
use Rattle.hsr_frame.specs.declared.node.About.{About}
use Rattle.hsr_frame.specs.declared.node.About.TheVariants.{Own, Proxied}
use Rattle.hsr_duptable.specs.Notes.{entry_forget}
use Rattle.hsr_tables.specs.Known.{node_forget}
use Rattle.hsr_forwarding.specs.Numbers.{number_range}
use Rattle.hsr_node.specs.Copies.{address_at}
use Rattle.hsr_node.specs.declared.place.Place.{Place}
use Rattle.hsr_node.specs.declared.place.Place.TheVariants.{Danh, RedBox, QuadBox, Station}
use Rattle.hsr_topology.specs.declared.end.End.{End}
use Rattle.hsr_run_laws.specs.Premises.{is_redbox}
use Rattle.hsr_run_laws.specs.Run.{Run, peer_in, place_of}
use Rattle.hsr_network_laws.specs.Delivered.{is_covered}
use Rattle.hsr_network_laws.specs.Lives.{is_joined_with_station}
use Rattle.hsr_network_laws.specs.Network.{Channel, IsNetwork, is_station, start_of, stop_of}
use Rattle.hsr_deliveries.specs.Delivered.{is_due}
use Rattle.hsr_routes.specs.Routes.{IsLedTo, heading, sender_at}
use Rattle.hsr_scenario.specs.declared.steps.Order.{Order}
use Rattle.hsr_scenario.specs.declared.steps.Order.TheVariants as order
use Rattle.hsr_world_steps.specs.declared.step.Step.{Step}
use Rattle.hsr_world_steps.specs.declared.step.Step.TheVariants.{Clock, Send, Supervise, Age, Put, Take, Judge, Cut, Mend, Inject}
use Rattle.hsr_plays.specs.declared.span.SendSpan.{SendSpan}
use Rattle.hsr_plays.specs.Setup.{Setup, net_of}
use Rattle.hsr_plays.specs.Spans.{RisesLess, is_down, is_open_at, meets, moment_at, spans}

-- ---- fine

-- a step that is for a world alone
abbrev pub is_fine : Order → Bool
is_fine (order.Step (Put node port)) = true
is_fine (order.Step (Take link dir)) = true
is_fine (order.Step (Judge node port)) = true
is_fine (order.Step (Inject link dir octets)) = true
is_fine _ = false

abbrev pub IsFine : Setup → ℕ → Order → Type 0
IsFine s i order = is_fine order ≡ false

-- ---- ended

abbrev pub IsEnded : Setup → SendSpan → Type 0
IsEnded s span = span.end < length s.orders

-- ---- accepted

-- a send from an address that the node has, to another, with no tag's type and a payload that fits
abbrev pub is_sent_from : Option (List ℕ) → List ℕ → ℕ → ℕ → Bool
is_sent_from None dst kind len = false
is_sent_from (Some src) dst kind len = not (is_some (send_refusal src 0 dst kind len))

-- A RedBox surely knows an address at its interlink before the step at an index. It heard the address in the span of a send: the send came from
-- there, its span has ended, the link wasn't down in it, and since any time of it the clock rose by less than 60 seconds.
pub record IsHeard (s : Setup) (i node : ℕ) (mac : List ℕ) : Type 0 where
  pub at : ℕ
  pub span : SendSpan
  pub listed : slice_get (spans s) at ≡ Some span
  pub channel : Channel
  pub below : channel.link < length s.links
  pub comes : stop_of (net_of s) channel ≡ record { node = node; port = 2 }
  pub sender : (start_of (net_of s) channel).node ≡ span.asked.node
  pub address : address_at (place_of (net_of s) span.asked.node) span.asked.from ≡ Some mac
  pub ended : span.end ≤ i
  pub up : is_down s.orders span channel.link ≡ false
  pub lately : RisesLess s.orders node_forget span.index span.end i

-- a DANH and a RedBox speak for themselves, and a RedBox for what it knows
abbrev pub Speaks : Setup → ℕ → ℕ → Place → About → Type 0
Speaks s i node (Danh mac mode) Own = Unit {0}
Speaks s i node (RedBox mac mode) Own = Unit {0}
Speaks s i node (RedBox mac mode) (Proxied station) = IsHeard s i node station
Speaks s i node _ about = ⊥

abbrev pub IsAcceptedStep : Setup → ℕ → Step → Type 0
IsAcceptedStep s i (Send node from dst vlan ethertype payload) =
    (node < length s.places) × (is_sent_from (address_at (place_of (net_of s) node) from) dst ethertype (length payload) ≡ true)
IsAcceptedStep s i (Supervise node about) = (node < length s.places) × Speaks s i node (place_of (net_of s) node) about
IsAcceptedStep s i (Age node) = node < length s.places
IsAcceptedStep s i (Cut link) = link < length s.links
IsAcceptedStep s i (Mend link) = link < length s.links
IsAcceptedStep s i _ = Unit {0}

abbrev pub IsAccepted : Setup → ℕ → Order → Type 0
IsAccepted s i (order.Step step) = IsAcceptedStep s i step
IsAccepted s i order.Drain = Unit {0}

-- ---- not back

abbrev pub IsNotBack : Setup → ℕ → Order → Type 0
IsNotBack s i order = moment_at s.orders i ≤ moment_at s.orders (i + 1)

-- ---- brief

abbrev pub IsBrief : Setup → SendSpan → Type 0
IsBrief s span = RisesLess s.orders entry_forget span.index span.end span.end

-- ---- uncrowded

-- the span itself is one of them
abbrev pub IsUncrowded : Setup → SendSpan → Type 0
IsUncrowded s span = count_by (meets span) (spans s) ≤ s.capacity

-- ---- unwrapped

-- the node that a port leads to, if it is a RedBox
abbrev pub box_at : Run → Option End → Option ℕ
box_at net None = None
box_at net (Some end) = if is_redbox (place_of net end.node) then Some end.node else None

-- the node that numbers what a node sends: of a Station the RedBox that it is joined with, if there is one
abbrev pub numbers_of : Run → ℕ → Option ℕ
numbers_of net node = if is_station (place_of net node) then box_at net (peer_in (record { node = node; port = 0 }) net.links) else Some node

abbrev pub is_same_counter : Option ℕ → Option ℕ → Bool
is_same_counter (Some a) (Some b) = a == b
is_same_counter _ _ = false

-- the span of a send that the same node numbers, and no later
abbrev pub is_numbered_by_then : Run → SendSpan → SendSpan → Bool
is_numbered_by_then net span other = is_same_counter (numbers_of net span.asked.node) (numbers_of net other.asked.node) && nat_le other.index span.index

abbrev pub IsUnwrapped : Setup → SendSpan → Type 0
IsUnwrapped s span = count_by (is_numbered_by_then (net_of s) span) (spans s) ≤ number_range

-- ---- covered

-- to a group, or to an address that no Station has; and no supervision frame of a Station that is joined with a Station
abbrev pub is_covered_send : Run → SendSpan → Bool
is_covered_send net span =
    is_covered net.places (heading span.asked.dst span.asked.kind)
    && not (is_supervision span.asked.dst span.asked.kind && is_joined_with_station net.places net.links span.asked.node)

abbrev pub IsCovered : Setup → SendSpan → Type 0
IsCovered s span = is_covered_send (net_of s) span ≡ true

-- ---- room

-- behind the step of the send; at other times no more are open than at the one behind the latest send before
abbrev pub HasRoom : Setup → SendSpan → Type 0
HasRoom s span = count_by (is_open_at (span.index + 1)) (spans s) ≤ s.room

-- ---- served

abbrev pub is_avoided : Setup → SendSpan → Channel → Bool
is_avoided s span channel = is_down s.orders span channel.link

-- routes lead to a node
abbrev pub Leads : Setup → SendSpan → ℕ → Type 0
Leads s span k = IsLedTo (net_of s) (sender_at span.asked.node) (heading span.asked.dst span.asked.kind) (is_avoided s span) k

abbrev pub LeadsDue : Setup → SendSpan → ℕ → Type 0
LeadsDue s span k = is_due (net_of s) span.asked.node span.asked.dst span.asked.kind k ≡ true → Leads s span k

abbrev pub IsServed : Setup → SendSpan → Type 0
IsServed s span = (k : ℕ) → k < length s.places → LeadsDue s span k

-- ---- all

-- it holds of each step
abbrev pub OfSteps : (Setup → ℕ → Order → Type 0) → Setup → Type 0
OfSteps P s = (i : ℕ) (order : Order) → slice_get s.orders i ≡ Some order → P s i order

-- it holds of the span of each send
abbrev pub OfSends : (Setup → SendSpan → Type 0) → Setup → Type 0
OfSends P s = (i : ℕ) (span : SendSpan) → slice_get (spans s) i ≡ Some span → P s span

-- the conditions, each with its doubt
pub record IsClear (s : Setup) : Type 0 where
  -- fine
  pub fine : OfSteps IsFine s
  -- open
  pub ended : OfSends IsEnded s
  -- mode, same-address, side
  pub network : IsNetwork (net_of s)
  -- refused
  pub accepted : OfSteps IsAccepted s
  -- back
  pub not_back : OfSteps IsNotBack s
  -- late
  pub brief : OfSends IsBrief s
  -- crowded
  pub uncrowded : OfSends IsUncrowded s
  -- wrapped
  pub unwrapped : OfSends IsUnwrapped s
  -- uncovered
  pub covered : OfSends IsCovered s
  -- queue
  pub room : OfSends HasRoom s
  -- cut-off
  pub served : OfSends IsServed s
