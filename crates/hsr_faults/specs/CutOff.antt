-- What a fault cuts off.
--     IsCutOffBy     a frame is cut off from a node, where some channels are avoided
--     IsCutOff       a send is cut off from a node in some order of its copies
--     IsServedBy     routes lead to the node
--     AreCutOff      a set has just the nodes that a send is cut off from
--     AreTold        of each send its node and the nodes that it is cut off from
--     IsOutage       all that is told of a fault
use Rattle.std.specs.Prelude.{ℕ, ◌<◌, ◌≡◌, ◌==◌, ◌&&◌, ◌||◌, not, Bool, true, false, List, length, count_by, slice_index_or}
use Rattle.hsr_bitset.specs.Numbers.{has_bit}
use Rattle.hsr_deliveries.specs.Delivered.{is_due}
use Rattle.hsr_run_laws.specs.Run.{Run}
use Rattle.hsr_network_laws.specs.Network.{Channel}
use Rattle.hsr_routes.specs.Routes.{IsLedTo, heading, sender_at}
use Rattle.hsr_routes.specs.declared.heading.Heading.{Heading}
use Rattle.hsr_scenario.specs.declared.steps.Order.{Order}
use Rattle.hsr_plays.specs.Spans.{is_down}
use Rattle.hsr_plays.specs.declared.span.SendSpan.{SendSpan}
use Rattle.hsr_faults.specs.Fault.{is_link_off, is_node_off}
use Rattle.hsr_faults.specs.Groups.{heading_of}
use Rattle.hsr_faults.specs.declared.fault.Fault.{Fault}
use Rattle.hsr_faults.specs.declared.outage.Cut.{Cut}
use Rattle.hsr_faults.specs.declared.outage.Outage.{Outage}

-- ---- one send

-- The node is one that the frame is due at, and is on, as the sender is. No routes lead there that take no link that is off, and none of the channels
-- that are avoided.
pub record IsCutOffBy (net : Run) (frame : Heading) (avoid : Channel → Bool) (fault : Fault) (k : ℕ) : Type 0 where
  pub below : k < length net.places
  pub due : is_due net frame.sender frame.dst frame.kind k ≡ true
  pub sends : is_node_off fault frame.sender ≡ false
  pub takes : is_node_off fault k ≡ false
  pub cut : ¬ IsLedTo net (sender_at frame.sender) (heading frame.dst frame.kind) (λ channel. avoid channel || is_link_off net.links fault channel.link) k

-- what is avoided is what is down in the span of the send
abbrev pub IsCutOff : Run → List Order → Fault → SendSpan → ℕ → Type 0
IsCutOff net orders fault span k = IsCutOffBy net (heading_of span) (λ channel. is_down orders span channel.link) fault k

-- routes lead to the node over what is left, if it and the sender are on and the frame is due there
abbrev pub IsServedBy : Run → Heading → (Channel → Bool) → Fault → ℕ → Type 0
IsServedBy net frame avoid fault k =
    k < length net.places → is_due net frame.sender frame.dst frame.kind k ≡ true → is_node_off fault frame.sender ≡ false → is_node_off fault k ≡ false →
    IsLedTo net (sender_at frame.sender) (heading frame.dst frame.kind) (λ channel. avoid channel || is_link_off net.links fault channel.link) k

-- just the nodes that the frame is cut off from are in a set; the others are served
pub record IsDecidedBy (net : Run) (frame : Heading) (avoid : Channel → Bool) (fault : Fault) (nodes k : ℕ) : Type 0 where
  pub sound : has_bit nodes k ≡ true → IsCutOffBy net frame avoid fault k
  pub complete : IsCutOffBy net frame avoid fault k → has_bit nodes k ≡ true
  pub served : has_bit nodes k ≡ false → IsServedBy net frame avoid fault k

abbrev pub AreCutOffBy : Run → Heading → (Channel → Bool) → Fault → ℕ → Type 0
AreCutOffBy net frame avoid fault nodes = (k : ℕ) → k < 64 → IsDecidedBy net frame avoid fault nodes k

-- that of a send
abbrev pub AreCutOff : Run → List Order → Fault → SendSpan → ℕ → Type 0
AreCutOff net orders fault span nodes = AreCutOffBy net (heading_of span) (λ channel. is_down orders span channel.link) fault nodes

-- ---- all sends

-- the node of a send, and the nodes that it is cut off from, as bits of a number
pub record Told : Type 0 where
  pub sender : ℕ
  pub nodes : ℕ

pub record AreTold (net : Run) (orders : List Order) (fault : Fault) (spans : List SendSpan) (told : List Told) : Type 0 where
  pub many : length told ≡ length spans
  pub sender : (i : ℕ) (t : Told) (span : SendSpan) → i < length spans → (slice_index_or told i t).sender ≡ (slice_index_or spans i span).asked.node
  pub nodes : (i : ℕ) (t : Told) (span : SendSpan) → i < length spans → AreCutOff net orders fault (slice_index_or spans i span) (slice_index_or told i t).nodes

-- a send of a node is cut off from just these nodes
abbrev pub is_of : ℕ → ℕ → Told → Bool
is_of sender nodes t = (t.sender == sender) && (t.nodes == nodes)

-- a send is cut off from some node
abbrev pub is_cut : Told → Bool
is_cut t = not (t.nodes == 0)

-- how many sends of a node are cut off from just these nodes, of which there are some, as there are of such sends
pub record IsCut (told : List Told) (cut : Cut) : Type 0 where
  pub some : cut.nodes.bits ≡ 0 → ⊥
  pub sends : cut.sends ≡ count_by (is_of cut.sender cut.nodes.bits) told
  pub sent : 0 < cut.sends

-- a send is listed with its node and the nodes that it is cut off from
pub record IsListed (cuts : List Cut) (node missed : ℕ) : Type 0 where
  pub at : ℕ
  pub below : at < length cuts
  pub sender : (d : Cut) → (slice_index_or cuts at d).sender ≡ node
  pub nodes : (d : Cut) → (slice_index_or cuts at d).nodes.bits ≡ missed

-- a send that comes before another is of a line
pub record IsBefore (told : List Told) (cut : Cut) (i : ℕ) : Type 0 where
  pub at : ℕ
  pub below : at < i
  pub is : (d : Told) → is_of cut.sender cut.nodes.bits (slice_index_or told at d) ≡ true

-- Each send that is cut off is in one line of the list, which has all sends of its node that are cut off from the same nodes; and how many are cut off in all.
-- The lines are in the order of their first sends: before each send of a line comes one of each line above.
pub record AreCuts (told : List Told) (cuts : List Cut) (total : ℕ) : Type 0 where
  pub each : (r : ℕ) (d : Cut) → r < length cuts → IsCut told (slice_index_or cuts r d)
  pub all : (i : ℕ) (t : Told) → i < length told → is_cut (slice_index_or told i t) ≡ true → IsListed cuts (slice_index_or told i t).sender (slice_index_or told i t).nodes
  pub once : (q r : ℕ) (c d : Cut) → q < length cuts → r < length cuts → (slice_index_or cuts q c).sender ≡ (slice_index_or cuts r d).sender →
      (slice_index_or cuts q c).nodes ≡ (slice_index_or cuts r d).nodes → q ≡ r
  pub order : (q r : ℕ) (c d : Cut) (i : ℕ) (t : Told) → q < r → r < length cuts → i < length told →
      is_of (slice_index_or cuts r d).sender (slice_index_or cuts r d).nodes.bits (slice_index_or told i t) ≡ true → IsBefore told (slice_index_or cuts q c) i
  pub sends : total ≡ count_by is_cut told

pub record IsOutage (net : Run) (orders : List Order) (spans : List SendSpan) (fault : Fault) (outage : Outage) : Type 0 where
  pub same : outage.fault ≡ fault
  pub told : List Told
  pub are : AreTold net orders fault spans told
  pub cuts : AreCuts told outage.cuts.items outage.sends
