-- The search for the nodes that routes lead to.
--     IsGoneOn      channels are added to those that are found
--     AreStopping   the channels that end at a node
--     AreInto       of each node
--     AreLedTo      the nodes that routes lead to
use Rattle.std.specs.Prelude.{ℕ, ◌*◌, ◌<◌, ◌≡◌, ◌&&◌, ◌||◌, ◌↔◌, not, true, List, length, slice_index_or}
use Rattle.hsr_bitset.specs.Numbers.{has, has_bit}
use Rattle.hsr_frame.specs.Grammar.{Fields}
use Rattle.hsr_node.specs.declared.event.Probe.{Probe}
use Rattle.hsr_run_laws.specs.Run.{Run}
use Rattle.hsr_network_laws.specs.Network.{stop_of}
use Rattle.hsr_routes.specs.Numbered.{channel_at, is_in}
use Rattle.hsr_routes.specs.Routes.{IsLedTo, heading, sender_at}
use Rattle.hsr_routes.specs.declared.heading.Heading.{Heading}
use Rattle.hsr_faults.specs.declared.channels.Channels.{Channels}

-- channels that aren't avoided are found; those that weren't before wait
pub record IsGoneOn (channels avoid found waiting new_found new_waiting : List ℕ) : Type 0 where
  pub now_found : (n : ℕ) → has new_found n ≡ (has found n || (has channels n && not (has avoid n) && not (has found n)))
  pub now_waits : (n : ℕ) → has new_waiting n ≡ (has waiting n || (has channels n && not (has avoid n) && not (has found n)))

-- just the channels that end at a node
abbrev pub AreStopping : Run → ℕ → List ℕ → Type 0
AreStopping net node set = (n : ℕ) → (has set n ≡ true) ↔ ((n < 2 * length net.links) × ((stop_of net (channel_at n)).node ≡ node))

pub record AreInto (net : Run) (into : List Channels) : Type 0 where
  pub many : length into ≡ length net.places
  pub each : (k : ℕ) (d : Channels) → k < length net.places → AreStopping net k (slice_index_or into k d).words

-- just the nodes that routes lead to which take none of these channels
abbrev pub AreLedTo : Run → Probe → Fields → List ℕ → ℕ → Type 0
AreLedTo net send frame avoid nodes = (k : ℕ) → k < length net.places → (has_bit nodes k ≡ true) ↔ IsLedTo net send frame (is_in avoid) k

-- just the nodes that routes of a frame lead to which take no channel of either set
abbrev pub AreLedBy : Run → Heading → List ℕ → List ℕ → ℕ → Type 0
AreLedBy net frame down off nodes =
    (k : ℕ) → k < length net.places → (has_bit nodes k ≡ true) ↔ IsLedTo net (sender_at frame.sender) (heading frame.dst frame.kind) (λ channel. is_in down channel || is_in off channel) k
