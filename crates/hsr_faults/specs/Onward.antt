-- The channels that follow each channel, for one frame.
--     AreFollowing   a set has just the channels that a frame takes, from its sender or from the end of a channel
--     AreOnward      that of its sender, and of each channel
use Rattle.std.specs.Prelude.{ℕ, ◌*◌, ◌<◌, ◌≡◌, true, List, length, slice_index_or, Option, Some, None}
use Rattle.hsr_bitset.specs.Numbers.{has}
use Rattle.hsr_frame.specs.Grammar.{Fields}
use Rattle.hsr_node.specs.declared.event.Probe.{Probe}
use Rattle.hsr_run_laws.specs.Run.{Run}
use Rattle.hsr_network_laws.specs.Network.{Channel}
use Rattle.hsr_routes.specs.Numbered.{channel_at, number_of}
use Rattle.hsr_routes.specs.Spread.{Follows}
use Rattle.hsr_faults.specs.declared.channels.Channels.{Channels}

-- just the channels that follow
pub record AreFollowing (net : Run) (send : Probe) (frame : Fields) (from : Option Channel) (set : List ℕ) : Type 0 where
  pub only : (n : ℕ) → has set n ≡ true → (n < 2 * length net.links) × Follows net send frame from (channel_at n)
  pub all : (channel : Channel) → channel.link < length net.links → Follows net send frame from channel → has set (number_of channel) ≡ true

-- of the sender, and of each channel by its number
pub record AreOnward (net : Run) (send : Probe) (frame : Fields) (first : List ℕ) (next : List Channels) : Type 0 where
  pub sender : AreFollowing net send frame None first
  pub many : length next ≡ 2 * length net.links
  pub channel : (n : ℕ) (d : Channels) → n < 2 * length net.links → AreFollowing net send frame (Some (channel_at n)) (slice_index_or next n d).words
