-- Whom a send comes to, and whether a RedBox knew the Station that it is to.
--     is_to_station   a frame to one address comes to a Station by the node that the Station is joined with
--     Comes           a send comes to a node
--     IsBoxOf         a RedBox is joined with a Station that a send to one address is due at
--     IsKnown         each such RedBox knew the destination each time
use Rattle.std.specs.Prelude.{ℕ, ◌<◌, ◌≡◌, ◌⊎◌, ◌&&◌, not, Bool, true, false, length}
use Rattle.hsr_frame.specs.Address.{is_group}
use Rattle.hsr_frame.specs.Grammar.{Fields}
use Rattle.hsr_node.specs.declared.event.Probe.{Probe}
use Rattle.hsr_node.specs.declared.place.Place.{Place}
use Rattle.hsr_node.specs.declared.sending.Sending.{Sending}
use Rattle.hsr_deliveries.specs.Delivered.{is_due}
use Rattle.hsr_run_laws.specs.Premises.{is_redbox}
use Rattle.hsr_run_laws.specs.Run.{Run, place_of}
use Rattle.hsr_network_laws.specs.Network.{Channel, is_station, start_of, stop_of}
use Rattle.hsr_network_laws.specs.Stations.{FindsEach}
use Rattle.hsr_network_laws.specs.Channels.{Carries, IsReached}

-- ---- to a node

-- a frame is to one address, and a node is a Station
abbrev pub is_to_station : Fields → Place → Bool
is_to_station frame place = not (is_group frame.dst) && is_station place

-- A channel ends at a node, and lost no copy of a send. It starts at the sender, or at a RedBox that the send reaches.
pub record IsLastChannel (run : Run) (send : Probe) (frame : Fields) (k : ℕ) (channel : Channel) : Type 0 where
  pub carries : Carries run send channel
  pub here : (stop_of run channel).node ≡ k
  pub comes : ((start_of run channel).node ≡ send.node) ⊎ ((is_redbox (place_of run (start_of run channel).node) ≡ true) × IsReached run send frame (start_of run channel).node)

-- A send comes to each node that it reaches; but a frame to one address comes to a Station by the node that the Station is joined
-- with, whatever that one knew.
pub record Comes (run : Run) (send : Probe) (frame : Fields) (k : ℕ) : Type 0 where
  pub ring : is_to_station frame (place_of run k) ≡ false → IsReached run send frame k
  pub below : is_to_station frame (place_of run k) ≡ true → (channel : Channel) × IsLastChannel run send frame k channel

-- ---- known

-- a RedBox is joined with a Station that a frame to one address is due at
pub record IsBoxOf (run : Run) (sender : ℕ) (frame : Fields) (k : ℕ) : Type 0 where
  pub node : k < length run.places
  pub box : is_redbox (place_of run k) ≡ true
  pub channel : Channel
  pub below : channel.link < length run.links
  pub starts : (start_of run channel).node ≡ k
  pub station : is_to_station frame (place_of run (stop_of run channel).node) ≡ true
  pub due : is_due run sender frame.dst frame.kind (stop_of run channel).node ≡ true

-- such a RedBox knew the destination each time that it handled the send
abbrev pub IsKnown : Run → Probe → Sending → Type 0
IsKnown run send sending = (k : ℕ) → IsBoxOf run send.node sending.frame k → FindsEach run send sending.frame.dst k
