-- What a certificate says of a run of a network.
use Rattle.std.specs.Prelude.{ℕ, ◌<◌, ◌≡◌, true, List, length}
use Rattle.std.specs.List.{AllByRecursion}
use Rattle.hsr_node.specs.declared.event.Probe.{Probe}
use Rattle.hsr_node.specs.declared.sending.Sending.{Sending}
use Rattle.hsr_deliveries.specs.Delivered.{Delivery, IsComplete, deliveries, is_due, times}
use Rattle.hsr_run_laws.specs.Closed.{IsSend}
use Rattle.hsr_run_laws.specs.Run.{Run}
use Rattle.hsr_network_laws.specs.Delivered.{IsOnceInNetwork}
use Rattle.hsr_audit.specs.Doubts.{IsNetworkPremised}

-- each node that a send is due at took it up just once
abbrev pub TakenUpOnce : Run → Type 0
TakenUpOnce run = (send : Probe) (sending : Sending) (k : ℕ) → IsSend run send sending → k < length run.places →
    is_due run send.node sending.frame.dst sending.frame.kind k ≡ true → times run send k ≡ 1

-- The run is that of a network, sends something, and nothing was forgotten, mistaken or numbered late. Each of its sends comes to
-- each node that it is due at, is known each time by the RedBox of a Station that it is to, and is covered. So each node that it is
-- due at took it up just once, nothing else went up anywhere, and each send, all of which are listed, is complete.
pub record IsNetworkCertified (run : Run) (sends : List Delivery) : Type 0 where
  pub premised : IsNetworkPremised run
  pub listed : sends ≡ deliveries run
  pub due : TakenUpOnce run
  pub once : IsOnceInNetwork run
  pub complete : AllByRecursion IsComplete sends
