-- A search for the nodes that routes lead to.
--     IsFound         a channel of a set leads to a node
--     IsSearched      a set of channels that is found
--     SearchDecides   it leads to just the nodes that routes lead to
use Rattle.std.specs.Prelude.{ℕ, ◌≡◌, Bool, true}
use Rattle.hsr_frame.specs.Grammar.{Fields}
use Rattle.hsr_node.specs.declared.event.Probe.{Probe}
use Rattle.hsr_run_laws.specs.Run.{Run}
use Rattle.hsr_network_laws.specs.Network.{Channel, stop_of}
use Rattle.hsr_network_laws.specs.Channels.{IsFirstChannel, IsNextChannel}
use Rattle.hsr_routes.specs.Routes.{IsFree, IsLedTo, LeadsOver}

-- a channel that is found ends at a node
pub record IsFound (run : Run) (found : Channel → Bool) (k : ℕ) : Type 0 where
  pub channel : Channel
  pub is : found channel ≡ true
  pub here : (stop_of run channel).node ≡ k

-- Routes lead to the end of each channel that is found. All free channels are found that start at the sender, or that go on from one
-- that is found.
pub record IsSearched (run : Run) (send : Probe) (frame : Fields) (avoid : Channel → Bool) (found : Channel → Bool) : Type 0 where
  pub comes : (channel : Channel) → found channel ≡ true → LeadsOver run send frame avoid channel
  pub first : (channel : Channel) → IsFree run avoid channel → IsFirstChannel run send frame channel → found channel ≡ true
  pub next : (channel next : Channel) → found channel ≡ true → IsFree run avoid next → IsNextChannel run send frame channel next → found next ≡ true

-- what is found is led to, and what is led to is found
pub record IsDecided (run : Run) (send : Probe) (frame : Fields) (avoid : Channel → Bool) (found : Channel → Bool) (k : ℕ) : Type 0 where
  pub sound : IsFound run found k → IsLedTo run send frame avoid k
  pub complete : IsLedTo run send frame avoid k → IsFound run found k

abbrev pub SearchDecides : Type 0
SearchDecides = (run : Run) (send : Probe) (frame : Fields) (avoid : Channel → Bool) (found : Channel → Bool) → IsSearched run send frame avoid found → (k : ℕ) → IsDecided run send frame avoid found k
