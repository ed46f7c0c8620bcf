-- The routes of a frame over channels that aren't avoided.
--     bare        nodes and links alone
--     heading     what of a frame its routes go by
--     IsFree      a channel that isn't avoided
--     LeadsOver   routes of a sender's frame lead to the end of a channel
--     IsLedTo     and to a node
use Rattle.std.specs.Prelude.{ℕ, ◌<◌, ◌≡◌, Bool, false, List, [], length, None}
use Rattle.hsr_frame.specs.Grammar.{Fields}
use Rattle.hsr_node.specs.declared.event.Probe.{Probe}
use Rattle.hsr_node.specs.declared.place.Place.{Place}
use Rattle.hsr_topology.specs.declared.end.End.{End}
use Rattle.hsr_run_laws.specs.Run.{Run}
use Rattle.hsr_network_laws.specs.Network.{Channel, stop_of}
use Rattle.hsr_network_laws.specs.Channels.{IsFirstChannel, IsNextChannel}

-- ---- what is looked at

-- nodes and links, as a run of which nothing else is told
abbrev pub bare : List Place → List (List End) → Run
bare places links = record { capacity = 0; places = places; links = links; records = []; rows = [] }

-- the first thing that a node does, as a send of it; routes go by the node alone
abbrev pub sender_at : ℕ → Probe
sender_at node = record { node = node; place = 0 }

-- a frame to this destination and of this type; routes go by nothing else of it
abbrev pub heading : List ℕ → ℕ → Fields
heading dst kind = record { dst = dst; src = []; vlan = None; kind = kind; rest = [] }

-- ---- routes

-- a channel that is there and isn't avoided
pub record IsFree (run : Run) (avoid : Channel → Bool) (channel : Channel) : Type 0 where
  pub below : channel.link < length run.links
  pub free : avoid channel ≡ false

-- From the sender, and from the end of a channel on, by the rules of networks, over free channels alone.
pub data LeadsOver (run : Run) (send : Probe) (frame : Fields) (avoid : Channel → Bool) : Channel → Type 0 where
  sent : (channel : Channel) → IsFree run avoid channel → IsFirstChannel run send frame channel → LeadsOver run send frame avoid channel
  on : (channel next : Channel) → LeadsOver run send frame avoid channel → IsFree run avoid next → IsNextChannel run send frame channel next → LeadsOver run send frame avoid next

-- to a node
pub record IsLedTo (run : Run) (send : Probe) (frame : Fields) (avoid : Channel → Bool) (k : ℕ) : Type 0 where
  pub channel : Channel
  pub leads : LeadsOver run send frame avoid channel
  pub here : (stop_of run channel).node ≡ k
