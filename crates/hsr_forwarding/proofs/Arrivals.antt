-- What an arrival leaves within its bounds.
use Rattle.std.proofs.Common.{ℕ, ◌≤◌, List, Result}
use Rattle.hsr_frame.specs.declared.fault.FrameFault.{FrameFault}
use Rattle.hsr_frame.specs.declared.node.RingPort.{RingPort}
use Rattle.hsr_tag.specs.Seen.{is_told, payload_in}
use Rattle.hsr_tag.specs.declared.seen.Seen.{Seen}
use Rattle.hsr_tables.specs.Nodes.{Nodes}
use Rattle.hsr_tables.proofs.NodeLaws.{listened-last}
use Rattle.hsr_forwarding.specs.Arrival.{heard_of}

-- a hearing sets the moment of the nodes that are heard
pub heard_of-last : (own : List ℕ) (nodes : Nodes) (x : RingPort) (seen : Result Seen FrameFault) (now : ℕ) → nodes.last ≤ now → (heard_of own nodes x seen now).1.last ≤ now
heard_of-last own nodes x seen now h = listened-last (is_told own seen) (payload_in seen) nodes x now h
