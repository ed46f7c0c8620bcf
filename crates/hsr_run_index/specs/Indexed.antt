-- What an index has of links' ends, and of the numbers that nodes gave to sends.
use Rattle.std.specs.Prelude.{ℕ, ◌==◌, ◌&&◌, nat_eq, if◌then◌else◌, List, Option, Some, None}
use Rattle.indexmap.specs.IndexMap.{IndexMap, get}
use Rattle.hsr_node.specs.declared.entry.Entry.{Entry}
use Rattle.hsr_node.specs.declared.event.Probe.{Probe}
use Rattle.hsr_run_laws.specs.Run.{is_of}
use Rattle.hsr_run_index.specs.Origin.{given_in}
use Rattle.hsr_topology.specs.declared.end.End.{End}

-- the end that an index has for one
abbrev pub peer_of : {S : Type 0} → IndexMap (ℕ × ℕ) End S → End → Option End
peer_of peers end = get (λ x y. nat_eq x.0 y.0 && nat_eq x.1 y.1) peers (end.node, end.port)

-- the number that an index has of a node for a send
abbrev pub number_of : {S : Type 0} → IndexMap (ℕ × ℕ × ℕ) ℕ S → ℕ → Probe → Option ℕ
number_of given node send = get (λ x y. (nat_eq x.0 y.0 && nat_eq x.1 y.1) && nat_eq x.2 y.2) given (node, send.node, send.place)

-- the number that was given to a send, where this number was given to that one
abbrev pub gives_to : Probe → Option (Probe × ℕ) → Option ℕ
gives_to send None = None
gives_to send (Some one) = if is_of send (Some one.0) then Some one.1 else None

-- the first number that the entries of a node gave to a send, if that is the node
abbrev pub given_where : ℕ → ℕ → Probe → List Entry → Option ℕ
given_where node k send entries = if node == k then given_in send entries else None
