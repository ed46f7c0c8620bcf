-- What was found of sends of one node that lost nothing, by the destination and the type of their frames.
--     found_of       the nodes that were found for a destination and type
--     ReachAlike     each send of a node to that destination, of that type, reaches just these nodes, if it lost nothing
--     AreFound       so it is of all that was found
use Rattle.std.specs.Prelude.{ℕ, ◌≡◌, nat_eq, ◌&&◌, List, [], Option, IfSome}
use Rattle.indexmap.specs.IndexMap.{IndexMap, get}
use Rattle.hsr_frame.specs.Address.{is_same_address}
use Rattle.hsr_frame.specs.Grammar.{Fields}
use Rattle.hsr_node.specs.declared.event.Probe.{Probe}
use Rattle.hsr_deliveries.specs.Delivered.{lost}
use Rattle.hsr_run_laws.specs.Run.{Run}
use Rattle.hsr_audit.specs.Reaching.{AreReached}

abbrev pub found_of : {S : Type 0} → IndexMap (List ℕ × ℕ) (List ℕ) S → List ℕ → ℕ → Option (List ℕ)
found_of found dst ethertype = get (λ x y. is_same_address x.0 y.0 && nat_eq x.1 y.1) found (dst, ethertype)

abbrev pub ReachAlike : Run → ℕ → List ℕ → ℕ → List ℕ → Type 0
ReachAlike run node dst ethertype nodes = (send : Probe) (frame : Fields) → send.node ≡ node → frame.dst ≡ dst → frame.kind ≡ ethertype → lost run send ≡ [] → AreReached run send frame nodes

abbrev pub AreFound : {S : Type 0} → Run → ℕ → IndexMap (List ℕ × ℕ) (List ℕ) S → Type 0
AreFound run node found = (dst : List ℕ) (ethertype : ℕ) → IfSome (found_of found dst ethertype) (ReachAlike run node dst ethertype)
