-- Nodes and links without a fault are wired as those who use them expect.
use Rattle.std.proofs.Common.{◌≡◌, ℕ, ◌||◌, ◌≤◌, nat_lt, false, List, [], length, None, arith}
use Rattle.std.proofs.lemmas.Bool.{or_parts}
use Rattle.std.proofs.lemmas.Bool.Decides.{nat_tests}
use Rattle.hsr_node.specs.Place.{HasOwnAddress}
use Rattle.hsr_node.specs.declared.place.Place.{Place}
use Rattle.hsr_topology.specs.Nodes.{has_bad_node, is_bad_node}
use Rattle.hsr_topology.specs.Topology.{topology_fault}
use Rattle.hsr_topology.specs.Wired.{HasAddresses, IsWired}
use Rattle.hsr_topology.specs.declared.end.End.{End}
use Rattle.hsr_topology.specs.declared.fault.TopologyFault.TheVariants.{TooMany, BadNode}
use Rattle.hsr_topology.proofs.Addresses.{All-map, none_pass, own_address, station_addresses}
use Rattle.hsr_topology.proofs.Joins.{distinct, joins, no_case}

at_most : (most n : ℕ) → nat_lt most n ≡ false → n ≤ most
at_most most n h = grind (arith, nat_tests)

pub wired : (places : List Place) (links : List (List End)) → topology_fault places links ≡ None → IsWired places links
unfolding topology_fault
wired places links h =
    let few = no_case (nat_lt 64 (length places) || nat_lt 128 (length links)) TooMany _ h in
    let good = no_case (has_bad_node places) BadNode _ few.1 in
    let counts = or_parts (nat_lt 64 (length places)) (nat_lt 128 (length links)) few.0 in
    let each = none_pass is_bad_node places good.0 in
    record {
      few_places = at_most 64 (length places) counts.0;
      few_links = at_most 128 (length links) counts.1;
      own = All-map (λ place. is_bad_node place ≡ false) HasOwnAddress places own_address each;
      stations = All-map (λ place. is_bad_node place ≡ false) HasAddresses places station_addresses each;
      joined = joins places [] links good.1;
      distinct = (distinct places [] links good.1).1;
    }
