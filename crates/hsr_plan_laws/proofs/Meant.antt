-- What is known of a network that means something.
use Rattle.std.proofs.Common.{◌≡◌, ℕ, ◌∙◌, map, List, [], ◌∷◌, Option, Some, None, Result, Ok, Err, refl, ap, sym}
use Rattle.hsr_topology.specs.Topology.{Topology, topology_fault}
use Rattle.hsr_topology.specs.declared.fault.TopologyFault.{TopologyFault}
use Rattle.hsr_frame.specs.Cases.{unless}
use Rattle.hsr_toml.specs.Fallible.{◌>>=◌}
use Rattle.hsr_plan_text.specs.Plan.{Network}
use Rattle.hsr_plan_text.specs.declared.fault.Key.TheVariants as key
use Rattle.hsr_plan_text.specs.declared.fault.Refusal.TheVariants.{TooMany}
use Rattle.hsr_plan_text.specs.declared.fault.What.{What}
use Rattle.hsr_plan_network.specs.Addresses.{is_own}
use Rattle.hsr_plan_network.specs.Checks.{each_once, each_passes, may_be_64, passes, ring_passes, unless_held}
use Rattle.hsr_plan_network.specs.Links.{links_of}
use Rattle.hsr_plan_network.specs.Nodes.{nodes_of}
use Rattle.hsr_plan_network.specs.Wiring.{Wired, topology_in, wired}
use Rattle.hsr_plan_laws.proofs.Names.{AreOnce, once}

-- where the last reading gives something, so did the first
step : {A B : Type 0} (r : Result A What) (f : A → Result B What) (y : B) → (r >>= f) ≡ Ok y → (x : A) × (r ≡ Ok x) × (f x ≡ Ok y)
step (Ok x) f y h = (x, refl, h)
step (Err e) f y h = absurd cc

abbrev value : {A : Type 0} → A → Result A What → A
value d (Ok x) = x
value d (Err e) = d

topology_is : (fault : Option TopologyFault) (t u : Topology) → topology_in (unless fault t) ≡ Ok u → (fault ≡ None) × (t ≡ u)
topology_is None t u h = (refl, ap (value t) h)
topology_is (Some fault) t u h = absurd cc

-- the topology of a network is of its nodes and links, and has no fault
pub record IsMeant (network : Network) (w : Wired) : Type 0 where
  pub passes : passes network ≡ Ok tt
  pub places : w.topology.places ≡ map (λ node. node.place) (nodes_of network)
  pub links : w.topology.links ≡ links_of network
  pub right : topology_fault w.topology.places w.topology.links ≡ None

pub meant : (network : Network) (w : Wired) → wired network ≡ Ok w → IsMeant network w
meant network w h =
    let places = map (λ node. node.place) (nodes_of network) in
    let links = links_of network in
    let first = step (passes network) _ w h in
    let owned = step (each_passes (is_own (nodes_of network)) network.addresses) _ w first.2 in
    let second = step (topology_in (unless (topology_fault places links) (record { places = places; links = links }))) _ w owned.2 in
    let is = topology_is (topology_fault places links) (record { places = places; links = links }) second.0 second.1 in
    let same : record { nodes = nodes_of network; topology = second.0 } ≡ w = ap (value w) second.2 in
    let t : second.0 ≡ w.topology = ap (λ (x : Wired). x.topology) same in
    record {
      passes = first.1;
      places = sym (ap (λ (x : Topology). x.places) (is.1 ∙ t));
      links = sym (ap (λ (x : Topology). x.links) (is.1 ∙ t));
      right = ap (λ (x : Topology). topology_fault x.places x.links) (sym (is.1 ∙ t)) ∙ is.0;
    }

-- the names of the only ring stand once
pub ring_once : (network : Network) (ring : List (List ℕ)) → network.rings ≡ ring ∷ [] → passes network ≡ Ok tt → AreOnce ring
unfolding passes ring_passes
ring_once network ring one h =
    let few = step (unless_held (may_be_64 network.rings) (TooMany key.Ring)) _ tt h in
    let all = step (each_passes (ring_passes network.rings) network.rings) _ tt few.2 in
    let these : each_passes (ring_passes (ring ∷ [])) (ring ∷ []) ≡ Ok tt = ap (λ rs. each_passes (ring_passes rs) rs) (sym one) ∙ all.1 in
    let this = step (ring_passes (ring ∷ []) ring) _ tt these in
    once ring (step (each_once ring) _ tt this.1).1
