-- What one ring of DANHs in a plan means.
use Rattle.std.specs.Prelude.{ℕ, ◌≡◌, ◌<◌, ◌⊎◌, List, [], ◌∷◌, length, map, slice_index_or, Ok}
use Rattle.std.specs.List.{All}
use Rattle.hsr_frame.specs.declared.node.Mode.TheVariants.{H, U}
use Rattle.hsr_run_laws.specs.Premises.{IsRing}
use Rattle.hsr_run_laws.specs.Run.{Run}
use Rattle.hsr_plan_text.specs.Plan.{Network}
use Rattle.hsr_plan_text.specs.declared.plan.InMode.{InMode}
use Rattle.hsr_plan_network.specs.Nodes.{node_mac}
use Rattle.hsr_plan_network.specs.Wiring.{Wired, wired}

-- the addresses of nodes, round a ring
abbrev pub macs_of : Network → List (List ℕ) → List (List ℕ)
macs_of network ring = map (node_mac network) ring

abbrev pub mac_at : Network → List (List ℕ) → ℕ → List ℕ
mac_at network ring k = node_mac network (slice_index_or ring k [])

-- no two nodes of a ring have one address
abbrev pub HaveOwn : Network → List (List ℕ) → Type 0
HaveOwn network ring = (i j : ℕ) → i < length ring → j < length ring → mac_at network ring i ≡ mac_at network ring j → i ≡ j

abbrev pub Forwards : InMode → Type 0
Forwards m = (m.mode ≡ H) ⊎ (m.mode ≡ U)

-- a network is one ring of DANHs in modes H and U, with addresses of their own
pub record IsOneRing (network : Network) (ring : List (List ℕ)) : Type 0 where
  pub some : 0 < length ring
  pub rings : network.rings ≡ ring ∷ []
  pub danhs : network.redboxes ≡ []
  pub modes : All Forwards network.modes
  pub own : HaveOwn network ring

-- a run is one of the topology that a network means
pub record IsRunOf (run : Run) (w : Wired) : Type 0 where
  pub places : run.places ≡ w.topology.places
  pub links : run.links ≡ w.topology.links

abbrev pub OneRingIsARing : Type 0
OneRingIsARing = (network : Network) (ring : List (List ℕ)) (w : Wired) (run : Run) →
    IsOneRing network ring → wired network ≡ Ok w → IsRunOf run w → IsRing run (macs_of network ring)

-- where a plan gives no addresses
abbrev pub UsualAddressesDiffer : Type 0
UsualAddressesDiffer = (network : Network) (ring : List (List ℕ)) (w : Wired) →
    network.rings ≡ ring ∷ [] → network.redboxes ≡ [] → network.addresses ≡ [] → wired network ≡ Ok w → HaveOwn network ring
