-- One ring of DANHs in a plan is a ring.
use Rattle.std.proofs.Common.{◌≡◌, ℕ, ◌+◌, ◌%◌, ◌==◌, ◌<◌, ◌≤◌, ◌⊎◌, ◌∙◌, ◌++◌, Bool, true, false, cond, length, get_or, map, slice_get, List, [], ◌∷◌, Option, Some, None, Ok, refl, ap, sym, subst, inl, inr, ⊎_elim, arith, append-nil, mod-lt, mod-eq_of_lt}
use Rattle.std.specs.List.{All, filter}
use Rattle.std.proofs.lemmas.Bool.{cases_eq, cases_lt}
use Rattle.std.proofs.lemmas.List.{get_or-map, length-map}
use Rattle.std.proofs.lemmas.List.Elements.{All-get_or}
use Rattle.std.proofs.lemmas.Option.{slice_get-get_or, slice_get_past}
use Rattle.hsr_frame.specs.declared.node.Mode.TheVariants.{H, U}
use Rattle.hsr_node.specs.Place.{HasOwnAddress}
use Rattle.hsr_node.specs.declared.place.Place.TheVariants.{Danh, RedBox, QuadBox}
use Rattle.hsr_topology.specs.Topology.{topology_fault}
use Rattle.hsr_topology.specs.Wired.{IsJoin, IsWired}
use Rattle.hsr_topology.specs.declared.end.End.{End}
use Rattle.hsr_topology.proofs.Faults.{no_group}
use Rattle.hsr_topology.proofs.Wired.{wired as wired_rightly}
use Rattle.hsr_run_laws.specs.Premises.{IsRing}
use Rattle.hsr_run_laws.specs.Run.{Run, no_end}
use Rattle.hsr_plan_text.specs.Plan.{Network}
use Rattle.hsr_plan_text.specs.declared.plan.InMode.{InMode}
use Rattle.hsr_plan_network.specs.Checks.{in_one}
use Rattle.hsr_plan_network.specs.Links.{end_at, interlink, links_of, next, next_if, ring_link, ring_links, side}
use Rattle.hsr_plan_network.specs.Names.{is_in, met, met_first}
use Rattle.hsr_plan_network.specs.Nodes.{Node, boxes_of, given_at, is_box, mac_or, mode_for, mode_if, names_of, node_mac, nodes_of, place_of, ring_if, ring_node, station_node, usual_mac}
use Rattle.hsr_plan_network.specs.Wiring.{Wired, wired}
use Rattle.hsr_plan_laws.specs.Rings.{Forwards, HaveOwn, IsOneRing, IsRunOf, macs_of}
use Rattle.hsr_plan_laws.proofs.Meant.{IsMeant, meant, ring_once}
use Rattle.hsr_plan_laws.proofs.Names.{AreOnce, is_there, joined_new, number_is}

-- ---- links

met_in_one : (ring : List (List ℕ)) (m : List ℕ) → met_first (ring ∷ []) m ≡ 0
met_in_one ring m = by (is_in m ring) refl
  where
    by : (b : Bool) → is_in m ring ≡ b → met_first (ring ∷ []) m ≡ 0
    by true e = rw e refl
    by false e = rw e refl

side_is : (ring : List (List ℕ)) (m : List ℕ) → side (ring ∷ []) 0 m ≡ 0
side_is ring m = ap (λ r. cond (r == 0) 0 2) (met_in_one ring m)

next_is : (ring : List (List ℕ)) (k : ℕ) → AreOnce ring → k < length ring → next ring (get_or ring k []) ≡ get_or ring ((k + 1) % length ring) []
next_is ring k o low =
    let some : 0 < length ring = omega (arith, low) in
    ap (λ i. next_if ring (slice_get ring ((i + 1) % length ring))) (number_is ring k o low)
    ∙ ap (next_if ring) (slice_get-get_or ring ((k + 1) % length ring) [] (mod-lt (k + 1) some))

abbrev pub from_b : ℕ → ℕ → List End
from_b k next = record { node = k; port = 1 } ∷ record { node = next; port = 0 } ∷ []

link_is : (ring : List (List ℕ)) (k : ℕ) → AreOnce ring → k < length ring → ring_link (ring ∷ []) ring 0 ring (get_or ring k []) ≡ from_b k ((k + 1) % length ring)
unfolding ring_link
link_is ring k o low =
    let some : 0 < length ring = omega (arith, low) in
    let n = get_or ring k [] in
    let after = get_or ring ((k + 1) % length ring) [] in
    ap (λ (m : List ℕ). end_at ring (side (ring ∷ []) 0 n + 1) n ∷ end_at ring (side (ring ∷ []) 0 m) m ∷ []) (next_is ring k o low)
    ∙ ap (λ (s : ℕ). end_at ring (s + 1) n ∷ end_at ring (side (ring ∷ []) 0 after) after ∷ []) (side_is ring n)
    ∙ ap (λ (s : ℕ). end_at ring 1 n ∷ end_at ring s after ∷ []) (side_is ring after)
    ∙ ap (λ (i : ℕ). record { node = i; port = 1 } ∷ end_at ring 0 after ∷ []) (number_is ring k o low)
    ∙ ap (λ (i : ℕ). from_b k i) (number_is ring ((k + 1) % length ring) o (mod-lt (k + 1) some))

-- ---- names and RedBoxes

names_are : (network : Network) (ring : List (List ℕ)) → network.rings ≡ ring ∷ [] → AreOnce ring → names_of network ≡ ring
names_are network ring one o = ap (met []) one ∙ joined_new [] ring (λ j low. refl) o

none_box : (ns : List (List ℕ)) → filter (is_box []) ns ≡ []
none_box [] = refl
none_box (n ∷ ns) = none_box ns

no_boxes : (network : Network) (ns : List (List ℕ)) → network.redboxes ≡ [] → boxes_of network ns ≡ []
no_boxes network ns none = ap (λ bs. filter (is_box bs) ns) none ∙ none_box ns

abbrev all_links : List (List (List ℕ)) → List (List ℕ) → List (List ℕ) → List (List End)
all_links rings names boxes = ring_links rings names 0 rings ++ map (interlink names boxes) boxes

links_are : (network : Network) (ring : List (List ℕ)) → network.rings ≡ ring ∷ [] → network.redboxes ≡ [] → AreOnce ring
    → links_of network ≡ map (ring_link (ring ∷ []) ring 0 ring) ring
links_are network ring one none o =
    let names = names_of network in
    let boxes = boxes_of network names in
    ap (λ rs. all_links rs names boxes) one
    ∙ ap (λ ns. all_links (ring ∷ []) ns boxes) (names_are network ring one o)
    ∙ ap (all_links (ring ∷ []) ring) (no_boxes network names none)
    ∙ append-nil (map (ring_link (ring ∷ []) ring 0 ring) ring ++ [])
    ∙ append-nil (map (ring_link (ring ∷ []) ring 0 ring) ring)

abbrev all_nodes : Network → List (List ℕ) → List (List ℕ) → List Node
all_nodes network names boxes = map (ring_node network) names ++ map (station_node network boxes) boxes

nodes_are : (network : Network) (ring : List (List ℕ)) → network.rings ≡ ring ∷ [] → network.redboxes ≡ [] → AreOnce ring
    → nodes_of network ≡ map (ring_node network) ring
nodes_are network ring one none o =
    let names = names_of network in
    ap (λ ns. all_nodes network ns (boxes_of network names)) (names_are network ring one o)
    ∙ ap (all_nodes network ring) (no_boxes network names none)
    ∙ append-nil (map (ring_node network) ring)

-- ---- kinds of nodes

in_here : (ring : List (List ℕ)) (k : ℕ) → k < length ring → in_one (ring ∷ []) (get_or ring k []) ≡ true
in_here ring k low = rw (is_there ring k low) refl

danh_is : (network : Network) (ring : List (List ℕ)) (k : ℕ) → network.rings ≡ ring ∷ [] → network.redboxes ≡ [] → k < length ring
    → place_of network (get_or ring k []) ≡ Danh (node_mac network (get_or ring k [])) (mode_for network.modes (get_or ring k []))
danh_is network ring k one none low =
    let n = get_or ring k [] in
    let danh = Danh (node_mac network n) (mode_for network.modes n) in
    let box = RedBox (node_mac network n) (mode_for network.modes n) in
    ap (λ rs. cond (in_one rs n) (cond (is_box network.redboxes n) box danh) QuadBox) one
    ∙ ap (λ (b : Bool). cond b (cond (is_box network.redboxes n) box danh) QuadBox) (in_here ring k low)
    ∙ ap (λ bs. cond (is_box bs n) box danh) none

abbrev nobody : InMode
nobody = record { name = []; mode = H }

forwards : (modes : List InMode) → All Forwards modes → (o : Option ℕ) → (mode_if (given_at modes o) ≡ H) ⊎ (mode_if (given_at modes o) ≡ U)
forwards modes all None = inl refl
forwards modes all (Some k) = ⊎_elim there past (cases_lt k (length modes))
  where
    there : k < length modes → (mode_if (given_at modes (Some k)) ≡ H) ⊎ (mode_if (given_at modes (Some k)) ≡ U)
    there low =
        let e : mode_if (slice_get modes k) ≡ (get_or modes k nobody).mode = ap mode_if (slice_get-get_or modes k nobody low) in
        ⊎_elim (λ h. inl (e ∙ h)) (λ u. inr (e ∙ u)) (All-get_or Forwards modes k nobody low all)

    past : length modes ≤ k → (mode_if (given_at modes (Some k)) ≡ H) ⊎ (mode_if (given_at modes (Some k)) ≡ U)
    past h = inl (ap mode_if (slice_get_past modes k h))

-- ---- the ring

pub one_ring : (network : Network) (ring : List (List ℕ)) (w : Wired) (run : Run) → IsOneRing network ring → wired network ≡ Ok w → IsRunOf run w → IsRing run (macs_of network ring)
one_ring network ring w run one h of =
    record {
      two = omega (arith, many, at_least);
      places = ap (λ ps. length ps) places ∙ length-map (map (ring_node network) ring) (λ node. node.place) ∙ length-map ring (ring_node network) ∙ sym many;
      nodes = λ k low.
          let below : k < length ring = omega (arith, many, low) in
          let mac = mac_is k below in
          ⊎_elim (λ e. inl (node_is k below ∙ ap (λ m. Danh (node_mac network (get_or ring k [])) m) e ∙ ap (λ a. Danh a H) (sym mac)))
          (λ e. inr (node_is k below ∙ ap (λ m. Danh (node_mac network (get_or ring k [])) m) e ∙ ap (λ a. Danh a U) (sym mac)))
          (forwards network.modes one.modes _);
      single = λ k low.
          let below : k < length ring = omega (arith, many, low) in
          let inside : k < length run.places = omega (arith, count_of_places, below) in
          no_group (get_or (macs_of network ring) k []) (subst HasOwnAddress (node_is k below ∙ ap (λ a. Danh a (mode_for network.modes (get_or ring k []))) (sym (mac_is k below))) (All-get_or HasOwnAddress run.places k QuadBox inside right.own));
      differ = λ i j low high same.
          let below : i < length ring = omega (arith, many, low) in
          let under : j < length ring = omega (arith, many, high) in
          one.own i j below under (sym (mac_is i below) ∙ (same ∙ mac_is j under));
      count = count_of_links ∙ sym many;
      joined = λ k low.
          let below : k < length ring = omega (arith, many, low) in
          let e : get_or run.links k [] ≡ from_b k ((k + 1) % length (macs_of network ring)) = ends_are k below ∙ ap (λ n. from_b k ((k + 1) % n)) (sym many) in
          inl (ap (λ ends. get_or ends 0 no_end) e, ap (λ ends. get_or ends 1 no_end) e);
    }
  where
    known : IsMeant network w
    known = meant network w h

    o : AreOnce ring
    o = ring_once network ring one.rings known.passes

    many : length (macs_of network ring) ≡ length ring
    many = length-map ring (node_mac network)

    places : run.places ≡ map (λ node. node.place) (map (ring_node network) ring)
    places = of.places ∙ known.places ∙ ap (map (λ node. node.place)) (nodes_are network ring one.rings one.danhs o)

    links : run.links ≡ map (ring_link (ring ∷ []) ring 0 ring) ring
    links = of.links ∙ known.links ∙ links_are network ring one.rings one.danhs o

    right : IsWired run.places run.links
    right = wired_rightly run.places run.links (ap (λ ps. topology_fault ps run.links) of.places ∙ ap (topology_fault w.topology.places) of.links ∙ known.right)

    count_of_places : length run.places ≡ length ring
    count_of_places = ap (λ ps. length ps) places ∙ length-map (map (ring_node network) ring) (λ node. node.place) ∙ length-map ring (ring_node network)

    count_of_links : length run.links ≡ length ring
    count_of_links = ap (λ ls. length ls) links ∙ length-map ring (ring_link (ring ∷ []) ring 0 ring)

    mac_is : (k : ℕ) → k < length ring → get_or (macs_of network ring) k [] ≡ node_mac network (get_or ring k [])
    mac_is k low = get_or-map (node_mac network) ring k [] [] low

    node_is : (k : ℕ) → k < length ring → get_or run.places k QuadBox ≡ Danh (node_mac network (get_or ring k [])) (mode_for network.modes (get_or ring k []))
    node_is k low =
        let many_nodes = length-map ring (ring_node network) in
        ap (λ ps. get_or ps k QuadBox) places
        ∙ get_or-map (λ node. node.place) (map (ring_node network) ring) k (ring_node network []) QuadBox (omega (arith, many_nodes, low))
        ∙ ap (λ (node : Node). node.place) (get_or-map (ring_node network) ring k [] (ring_node network []) low)
        ∙ danh_is network ring k one.rings one.danhs low

    ends_are : (k : ℕ) → k < length ring → get_or run.links k [] ≡ from_b k ((k + 1) % length ring)
    ends_are k low = ap (λ ls. get_or ls k []) links ∙ get_or-map (ring_link (ring ∷ []) ring 0 ring) ring k [] [] low ∙ link_is ring k o low

    not_one : length ring ≡ 1 → ⊥
    not_one e =
        let some : 0 < length ring = one.some in
        let inside : 0 < length run.links = omega (arith, count_of_links, some) in
        let join : IsJoin run.places (get_or run.links 0 []) = All-get_or (IsJoin run.places) run.links 0 [] inside right.joined in
        let self : get_or run.links 0 [] ≡ from_b 0 0 = ends_are 0 some ∙ ap (λ n. from_b 0 (1 % n)) e in
        (subst (IsJoin run.places) self join).apart refl

    at_least : 2 ≤ length ring
    at_least = let some = one.some in ⊎_elim (λ e. absurd (not_one e)) (λ no. omega (arith, no, some)) (cases_eq (length ring) 1)

-- ---- the usual addresses

-- the octet that counts the nodes of a ring
abbrev last : List ℕ → ℕ
last mac = get_or mac 5 0

pub usual_differ : (network : Network) (ring : List (List ℕ)) (w : Wired) → network.rings ≡ ring ∷ [] → network.redboxes ≡ [] → network.addresses ≡ [] → wired network ≡ Ok w → HaveOwn network ring
usual_differ network ring w one boxless none h i j low high same =
    let few : length ring ≤ 64 = omega (arith, many, right.few_places) in
    let octets : (i + 1) % 256 ≡ (j + 1) % 256 = sym (last_is i low) ∙ (ap last same ∙ last_is j high) in
    let left : (i + 1) % 256 ≡ i + 1 = mod-eq_of_lt (omega (arith, few, low)) in
    let other : (j + 1) % 256 ≡ j + 1 = mod-eq_of_lt (omega (arith, few, high)) in
    let next : i + 1 ≡ j + 1 = sym left ∙ (octets ∙ other) in
    omega (arith, next)
  where
    known : IsMeant network w
    known = meant network w h

    o : AreOnce ring
    o = ring_once network ring one known.passes

    right : IsWired w.topology.places w.topology.links
    right = wired_rightly w.topology.places w.topology.links known.right

    many : length w.topology.places ≡ length ring
    many = ap (λ ps. length ps) (known.places ∙ ap (map (λ node. node.place)) (nodes_are network ring one boxless o))
        ∙ length-map (map (ring_node network) ring) (λ node. node.place) ∙ length-map ring (ring_node network)

    last_is : (k : ℕ) → k < length ring → last (node_mac network (get_or ring k [])) ≡ (k + 1) % 256
    last_is k below =
        let n = get_or ring k [] in
        ap (λ given. last (mac_or given n (usual_mac 0 (met_first network.rings n) (ring_if (slice_get network.rings (met_first network.rings n)) n)))) none
        ∙ ap (λ rs. (ring_if (slice_get rs (met_first rs n)) n + 1) % 256) one
        ∙ ap (λ f. (ring_if (slice_get (ring ∷ []) f) n + 1) % 256) (met_in_one ring n)
        ∙ ap (λ i. (i + 1) % 256) (number_is ring k o below)
