-- From the readings of a document to what it lists, or to its first table with a fault.
use Rattle.std.proofs.Common.{◌≡◌, ℕ, ◌^◌, ◌≤◌, List, [], length, Some, None, Result, Ok, Err, refl, sym, ap, ◌∙◌, subst, inl, inr, ⊎_elim, if◌then◌else◌, le-leb}
use Rattle.toml.specs.Data.{Members}
use Rattle.toml.specs.Parse.{parse_document}
use Rattle.hsr_topology.specs.Topology.{Topology}
use Rattle.hsr_topology.specs.declared.end.End.{End}
use Rattle.hsr_toml.specs.Fallible.{◌>>=◌}
use Rattle.hsr_scenario.specs.Fallible.{at_spot, each}
use Rattle.hsr_scenario.specs.Links.{link_in}
use Rattle.hsr_scenario.specs.Meaning.{Meant, content, document, document_if, joined, meaning, topology_of, with_steps}
use Rattle.hsr_scenario.specs.Nodes.{node_in}
use Rattle.hsr_scenario.specs.Steps.{order_in}
use Rattle.hsr_scenario.specs.declared.fault.ScenarioFault.{ScenarioFault}
use Rattle.hsr_scenario.specs.declared.fault.Spot.{Spot}
use Rattle.hsr_scenario.specs.declared.fault.Spot.TheVariants as spot
use Rattle.hsr_scenario.specs.declared.fault.What.{What}
use Rattle.hsr_scenario.specs.declared.nodes.Named.{Named}
use Rattle.hsr_scenario.specs.declared.steps.Order.{Order}
use Rattle.hsr_scenario.specs.Listed.{AreJoined, AreKeys, FaultIsFirst, IsFaultAt, IsListed, MeansItsTables}
use Rattle.hsr_scenario.proofs.Each.{all_read, first_bad, ok_is, spot_err, spot_ok, then_err, then_ok}

-- a fault at a spot
at : (ms : Members) (fault : ScenarioFault) (s : Spot) → fault.spot ≡ s → IsFaultAt ms s fault.what → IsFaultAt ms fault.spot fault.what
at ms fault s is = subst (λ t. IsFaultAt ms t fault.what) (sym is)

-- ---- a document with such keys

module _ (ms : Members) (keys : AreKeys ms) where
  -- with such nodes
  module _ (nodes : List Named) (nodes_is : each spot.Node node_in [] keys.nodes ≡ Ok nodes) where
    -- with such links
    module _ (links : List (List End)) (links_is : each spot.Link (λ _. link_in nodes) [] keys.links ≡ Ok links) where
      are_joined : AreJoined ms
      are_joined = record {
        keys = keys;
        nodes = nodes;
        nodes_are = all_read spot.Node node_in keys.nodes nodes nodes_is;
        links = links;
        links_are = all_read spot.Link (λ _. link_in nodes) keys.links links links_is;
      }

      abbrev reads_step : List Order → Members → Result Order What
      reads_step = λ _. order_in keys.unit nodes (length links)

      listed : (topology : Topology) (meant : Meant) → topology_of nodes links ≡ Ok topology → with_steps keys.capacity keys.unit topology nodes (length links) keys.steps ≡ Ok meant → IsListed ms meant
      unfolding with_steps are_joined
      listed topology meant made is =
          let steps = then_ok (each spot.Step reads_step [] keys.steps) (λ steps. Ok (record { topology = topology; capacity = keys.capacity; steps = steps })) meant is in
          let same : (record { topology = topology; capacity = keys.capacity; steps = steps.0 }) ≡ meant = ok_is _ _ steps.2 in
          subst (IsListed ms) same (record {
            joined = are_joined;
            capacity = refl;
            topology = made;
            steps = all_read spot.Step reads_step keys.steps steps.0 steps.1;
          })

      step_fault : (topology : Topology) (fault : ScenarioFault) → topology_of nodes links ≡ Ok topology → with_steps keys.capacity keys.unit topology nodes (length links) keys.steps ≡ Err fault → IsFaultAt ms fault.spot fault.what
      unfolding with_steps are_joined
      step_fault topology fault made is = ⊎_elim
          (λ bad.
          let first = first_bad spot.Step reads_step keys.steps fault bad in
          at ms fault (spot.Step first.0) first.1 (record { joined = are_joined; topology = topology; topology_is = made; first = first.2 }))
          (λ no. absurd (never no.2))
          (then_err (each spot.Step reads_step [] keys.steps) (λ steps. Ok (record { topology = topology; capacity = keys.capacity; steps = steps })) fault is)
        where
          never : {m : Meant} → Ok m ≡ Err fault → ⊥
          never same = absurd cc

    joined_listed : (meant : Meant) → joined keys.capacity keys.unit nodes keys.links keys.steps ≡ Ok meant → IsListed ms meant
    unfolding joined
    joined_listed meant is =
        let links = then_ok (each spot.Link (λ _. link_in nodes) [] keys.links) (λ links. at_spot spot.Top (topology_of nodes links) >>= λ topology. with_steps keys.capacity keys.unit topology nodes (length links) keys.steps) meant is in
        let made = then_ok (at_spot spot.Top (topology_of nodes links.0)) (λ topology. with_steps keys.capacity keys.unit topology nodes (length links.0) keys.steps) meant links.2 in
        listed links.0 links.1 made.0 meant (spot_ok spot.Top (topology_of nodes links.0) made.0 made.1) made.2

    joined_fault : (fault : ScenarioFault) → joined keys.capacity keys.unit nodes keys.links keys.steps ≡ Err fault → IsFaultAt ms fault.spot fault.what
    unfolding joined are_joined
    joined_fault fault is = ⊎_elim
        (λ bad.
        let first = first_bad spot.Link (λ _. link_in nodes) keys.links fault bad in
        at ms fault (spot.Link first.0) first.1 (record { keys = keys; nodes = nodes; nodes_are = all_read spot.Node node_in keys.nodes nodes nodes_is; first = first.2 }))
        (λ links. ⊎_elim
        (λ bad.
        let none = spot_err spot.Top (topology_of nodes links.0) fault bad in
        at ms fault spot.Top none.0 (inr (record { joined = are_joined links.0 links.1; none = none.1 })))
        (λ made. step_fault links.0 links.1 made.0 fault (spot_ok spot.Top (topology_of nodes links.0) made.0 made.1) made.2)
        (then_err (at_spot spot.Top (topology_of nodes links.0)) (λ topology. with_steps keys.capacity keys.unit topology nodes (length links.0) keys.steps) fault links.2))
        (then_err (each spot.Link (λ _. link_in nodes) [] keys.links) (λ links. at_spot spot.Top (topology_of nodes links) >>= λ topology. with_steps keys.capacity keys.unit topology nodes (length links) keys.steps) fault is)

  content_listed : (meant : Meant) → content keys.capacity keys.unit keys.nodes keys.links keys.steps ≡ Ok meant → IsListed ms meant
  unfolding content
  content_listed meant is =
      let nodes = then_ok (each spot.Node node_in [] keys.nodes) (λ nodes. joined keys.capacity keys.unit nodes keys.links keys.steps) meant is in
      joined_listed nodes.0 nodes.1 meant nodes.2

  content_fault : (fault : ScenarioFault) → content keys.capacity keys.unit keys.nodes keys.links keys.steps ≡ Err fault → IsFaultAt ms fault.spot fault.what
  unfolding content
  content_fault fault is = ⊎_elim
      (λ bad.
      let first = first_bad spot.Node node_in keys.nodes fault bad in
      at ms fault (spot.Node first.0) first.1 (record { keys = keys; first = first.2 }))
      (λ nodes. joined_fault nodes.0 nodes.1 fault nodes.2)
      (then_err (each spot.Node node_in [] keys.nodes) (λ nodes. joined keys.capacity keys.unit nodes keys.links keys.steps) fault is)

-- ---- documents

document_listed : (ms : Members) (meant : Meant) → document ms ≡ Ok meant → IsListed ms meant
unfolding document
document_listed ms meant is =
    let a = then_ok _ _ meant is in
    let b = then_ok _ _ meant a.2 in
    let c = then_ok _ _ meant b.2 in
    let d = then_ok _ _ meant c.2 in
    let e = then_ok _ _ meant d.2 in
    let f = then_ok _ _ meant e.2 in
    content_listed ms (record {
      capacity = b.0;
      unit = c.0;
      nodes = d.0;
      links = e.0;
      steps = f.0;
      no_others = spot_ok spot.Top _ a.0 a.1;
      capacity_is = spot_ok spot.Top _ b.0 b.1;
      unit_is = spot_ok spot.Top _ c.0 c.1;
      nodes_are = spot_ok spot.Top _ d.0 d.1;
      links_are = spot_ok spot.Top _ e.0 e.1;
      steps_are = spot_ok spot.Top _ f.0 f.1;
    }) meant f.2

module _ (ms : Members) (fault : ScenarioFault) where
  at_top : {A : Type 0} (r : Result A What) → at_spot spot.Top r ≡ Err fault → (r ≡ Err fault.what → IsFaultAt ms spot.Top fault.what) → IsFaultAt ms fault.spot fault.what
  at_top r bad so = let is = spot_err spot.Top r fault bad in at ms fault spot.Top is.0 (so is.1)

  document_fault : document ms ≡ Err fault → IsFaultAt ms fault.spot fault.what
  unfolding document
  document_fault is =
      ⊎_elim (λ bad. at_top _ bad (λ no. inl (inl no)))
      (λ a. ⊎_elim (λ bad. at_top _ bad (λ no. inl (inr (inl no))))
      (λ b. ⊎_elim (λ bad. at_top _ bad (λ no. inl (inr (inr (inl no)))))
      (λ c. ⊎_elim (λ bad. at_top _ bad (λ no. inl (inr (inr (inr (inl no))))))
      (λ d. ⊎_elim (λ bad. at_top _ bad (λ no. inl (inr (inr (inr (inr (inl no)))))))
      (λ e. ⊎_elim (λ bad. at_top _ bad (λ no. inl (inr (inr (inr (inr (inr no)))))))
      (λ f. content_fault ms (record {
        capacity = b.0;
        unit = c.0;
        nodes = d.0;
        links = e.0;
        steps = f.0;
        no_others = spot_ok spot.Top _ a.0 a.1;
        capacity_is = spot_ok spot.Top _ b.0 b.1;
        unit_is = spot_ok spot.Top _ c.0 c.1;
        nodes_are = spot_ok spot.Top _ d.0 d.1;
        links_are = spot_ok spot.Top _ e.0 e.1;
        steps_are = spot_ok spot.Top _ f.0 f.1;
      }) fault f.2)
      (then_err _ _ fault e.2))
      (then_err _ _ fault d.2))
      (then_err _ _ fault c.2))
      (then_err _ _ fault b.2))
      (then_err _ _ fault a.2))
      (then_err _ _ fault is)

-- ---- texts

read_whole : (text : List ℕ) (ms : Members) → length text ≤ 2 ^ 24 → parse_document text ≡ Some ms → meaning text ≡ document ms
read_whole text ms short is = ap (λ b. document_if (if b then parse_document text else None)) (le-leb (length text) (2 ^ 24) short) ∙ ap document_if is

pub means_tables : MeansItsTables
means_tables text ms meant doc is = document_listed ms meant (sym (read_whole text ms doc.0 doc.1) ∙ is)

pub first_fault : FaultIsFirst
first_fault text ms fault doc is = document_fault ms fault (sym (read_whole text ms doc.0 doc.1) ∙ is)
