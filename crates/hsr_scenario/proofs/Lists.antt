-- Each table of a list.
use Rattle.std.proofs.Common.{◌≡◌, ℕ, ◌+◌, ◌<◌, ◌++◌, length, get_or, drop, map, List, [], ◌∷◌, Result, Ok, Err, Bor, ap}
use Rattle.toml.specs.View.{table_view}
use Rattle.hsr_text.specs.declared.time_unit.TimeUnit.{TimeUnit}
use Rattle.hsr_toml.specs.Fallible.{Fails}
use Rattle.hsr_toml.proofs.Fallible.{unless}
use Rattle.hsr_toml.proofs.Lists.{Table, table_fail, table_step}
use Rattle.hsr_topology.specs.declared.end.End.{End}
use Rattle.hsr_scenario.specs.Fallible.{Gives, GivesAt, at_spot, each}
use Rattle.hsr_scenario.specs.Fault.{is_memory, is_memory_at}
use Rattle.hsr_scenario.specs.Nodes.{node_in}
use Rattle.hsr_scenario.specs.Links.{link_in}
use Rattle.hsr_scenario.specs.Steps.{order_in}
use Rattle.hsr_scenario.specs.declared.fault.ScenarioFault.{ScenarioFault}
use Rattle.hsr_scenario.specs.declared.fault.Spot.{Spot}
use Rattle.hsr_scenario.specs.declared.fault.Spot.TheVariants.{Node, Link, Step}
use Rattle.hsr_scenario.specs.declared.fault.What.{What}
use Rattle.hsr_scenario.specs.declared.nodes.Named.{Named}
use Rattle.hsr_scenario.specs.declared.steps.Order.{Order}

-- a fault keeps its meaning where its place is put to it
pub spotted : {X Y : Type 0} (view : X → Y) (spot : Spot) (r : Result X What) (said : Result Y What)
    → Gives view r said → GivesAt view (at_spot spot r) (at_spot spot said)
spotted view spot (Ok x) said h = ap (at_spot spot) h
spotted view spot (Err what) said h = unless (is_memory what) (ap (at_spot spot)) h

-- ---- nodes

pub nodes_step : (seen : List Named) (ts : List (Bor Table)) (i : ℕ) (d : Bor Table) (n : Named) → i < length ts
    → at_spot (Node (length seen)) (node_in seen (table_view (get_or ts i d).now)) ≡ Ok n
    → each Node node_in seen (map (λ t. table_view t.now) (drop i ts)) ≡ each Node node_in (seen ++ n ∷ []) (map (λ t. table_view t.now) (drop (i + 1) ts))
nodes_step = table_step (λ seen ms. at_spot (Node (length seen)) (node_in seen ms))

pub nodes_fail : (seen : List Named) (ts : List (Bor Table)) (i : ℕ) (d : Bor Table) (e : ScenarioFault) (whole : Result (List Named) ScenarioFault) → i < length ts
    → each Node node_in seen (map (λ t. table_view t.now) (drop i ts)) ≡ whole → Fails is_memory_at e (at_spot (Node (length seen)) (node_in seen (table_view (get_or ts i d).now))) → Fails is_memory_at e whole
nodes_fail = table_fail (λ seen ms. at_spot (Node (length seen)) (node_in seen ms)) is_memory_at

-- ---- links

pub links_step : (nodes : List Named) (seen : List (List End)) (ts : List (Bor Table)) (i : ℕ) (d : Bor Table) (l : List End) → i < length ts
    → at_spot (Link (length seen)) (link_in nodes (table_view (get_or ts i d).now)) ≡ Ok l
    → each Link (λ _. link_in nodes) seen (map (λ t. table_view t.now) (drop i ts)) ≡ each Link (λ _. link_in nodes) (seen ++ l ∷ []) (map (λ t. table_view t.now) (drop (i + 1) ts))
links_step nodes = table_step (λ seen ms. at_spot (Link (length seen)) (link_in nodes ms))

pub links_fail : (nodes : List Named) (seen : List (List End)) (ts : List (Bor Table)) (i : ℕ) (d : Bor Table) (e : ScenarioFault) (whole : Result (List (List End)) ScenarioFault) → i < length ts
    → each Link (λ _. link_in nodes) seen (map (λ t. table_view t.now) (drop i ts)) ≡ whole → Fails is_memory_at e (at_spot (Link (length seen)) (link_in nodes (table_view (get_or ts i d).now))) → Fails is_memory_at e whole
links_fail nodes = table_fail (λ seen ms. at_spot (Link (length seen)) (link_in nodes ms)) is_memory_at

-- ---- steps

pub orders_step : (unit : TimeUnit) (nodes : List Named) (links : ℕ) (seen : List Order) (ts : List (Bor Table)) (i : ℕ) (d : Bor Table) (o : Order) → i < length ts
    → at_spot (Step (length seen)) (order_in unit nodes links (table_view (get_or ts i d).now)) ≡ Ok o
    → each Step (λ _. order_in unit nodes links) seen (map (λ t. table_view t.now) (drop i ts)) ≡ each Step (λ _. order_in unit nodes links) (seen ++ o ∷ []) (map (λ t. table_view t.now) (drop (i + 1) ts))
orders_step unit nodes links = table_step (λ seen ms. at_spot (Step (length seen)) (order_in unit nodes links ms))

pub orders_fail : (unit : TimeUnit) (nodes : List Named) (links : ℕ) (seen : List Order) (ts : List (Bor Table)) (i : ℕ) (d : Bor Table) (e : ScenarioFault) (whole : Result (List Order) ScenarioFault) → i < length ts
    → each Step (λ _. order_in unit nodes links) seen (map (λ t. table_view t.now) (drop i ts)) ≡ whole → Fails is_memory_at e (at_spot (Step (length seen)) (order_in unit nodes links (table_view (get_or ts i d).now))) → Fails is_memory_at e whole
orders_fail unit nodes links = table_fail (λ seen ms. at_spot (Step (length seen)) (order_in unit nodes links ms)) is_memory_at
