-- What a document says, or its first fault.
use Rattle.std.specs.Prelude.{ℕ, List, [], ◌∷◌, length, map, Option, Some, None, Result, Ok, Err}
use Rattle.toml.specs.Data.{Members}
use Rattle.hsr_topology.specs.Topology.{Topology, made}
use Rattle.hsr_topology.specs.declared.end.End.{End}
use Rattle.hsr_topology.specs.declared.fault.TopologyFault.{TopologyFault}
use Rattle.hsr_text.specs.Moments.{unit_of}
use Rattle.hsr_text.specs.declared.time_unit.TimeUnit.{TimeUnit}
use Rattle.hsr_text.specs.declared.time_unit.TimeUnit.TheVariants.{Milliseconds}
use Rattle.hsr_toml.specs.Fallible.{◌>>=◌}
use Rattle.hsr_toml.specs.Documents.{document_of}
use Rattle.hsr_toml.specs.declared.document.NoDocument.{NoDocument}
use Rattle.hsr_toml.specs.declared.document.NoDocument.TheVariants.{NoToml, NoMemory as NoRoom}
use Rattle.hsr_scenario.specs.Fallible.{at_spot, each}
use Rattle.hsr_toml.specs.Tables.{between, optional, tables, word}
use Rattle.hsr_scenario.specs.Fault.{faults}
use Rattle.hsr_scenario.specs.Tables.{only}
use Rattle.hsr_scenario.specs.Nodes.{node_in}
use Rattle.hsr_scenario.specs.Links.{link_in}
use Rattle.hsr_scenario.specs.Steps.{order_in}
use Rattle.hsr_scenario.specs.declared.fault.Key.TheVariants as key
use Rattle.hsr_scenario.specs.declared.fault.Spot.TheVariants as spot
use Rattle.hsr_scenario.specs.declared.fault.What.{What}
use Rattle.hsr_scenario.specs.declared.fault.What.TheVariants.{Text, Topology as NoTopology, NoMemory}
use Rattle.hsr_scenario.specs.declared.fault.ScenarioFault.{ScenarioFault}
use Rattle.hsr_scenario.specs.declared.nodes.Named.{Named}
use Rattle.hsr_scenario.specs.declared.scenario.Scenario.{Scenario}
use Rattle.hsr_scenario.specs.declared.steps.Order.{Order}

pub record Meant : Type 0 where
  pub topology : Topology
  pub capacity : ℕ
  pub steps : List Order

abbrev pub scenario_view : Scenario → Meant
scenario_view s = record { topology = s.topology; capacity = s.capacity; steps = s.steps.items }

-- why nodes and links do not form a valid topology, as a fault of the document
abbrev pub wired : Result Topology TopologyFault → Result Topology What
wired (Ok topology) = Ok topology
wired (Err fault) = Err (NoTopology fault)

abbrev pub topology_of : List Named → List (List End) → Result Topology What
topology_of nodes links = wired (made (map (λ node. node.place) nodes) links)

-- where there are this topology and these nodes and links, and moments are in this unit: the steps
unfoldable pub with_steps : ℕ → TimeUnit → Topology → List Named → ℕ → List Members → Result Meant ScenarioFault
with_steps capacity unit topology nodes links step_tables = do
  steps ← each spot.Step (λ _. order_in unit nodes links) [] step_tables
  Ok (record { topology = topology; capacity = capacity; steps = steps })

-- where there are these nodes: links, the topology, then steps
unfoldable pub joined : ℕ → TimeUnit → List Named → List Members → List Members → Result Meant ScenarioFault
joined capacity unit nodes link_tables step_tables = do
  links ← each spot.Link (λ _. link_in nodes) [] link_tables
  topology ← at_spot spot.Top (topology_of nodes links)
  with_steps capacity unit topology nodes (length links) step_tables

-- nodes, links, the topology, then steps
unfoldable pub content : ℕ → TimeUnit → List Members → List Members → List Members → Result Meant ScenarioFault
content capacity unit node_tables link_tables step_tables = do
  nodes ← each spot.Node node_in [] node_tables
  joined capacity unit nodes link_tables step_tables

-- why a text is no document, as a fault of the scenario
abbrev pub text_fault : NoDocument → ScenarioFault
text_fault NoToml = record { spot = spot.Top; what = Text }
text_fault NoRoom = record { spot = spot.Top; what = NoMemory }

-- what the tables of a document say
unfoldable pub document : Members → Result Meant ScenarioFault
document ms = do
  _ ← at_spot spot.Top (only (key.Capacity ∷ key.TimeUnit ∷ key.Node ∷ key.Link ∷ key.Step ∷ []) ms)
  capacity ← at_spot spot.Top (optional faults key.Capacity 64 (between faults 1 4096) ms)
  unit ← at_spot spot.Top (optional faults key.TimeUnit Milliseconds (word faults unit_of) ms)
  node_tables ← at_spot spot.Top (optional faults key.Node [] (tables faults) ms)
  link_tables ← at_spot spot.Top (optional faults key.Link [] (tables faults) ms)
  step_tables ← at_spot spot.Top (optional faults key.Step [] (tables faults) ms)
  content capacity unit node_tables link_tables step_tables

abbrev pub document_if : Option Members → Result Meant ScenarioFault
document_if None = Err (text_fault NoToml)
document_if (Some ms) = document ms

abbrev pub meaning : List ℕ → Result Meant ScenarioFault
meaning text = document_if (document_of text)
