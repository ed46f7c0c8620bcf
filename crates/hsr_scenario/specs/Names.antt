-- The names of a scenario's nodes, with its topology, and from which streams its sends are.
use Rattle.std.specs.List.{flat_map}
use Rattle.std.specs.Prelude.{ℕ, List, [], length, map, Option, Some, None, Result, Ok, Err}
use Rattle.toml.specs.Data.{Members}
use Rattle.hsr_topology.specs.Topology.{Topology}
use Rattle.hsr_toml.specs.Fallible.{◌>>=◌}
use Rattle.hsr_toml.specs.Documents.{document_of}
use Rattle.hsr_toml.specs.declared.document.NoDocument.TheVariants.{NoToml}
use Rattle.hsr_scenario.specs.Fallible.{at_spot, each}
use Rattle.hsr_toml.specs.Tables.{optional, tables}
use Rattle.hsr_scenario.specs.Fault.{faults}
use Rattle.hsr_scenario.specs.Nodes.{node_in}
use Rattle.hsr_scenario.specs.Links.{link_in}
use Rattle.hsr_scenario.specs.Meaning.{text_fault, topology_of}
use Rattle.hsr_scenario.specs.Streams.{sent_in, step_tables, streams_of}
use Rattle.hsr_scenario.specs.declared.fault.Key.TheVariants as key
use Rattle.hsr_scenario.specs.declared.fault.Spot.TheVariants as spot
use Rattle.hsr_scenario.specs.declared.fault.ScenarioFault.{ScenarioFault}
use Rattle.hsr_scenario.specs.declared.naming.Names.{Names}
use Rattle.hsr_scenario.specs.declared.nodes.Named.{Named}

pub record NamesMeant : Type 0 where
  pub topology : Topology
  -- by the numbers of nodes
  pub names : List (List ℕ)
  -- so too: the stream of each of a node's sends and supervision frames, in their order; empty, where it's from none
  pub streams : List (List (List ℕ))

abbrev pub names_view : Names → NamesMeant
names_view n = record { topology = n.topology; names = map (λ name. name.items) n.names.items; streams = map (λ list. map (λ name. name.items) list.items) n.streams.items }

-- from which streams the sends of these nodes are, by the tables of steps
unfoldable pub streams_in : List Named → List Members → List (List (List ℕ))
streams_in nodes tables = streams_of (length nodes) (flat_map (sent_in nodes) tables)

abbrev pub names_of : List Named → List (List ℕ)
names_of nodes = map (λ node. node.name) nodes

-- where there are these nodes: links, then the topology
unfoldable pub named_by : List Named → List Members → List Members → Result NamesMeant ScenarioFault
named_by nodes link_tables steps = do
  links ← each spot.Link (λ _. link_in nodes) [] link_tables
  topology ← at_spot spot.Top (topology_of nodes links)
  Ok (record { topology = topology; names = names_of nodes; streams = streams_in nodes steps })

-- what the nodes and links of a document say; a step that isn't as steps are has no fault here, and sends nothing
unfoldable pub named_in : Members → Result NamesMeant ScenarioFault
named_in ms = do
  node_tables ← at_spot spot.Top (optional faults key.Node [] (tables faults) ms)
  link_tables ← at_spot spot.Top (optional faults key.Link [] (tables faults) ms)
  nodes ← each spot.Node node_in [] node_tables
  named_by nodes link_tables (step_tables ms)

abbrev pub named_if : Option Members → Result NamesMeant ScenarioFault
named_if None = Err (text_fault NoToml)
named_if (Some ms) = named_in ms

abbrev pub names_meant : List ℕ → Result NamesMeant ScenarioFault
names_meant text = named_if (document_of text)
