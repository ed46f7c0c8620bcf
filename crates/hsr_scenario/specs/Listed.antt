-- What the tables of a document list, and which of them has its fault.
--     AreRead       the first tables of a list are read, each after those before it
--     IsFirstBad    the first table of a list that has a fault
--     AreJoined     all tables of nodes and links are read
--     IsListed      all tables are, and the nodes and links are a topology
--     IsFaultAt     the first table of a document that has a fault
use Rattle.std.specs.Prelude.{ℕ, ◌^◌, ◌≤◌, ◌≡◌, ◌⊎◌, List, [], ◌∷◌, length, take, slice_get, Some, Result, Ok, Err}
use Rattle.toml.specs.Data.{Members}
use Rattle.toml.specs.Parse.{parse_document}
use Rattle.hsr_text.specs.Moments.{unit_of}
use Rattle.hsr_text.specs.declared.time_unit.TimeUnit.{TimeUnit}
use Rattle.hsr_text.specs.declared.time_unit.TimeUnit.TheVariants.{Milliseconds}
use Rattle.hsr_topology.specs.declared.end.End.{End}
use Rattle.hsr_scenario.specs.Links.{link_in}
use Rattle.hsr_scenario.specs.Meaning.{Meant, meaning, topology_of}
use Rattle.hsr_scenario.specs.Nodes.{node_in}
use Rattle.hsr_scenario.specs.Steps.{order_in}
use Rattle.hsr_toml.specs.Tables.{between, optional, tables, word}
use Rattle.hsr_scenario.specs.Fault.{faults}
use Rattle.hsr_scenario.specs.Tables.{only}
use Rattle.hsr_scenario.specs.declared.fault.Key.TheVariants as key
use Rattle.hsr_scenario.specs.declared.fault.ScenarioFault.{ScenarioFault}
use Rattle.hsr_scenario.specs.declared.fault.Spot.{Spot}
use Rattle.hsr_scenario.specs.declared.fault.Spot.TheVariants.{Top, Node, Link, Step}
use Rattle.hsr_scenario.specs.declared.fault.What.{What}
use Rattle.hsr_scenario.specs.declared.nodes.Named.{Named}

-- ---- tables

-- the first n tables are these things, each read after those before it
pub record AreRead {A : Type 0} (read : List A → Members → Result A What) (these : List Members) (n : ℕ) (xs : List A) : Type 0 where
  pub there : n ≤ length these
  pub many : length xs ≡ n
  pub each : (i : ℕ) (table : Members) (x : A) → slice_get these i ≡ Some table → slice_get xs i ≡ Some x → read (take i xs) table ≡ Ok x

abbrev pub AreAllRead : {A : Type 0} → (List A → Members → Result A What) → List Members → List A → Type 0
AreAllRead read these xs = AreRead read these (length these) xs

-- table i has this fault, and those before it are read
pub record IsFirstBad {A : Type 0} (read : List A → Members → Result A What) (these : List Members) (i : ℕ) (what : What) : Type 0 where
  pub before : List A
  pub are_read : AreRead read these i before
  pub table : Members
  pub here : slice_get these i ≡ Some table
  pub fails : read before table ≡ Err what

-- ---- documents

-- what stands at a document's keys
pub record AreKeys (ms : Members) : Type 0 where
  pub capacity : ℕ
  pub unit : TimeUnit
  pub nodes : List Members
  pub links : List Members
  pub steps : List Members
  pub no_others : only (key.Capacity ∷ key.TimeUnit ∷ key.Node ∷ key.Link ∷ key.Step ∷ []) ms ≡ Ok tt
  pub capacity_is : optional faults key.Capacity 64 (between faults 1 4096) ms ≡ Ok capacity
  pub unit_is : optional faults key.TimeUnit Milliseconds (word faults unit_of) ms ≡ Ok unit
  pub nodes_are : optional faults key.Node [] (tables faults) ms ≡ Ok nodes
  pub links_are : optional faults key.Link [] (tables faults) ms ≡ Ok links
  pub steps_are : optional faults key.Step [] (tables faults) ms ≡ Ok steps

-- one of these keys has a fault
abbrev pub IsKeyFault : Members → What → Type 0
IsKeyFault ms what =
    (only (key.Capacity ∷ key.TimeUnit ∷ key.Node ∷ key.Link ∷ key.Step ∷ []) ms ≡ Err what)
    ⊎ (optional faults key.Capacity 64 (between faults 1 4096) ms ≡ Err what)
    ⊎ (optional faults key.TimeUnit Milliseconds (word faults unit_of) ms ≡ Err what)
    ⊎ (optional faults key.Node [] (tables faults) ms ≡ Err what)
    ⊎ (optional faults key.Link [] (tables faults) ms ≡ Err what)
    ⊎ (optional faults key.Step [] (tables faults) ms ≡ Err what)

-- the tables of nodes and links are read
pub record AreJoined (ms : Members) : Type 0 where
  pub keys : AreKeys ms
  pub nodes : List Named
  pub nodes_are : AreAllRead node_in keys.nodes nodes
  pub links : List (List End)
  pub links_are : AreAllRead (λ _. link_in nodes) keys.links links

-- so are those of steps, and the nodes and links are a topology
pub record IsListed (ms : Members) (meant : Meant) : Type 0 where
  pub joined : AreJoined ms
  pub capacity : meant.capacity ≡ joined.keys.capacity
  pub topology : topology_of joined.nodes joined.links ≡ Ok meant.topology
  pub steps : AreAllRead (λ _. order_in joined.keys.unit joined.nodes (length joined.links)) joined.keys.steps meant.steps

-- ---- faults

pub record IsNodeFault (ms : Members) (i : ℕ) (what : What) : Type 0 where
  pub keys : AreKeys ms
  pub first : IsFirstBad node_in keys.nodes i what

pub record IsLinkFault (ms : Members) (i : ℕ) (what : What) : Type 0 where
  pub keys : AreKeys ms
  pub nodes : List Named
  pub nodes_are : AreAllRead node_in keys.nodes nodes
  pub first : IsFirstBad (λ _. link_in nodes) keys.links i what

pub record IsTopologyFault (ms : Members) (what : What) : Type 0 where
  pub joined : AreJoined ms
  pub none : topology_of joined.nodes joined.links ≡ Err what

pub record IsStepFault (ms : Members) (i : ℕ) (what : What) : Type 0 where
  pub joined : AreJoined ms
  pub topology : Rattle.hsr_topology.specs.Topology.Topology
  pub topology_is : topology_of joined.nodes joined.links ≡ Ok topology
  pub first : IsFirstBad (λ _. order_in joined.keys.unit joined.nodes (length joined.links)) joined.keys.steps i what

abbrev pub IsFaultAt : Members → Spot → What → Type 0
IsFaultAt ms Top what = IsKeyFault ms what ⊎ IsTopologyFault ms what
IsFaultAt ms (Node i) what = IsNodeFault ms i what
IsFaultAt ms (Link i) what = IsLinkFault ms i what
IsFaultAt ms (Step i) what = IsStepFault ms i what

-- ---- laws

-- a document of TOML of at most 16 MiB
abbrev pub IsDocument : List ℕ → Members → Type 0
IsDocument text ms = (length text ≤ 2 ^ 24) × (parse_document text ≡ Some ms)

abbrev pub MeansItsTables : Type 0
MeansItsTables = (text : List ℕ) (ms : Members) (meant : Meant) → IsDocument text ms → meaning text ≡ Ok meant → IsListed ms meant

abbrev pub FaultIsFirst : Type 0
FaultIsFirst = (text : List ℕ) (ms : Members) (fault : ScenarioFault) → IsDocument text ms → meaning text ≡ Err fault → IsFaultAt ms fault.spot fault.what
