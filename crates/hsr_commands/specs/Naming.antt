-- What a report and tables call the nodes, sends and ports of a run, where names are asked for.
--     IsNaming      by the text of the scenario that was run
--     IsNodeNaming  the same of nodes alone, where it didn't come to its end
--     IsNamedBy     by the text of a scenario that is given
--     IsMisnamed    a text that is given is of no scenario of the run
use Rattle.std.specs.Prelude.{ℕ, ◌≡◌, ◌⊎◌, ⊤, Bool, true, false, List, length, Option, Some, None, Result, Ok, Err, if◌then◌else◌}
use Rattle.std.specs.Str.{is_utf8}
use Rattle.hsr_topology.specs.Topology.{Topology}
use Rattle.hsr_run_laws.specs.Run.{Run}
use Rattle.hsr_given.specs.Unnamed.{other, unread}
use Rattle.hsr_given.specs.declared.unnamed.Unnamed.{Unnamed}
use Rattle.hsr_given.specs.declared.unnamed.Unnamed.TheVariants.{Sends}
use Rattle.hsr_naming.specs.declared.names.Names.{Names}
use Rattle.hsr_naming.specs.declared.naming.Naming.{Naming}
use Rattle.hsr_naming.specs.declared.naming.Naming.TheVariants as naming
use Rattle.hsr_run_names.specs.Naming.{AreNamesOf, has_sends}
use Rattle.hsr_timeline.specs.Fronts.{lists_of}
use Rattle.hsr_scenario.specs.Names.{NamesMeant, names_meant, names_view}
use Rattle.hsr_scenario.specs.declared.naming.Names.{Names as ScenarioNames}
use Rattle.hsr_scenario.specs.declared.fault.ScenarioFault.{ScenarioFault}
use Rattle.hsr_scenario.specs.declared.fault.Spot.TheVariants as spot
use Rattle.hsr_scenario.specs.declared.fault.What.TheVariants as what
use Rattle.hsr_commands.specs.declared.fault.Fault.{Fault}
use Rattle.hsr_commands.specs.declared.fault.Fault.TheVariants.{Names as Misnamed, Memory}

-- ---- the scenario that was run

-- which names a text has
abbrev pub Named : Type 0
Named = Result NamesMeant ScenarioFault

abbrev pub names_in : List ℕ → Named
names_in octets = if is_utf8 octets then names_meant octets else Err (record { spot = spot.Top; what = what.Text })

-- the run is called by these names
abbrev pub IsCalled : NamesMeant → Run → Naming → Type 0
IsCalled meant run called = (names : Names) × AreNamesOf run meant.names meant.streams names × (called ≡ naming.Names names)

-- where names are asked for, those of the text; a text of a run has them
abbrev pub IsNaming : Bool → Named → Run → Naming → Type 0
IsNaming false named run called = called ≡ naming.Numbers
IsNaming true (Err fault) run called = called ≡ naming.Numbers
IsNaming true (Ok meant) run called = IsCalled meant run called

-- so too of a run that didn't come to its end, of which nodes alone are called by names
abbrev pub IsNodeNaming : Bool → Named → Naming → Type 0
IsNodeNaming false named called = called ≡ naming.Numbers
IsNodeNaming true (Err fault) called = called ≡ naming.Numbers
IsNodeNaming true (Ok meant) called = (names : Names) × (lists_of names.nodes.items ≡ meant.names) × (called ≡ naming.Names names)

-- the names that were read are those of the text
abbrev pub IsReadAs : Named → Option ScenarioNames → Type 0
IsReadAs (Ok meant) (Some names) = names_view names ≡ meant
IsReadAs (Err fault) None = ⊤
IsReadAs _ _ = ⊥

-- ---- a scenario that is given

abbrev pub topology_of : Run → Topology
topology_of run = record { places = run.places; links = run.links }

-- its nodes and links are those of the run, and of each node so many sends
pub record IsOf (run : Run) (meant : NamesMeant) : Type 0 where
  pub topology : meant.topology ≡ topology_of run
  pub sends : has_sends run meant.streams (length run.places) ≡ true

-- this scenario is of the run, which is called by its names
pub record IsNamedFrom (text : List ℕ) (run : Run) (called : Naming) : Type 0 where
  pub meant : NamesMeant
  pub read : names_meant text ≡ Ok meant
  pub is_of : IsOf run meant
  pub is_called : IsCalled meant run called

abbrev pub IsNamedBy : Option (List ℕ) → Run → Naming → Type 0
IsNamedBy None run called = called ≡ naming.Numbers
IsNamedBy (Some text) run called = IsNamedFrom text run called

-- a scenario of other nodes or links, or of the same and other sends
abbrev pub IsAnother : List ℕ → Run → NamesMeant → Unnamed → Type 0
IsAnother text run meant instead =
    (¬ (meant.topology ≡ topology_of run) × (instead ≡ other text))
    ⊎ ((meant.topology ≡ topology_of run) × (has_sends run meant.streams (length run.places) ≡ false) × (instead ≡ Sends))

-- such a scenario was given, or there was no memory
abbrev pub IsMisnamedBy : List ℕ → Run → NamesMeant → Fault → Type 0
IsMisnamedBy text run meant (Misnamed instead) = IsAnother text run meant instead
IsMisnamedBy text run meant Memory = Unit {0}
IsMisnamedBy text run meant _ = ⊥

-- a text is no scenario of the run; what it is instead
abbrev pub IsInstead : List ℕ → Run → Named → Unnamed → Type 0
IsInstead text run (Err fault) instead = instead ≡ unread text
IsInstead text run (Ok meant) instead = IsAnother text run meant instead

abbrev pub HasOther : Option (List ℕ) → Run → Unnamed → Type 0
HasOther None run instead = ⊥
HasOther (Some text) run instead = IsInstead text run (names_meant text) instead

-- names are asked for and not there, for this reason
abbrev pub IsMisnamed : Option (List ℕ) → Run → Fault → Type 0
IsMisnamed scenario run (Misnamed instead) = HasOther scenario run instead
IsMisnamed scenario run Memory = Unit {0}
IsMisnamed scenario run _ = ⊥
