-- How the sweep of a text ends, and what it wrote.
use Rattle.std.specs.Prelude.{◌≡◌, ℕ, Bool, true, false, List, [], map, Option, Ok, Result}
use Rattle.std.specs.Io.KnownBytes.{Appends, Keeps}
use Rattle.std.specs.Str.{IsUtf8}
use Rattle.hsr_timeline.specs.Fronts.{lists_of}
use Rattle.hsr_naming.specs.declared.names.Names.{Names}
use Rattle.hsr_naming.specs.declared.naming.Naming.{Naming}
use Rattle.hsr_naming.specs.declared.naming.Naming.TheVariants as naming
use Rattle.hsr_plan_text.specs.Plan.{Plan}
use Rattle.hsr_plan_text.specs.declared.fault.PlanFault.{PlanFault}
use Rattle.hsr_plan_network.specs.Nodes.{Node}
use Rattle.hsr_plan_schedule.specs.Meaning.{Meaning, Means}
use Rattle.hsr_plan_scenario.specs.Ends.{TellsFault, TellsInput}
use Rattle.hsr_plan_scenario.specs.declared.planning.Ending.{Ending}
use Rattle.hsr_plan_scenario.specs.declared.planning.Ending.TheVariants.{Planned, Doubted, Refused, Failed, Unwritten}
use Rattle.hsr_plan_sweep.specs.Lines.{Words, sweep_text}
use Rattle.hsr_plan_sweep.specs.Refusals.{IsUnsweepable, cases_in, ground}
use Rattle.hsr_plan_sweep.specs.Runs.{ArePlayed}
use Rattle.hsr_plan_sweep.specs.Variants.{plan_in}
use Rattle.hsr_plan_sweep.specs.Verdict.{is_in_doubt}
use Rattle.hsr_plan_sweep.specs.declared.asked.Asked.{Asked}
use Rattle.hsr_plan_sweep.specs.declared.playing.Played.{Played}

-- ---- lines

-- it calls nodes by their names, and entries by their numbers
abbrev pub IsNamingOf : List Node → Naming → Type 0
IsNamingOf nodes naming.Numbers = ⊥
IsNamingOf nodes (naming.Names names) = (lists_of names.nodes.items ≡ map (λ node. node.name) nodes) × (names.entries.items ≡ [])

abbrev pub ending_of : Bool → Ending
ending_of true = Doubted
ending_of false = Planned

abbrev pub words_of : Asked → Meaning → Naming → Words
words_of asked m naming = record { nodes = m.nodes; links = m.topology.links; naming = naming; asked = asked }

-- these lines tell what is counted, and this end whether something is in doubt
pub record TellsPlays (asked : Asked) (m : Meaning) (plays : List Played) (text : List ℕ) (ending : Ending) : Type 0 where
  pub naming : Naming
  pub is_naming : IsNamingOf m.nodes naming
  pub told : text ≡ sweep_text (words_of asked m naming) plays
  pub ends : ending ≡ ending_of (is_in_doubt asked plays)

-- ---- sweeps

-- a plan means this, and all cases that are asked for are counted of it
pub record IsPlayedPlan (plan : Plan) (asked : Asked) (m : Meaning) (plays : List Played) : Type 0 where
  pub means : Means plan m
  pub played : ArePlayed (Ok plan) (ground asked.at m) (cases_in asked m) plays

-- and told
pub record IsSweptPlan (plan : Plan) (asked : Asked) (text : List ℕ) (ending : Ending) : Type 0 where
  pub meaning : Meaning
  pub plays : List Played
  pub played : IsPlayedPlan plan asked meaning plays
  pub tells : TellsPlays asked meaning plays text ending

-- octets are a text, and these are the lines of the sweep of what it says as a plan, without its own events where they are left out
abbrev pub IsSwept : List ℕ → Asked → List ℕ → Ending → Type 0
IsSwept octets asked text ending = IsUtf8 octets × ((plan : Plan) × (plan_in asked.without_events octets ≡ Ok plan) × IsSweptPlan plan asked text ending)

-- ---- ends

-- what is said of a sweep that doesn't show how far it is
abbrev pub IfHidden : Bool → Type 0 → Type 0
IfHidden shown said = shown ≡ false → said

-- the lines of a sweep were written, and nothing told
abbrev pub WritesSweep : List ℕ → Asked → Bool → Option (List ℕ) → Option (List ℕ) → Option (List ℕ) → Option (List ℕ) → Ending → Type 0
WritesSweep octets asked shown held holds told tells ending = (text : List ℕ) × IsSwept octets asked text ending × Appends held holds text × IfHidden shown (Keeps told tells)

-- The lines of a sweep were written, with a doubt or without, and nothing told; or there are none, and nothing was written, and a fault told;
-- or the text wasn't read, or an allocation failed, and nothing was written, and that told; of a failed write no more is said than that nothing
-- was told. What is told of a sweep that shows how far it is stays open.
abbrev pub SweepEnds : List ℕ → Asked → Bool → Option (List ℕ) → Option (List ℕ) → Option (List ℕ) → Option (List ℕ) → Ending → Type 0
SweepEnds octets asked shown held holds told tells Planned = WritesSweep octets asked shown held holds told tells Planned
SweepEnds octets asked shown held holds told tells Doubted = WritesSweep octets asked shown held holds told tells Doubted
SweepEnds octets asked shown held holds told tells Refused = IsUnsweepable octets asked × Keeps held holds × IfHidden shown (TellsFault told tells)
SweepEnds octets asked shown held holds told tells Failed = Keeps held holds × IfHidden shown (TellsInput told tells)
SweepEnds octets asked shown held holds told tells Unwritten = IfHidden shown (Keeps told tells)
