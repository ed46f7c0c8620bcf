-- What it is for a text to be the scenario that a plan means.
use Rattle.std.specs.Prelude.{◌≡◌, ◌<◌, ⊤, ℕ, List, ◌++◌, codes, length, map, Option, Some, None, Result, Ok, Err}
use Rattle.std.specs.Str.{IsUtf8}
use Rattle.hsr_finished_run.specs.Finished.{Finished}
use Rattle.hsr_ring.specs.Finishing.{IsFinishedBy}
use Rattle.hsr_scenario.specs.Meaning.{Meant, meaning}
use Rattle.hsr_scenario.specs.Names.{NamesMeant, names_meant}
use Rattle.hsr_scenario.specs.Streams.{streams_of}
use Rattle.hsr_plan_text.specs.Plan.{Outline, Plan}
use Rattle.hsr_plan_text.specs.Meaning.{plan_of}
use Rattle.hsr_plan_text.specs.declared.fault.PlanFault.{PlanFault}
use Rattle.hsr_plan_schedule.specs.Meaning.{Meaning}
use Rattle.hsr_plan_hops.specs.Moving.{MeansMoved}
use Rattle.hsr_plan_scenario.specs.Sends.{sent_by_all}
use Rattle.hsr_plan_scenario.specs.Spelled.{scenario_text}

-- the scenario that is meant
abbrev pub scenario_meant : Meaning → Meant
scenario_meant m = record { topology = m.topology; capacity = m.capacity; steps = m.orders }

-- from which streams the sends of its nodes are
abbrev pub streams_meant : Meaning → List (List (List ℕ))
streams_meant m = streams_of (length m.nodes) (sent_by_all m.streams m.sends m.orders)

-- with the names of its nodes, and the streams of their sends
abbrev pub named_with : Meaning → List (List (List ℕ)) → NamesMeant
named_with m streams = record { topology = m.topology; names = map (λ node. node.name) m.nodes; streams = streams }

abbrev pub names_meant_by : Meaning → NamesMeant
names_meant_by m = named_with m (streams_meant m)

-- a text begins with a title as a comment, if there is one
abbrev pub IsTitled : Option (List ℕ) → List ℕ → Type 0
IsTitled None text = ⊤
IsTitled (Some title) text = (rest : List ℕ) × (text ≡ codes "# " ++ title ++ codes "\n" ++ rest)

-- octets are a text that is read as the scenario that is meant, its nodes have the names that are meant, its sends are from the streams that are
-- meant, and it begins with the plan's title
pub record Tells (outline : Outline) (m : Meaning) (text : List ℕ) : Type 0 where
  pub is_text : IsUtf8 text
  pub means : meaning text ≡ Ok (scenario_meant m)
  pub named : names_meant text ≡ Ok (names_meant_by m)
  pub titled : IsTitled outline.title text

-- a text is spelled as what a plan means in a world with tables of `capacity` entries, and is read as that, with the plan's title
abbrev pub Says : ℕ → Plan → List ℕ → Type 0
Says capacity plan text = (m : Meaning) × MeansMoved capacity plan m × (text ≡ scenario_text plan.outline m) × Tells plan.outline m text

abbrev pub SaysIf : ℕ → Result Plan PlanFault → List ℕ → Type 0
SaysIf capacity (Ok plan) text = Says capacity plan text
SaysIf capacity (Err fault) text = ⊥

-- octets are a text, and another text is the scenario of what it means as a plan
abbrev pub SaysPlan : ℕ → List ℕ → List ℕ → Type 0
SaysPlan capacity plan text = IsUtf8 plan × SaysIf capacity (plan_of plan) text

-- ---- scenarios that are played

-- how many entries the tables have with which a scenario is tried
abbrev pub entries_tried : ℕ
entries_tried = 512

-- what is meant has nodes, and its orders lead to a finished run: none is refused, and nothing is on its way at their end
abbrev pub IsPlayed : Meant → Type 0
IsPlayed m = (0 < length m.topology.places) × ((run : Finished) × IsFinishedBy entries_tried m.topology m.capacity m.steps run)

-- octets are a text, and that is a scenario that is played to its end
abbrev pub IsScenario : List ℕ → Type 0
IsScenario text = IsUtf8 text × ((m : Meant) × (meaning text ≡ Ok m) × IsPlayed m)
