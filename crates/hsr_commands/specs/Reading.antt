-- What a text says: a scenario, or why it is none.
use Rattle.std.specs.Prelude.{◌≡◌, List, ℕ, Result, Err, if◌then◌else◌}
use Rattle.std.specs.Str.{is_utf8}
use Rattle.hsr_scenario.specs.Meaning.{Meant, meaning}
use Rattle.hsr_scenario.specs.declared.fault.ScenarioFault.{ScenarioFault}
use Rattle.hsr_scenario.specs.declared.fault.Spot.TheVariants as spot
use Rattle.hsr_scenario.specs.declared.fault.What.{What}
use Rattle.hsr_scenario.specs.declared.fault.What.TheVariants as what
use Rattle.hsr_commands.specs.declared.fault.Fault.{Fault}
use Rattle.hsr_commands.specs.declared.fault.Fault.TheVariants.{Scenario, Memory}

-- what octets mean: text in UTF-8 what it means, others no scenario
abbrev pub scenario_of : List ℕ → Result Meant ScenarioFault
scenario_of octets = if is_utf8 octets then meaning octets else Err (record { spot = spot.Top; what = what.Text })

-- what is said of a scenario, by its text
abbrev pub Said : Type 0
Said = Result Meant ScenarioFault

-- there is no scenario
abbrev pub IsNoScenario : Said → Fault → Type 0
IsNoScenario said (Scenario fault) = said ≡ Err fault
IsNoScenario said Memory = Unit {0}
IsNoScenario said _ = ⊥

-- a text that can't be read for memory is a fault of memory
abbrev pub text_fault : ScenarioFault → What → Fault
text_fault fault what.NoMemory = Memory
text_fault fault w = Scenario fault
