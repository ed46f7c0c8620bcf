-- Faults with their places, and what code gives.
use Rattle.std.specs.Prelude.{◌≡◌, ℕ, List, length, Result, Ok, Err}
use Rattle.toml.specs.Data.{Members}
use Rattle.hsr_toml.specs.Fallible.{each_table, UnlessMemory, Gives as Told}
use Rattle.hsr_scenario.specs.Fault.{is_memory, is_memory_at}
use Rattle.hsr_scenario.specs.declared.fault.ScenarioFault.{ScenarioFault}
use Rattle.hsr_scenario.specs.declared.fault.Spot.{Spot}
use Rattle.hsr_scenario.specs.declared.fault.What.{What}

-- a fault with its place
abbrev pub at_spot : {A : Type 0} → Spot → Result A What → Result A ScenarioFault
at_spot spot (Ok x) = Ok x
at_spot spot (Err e) = Err (record { spot = spot; what = e })

-- each table of a list, read after those before it; a fault is at its table's number
abbrev pub each : {A : Type 0} → (ℕ → Spot) → (List A → Members → Result A What) → List A → List Members → Result (List A) ScenarioFault
each spot read seen tables = each_table (λ seen ms. at_spot (spot (length seen)) (read seen ms)) seen tables

-- what is told is what the definition says, unless memory ran out

abbrev pub FailsAt : {Y : Type 0} → ScenarioFault → What → Result Y ScenarioFault → Type 0
FailsAt fault what said = UnlessMemory (is_memory what) (said ≡ Err fault)

abbrev pub Gives : {X Y : Type 0} → (X → Y) → Result X What → Result Y What → Type 0
Gives view told said = Told is_memory view told said

abbrev pub GivesAt : {X Y : Type 0} → (X → Y) → Result X ScenarioFault → Result Y ScenarioFault → Type 0
GivesAt view told said = Told is_memory_at view told said
