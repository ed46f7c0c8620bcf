-- How a run over a plan or a scenario ends, what it wrote, and what it told.
use Rattle.std.specs.Prelude.{◌≡◌, ◌⊎◌, ⊤, ℕ, List, ◌++◌, codes, true, Option}
use Rattle.std.specs.Fmt.{decimal}
use Rattle.std.specs.Io.KnownBytes.{Appends, Keeps}
use Rattle.hsr_finished_run.specs.Disagree.{disagree_code}
use Rattle.hsr_finished_run.specs.declared.disagree.Disagree.{Disagree}
use Rattle.hsr_plan_text.specs.Words.{is_title}
use Rattle.hsr_plan_scenario.specs.Input.{input_line}
use Rattle.hsr_plan_scenario.specs.Refusals.{IsLeftOpen, IsNoScenario, IsUnplanned}
use Rattle.hsr_plan_scenario.specs.Says.{IsScenario, SaysPlan}
use Rattle.hsr_text.specs.declared.whole.InputFault.{InputFault}
use Rattle.hsr_plan_scenario.specs.declared.planning.Ending.{Ending}
use Rattle.hsr_plan_scenario.specs.declared.planning.Ending.TheVariants.{Planned, Doubted, Refused, Failed, Unwritten}

abbrev pub code_of : Ending → ℕ
code_of Planned = 0
code_of Doubted = 2
code_of Refused = 1
code_of Failed = 1
code_of Unwritten = 1

-- a text was written, or the writer failed
abbrev pub IsDelivered : Option (List ℕ) → Option (List ℕ) → List ℕ → Ending → Type 0
IsDelivered held holds text Planned = Appends held holds text
IsDelivered held holds text Doubted = ⊥
IsDelivered held holds text Refused = ⊥
IsDelivered held holds text Failed = ⊥
IsDelivered held holds text Unwritten = ⊤

-- one line was told: `fault: `, and why, without a control character
abbrev pub TellsFault : Option (List ℕ) → Option (List ℕ) → Type 0
TellsFault told tells = (why : List ℕ) × (is_title why ≡ true) × Appends told tells (codes "fault: " ++ why ++ codes "\n")

-- one line was told of a text that wasn't read, or of a failed allocation
abbrev pub TellsInput : Option (List ℕ) → Option (List ℕ) → Type 0
TellsInput told tells = (fault : InputFault) × Appends told tells (input_line fault)

-- a fault was told because this holds, or one of memory
abbrev pub TellsWhy : Type 0 → Option (List ℕ) → Option (List ℕ) → Ending → Type 0
TellsWhy P told tells Refused = P × TellsFault told tells
TellsWhy P told tells Failed = TellsInput told tells
TellsWhy P told tells _ = ⊥

-- The scenario that a plan means was written, and nothing told; or there is none, and nothing was written, and a fault told; or the text
-- wasn't read, or an allocation failed, and nothing was written, and that told; of a failed write no more is said than that nothing was told.
abbrev pub Ends : ℕ → List ℕ → Option (List ℕ) → Option (List ℕ) → Option (List ℕ) → Option (List ℕ) → Ending → Type 0
Ends capacity octets held holds told tells Planned = (text : List ℕ) × SaysPlan capacity octets text × Appends held holds text × Keeps told tells
Ends capacity octets held holds told tells Doubted = ⊥
Ends capacity octets held holds told tells Refused = IsUnplanned capacity octets × Keeps held holds × TellsFault told tells
Ends capacity octets held holds told tells Failed = Keeps held holds × TellsInput told tells
Ends capacity octets held holds told tells Unwritten = Keeps told tells

-- two lines were told of a run that isn't closed: `fault: check ` and the number of the cause, then `explain: ` and what it means
abbrev pub TellsOpen : Disagree → Option (List ℕ) → Option (List ℕ) → Type 0
TellsOpen cause told tells = (why : List ℕ) × (is_title why ≡ true) × Appends told tells (codes "fault: check " ++ decimal (disagree_code cause) ++ codes "\nexplain: " ++ why ++ codes "\n")

-- a run that isn't closed was told, or a failed allocation
abbrev pub TellsWhyOpen : Disagree → Option (List ℕ) → Option (List ℕ) → Ending → Type 0
TellsWhyOpen cause told tells Refused = TellsOpen cause told tells
TellsWhyOpen cause told tells Failed = TellsInput told tells
TellsWhyOpen cause told tells _ = ⊥

-- Octets are a scenario that is played to its end, and nothing was told; or they are none, and a fault was told; or its run isn't closed,
-- and that was told; or it wasn't read, or an allocation failed, and that was told.
abbrev pub Checks : List ℕ → Option (List ℕ) → Option (List ℕ) → Ending → Type 0
Checks octets told tells Planned = IsScenario octets × Keeps told tells
Checks octets told tells Doubted = ⊥
Checks octets told tells Refused = (IsNoScenario octets × TellsFault told tells) ⊎ ((cause : Disagree) × IsLeftOpen octets cause × TellsOpen cause told tells)
Checks octets told tells Failed = TellsInput told tells
Checks octets told tells Unwritten = ⊥
