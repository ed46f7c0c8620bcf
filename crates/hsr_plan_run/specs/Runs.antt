-- What is shown of a plan's run, and why there is none.
--     IsRunOf     what is shown of the run of a plan
--     IsRunIn     the same of what octets say as a plan
--     IsUnrun     and that they have none
use Rattle.std.specs.Prelude.{ℕ, ◌≡◌, ◌⊎◌, ⊤, List, Option, Result, Ok, Err}
use Rattle.std.specs.Str.{IsUtf8}
use Rattle.hsr_options.specs.declared.chosen.Showing.{Showing}
use Rattle.hsr_commands.specs.ScenarioRun.{IsReported}
use Rattle.hsr_commands.specs.declared.shown.ShownRun.{ShownRun}
use Rattle.hsr_plan_text.specs.Meaning.{plan_of}
use Rattle.hsr_plan_text.specs.Plan.{Plan}
use Rattle.hsr_plan_text.specs.declared.fault.PlanFault.{PlanFault}
use Rattle.hsr_plan_schedule.specs.Meaning.{Meaning}
use Rattle.hsr_plan_hops.specs.Moving.{MeansMoved}
use Rattle.hsr_plan_scenario.specs.Runs.{IsUnrunOf}
use Rattle.hsr_plan_scenario.specs.Says.{names_meant_by, scenario_meant}

-- ---- a run

-- What a plan means in a world with tables of `capacity` entries is played, and this is shown of the run: just what is shown of the run of a
-- scenario that is read as what is meant, and that has the names that are meant.
pub record IsRunOf (capacity : ℕ) (showing : Showing) (folder : Option (List ℕ)) (plan : Plan) (shown : ShownRun) : Type 0 where
  pub meaning : Meaning
  pub means : MeansMoved capacity plan meaning
  pub reported : IsReported capacity showing folder (Ok (scenario_meant meaning)) (Ok (names_meant_by meaning)) shown

-- octets are a text, and this is shown of the run of what it says as a plan
abbrev pub IsRunIn : ℕ → Showing → Option (List ℕ) → List ℕ → ShownRun → Type 0
IsRunIn capacity showing folder octets shown = IsUtf8 octets × ((plan : Plan) × (plan_of octets ≡ Ok plan) × IsRunOf capacity showing folder plan shown)

-- ---- no run

abbrev pub IsUnrunIf : ℕ → Result Plan PlanFault → Type 0
IsUnrunIf capacity (Ok plan) = IsUnrunOf capacity plan
IsUnrunIf capacity (Err fault) = ⊤

-- octets are no text; or one that is no plan, or a plan that has no finished run
abbrev pub IsUnrun : ℕ → List ℕ → Type 0
IsUnrun capacity octets = (¬ IsUtf8 octets) ⊎ IsUnrunIf capacity (plan_of octets)
