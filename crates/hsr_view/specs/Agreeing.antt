-- The steps of a scenario, where a run is of it.
--     AreToBeTold  they have the plan of the run, and few changes of links
--     AreStepsBy   all where they are to be told, and none otherwise
--     AreSteps     those of a scenario that is given; none without it
use Rattle.std.specs.Prelude.{ℕ, ◌≡◌, ◌≤◌, ◌⊎◌, Bool, true, false, List, [], count_by, Option, Some, None, Result, Ok, Err}
use Rattle.hsr_finished_run.specs.declared.planned.Planned.{Planned}
use Rattle.hsr_runner.specs.Plan.{plan_of}
use Rattle.hsr_scenario.specs.Meaning.{Meant, meaning}
use Rattle.hsr_scenario.specs.declared.fault.ScenarioFault.{ScenarioFault}
use Rattle.hsr_scenario.specs.declared.steps.Order.{Order}
use Rattle.hsr_scenario.specs.declared.steps.Order.TheVariants.{Step}
use Rattle.hsr_world_steps.specs.declared.step.Step.TheVariants.{Cut, Mend}

abbrev pub changes_link : Order → Bool
changes_link (Step (Cut link)) = true
changes_link (Step (Mend link)) = true
changes_link _ = false

-- The steps have the same sends, supervisions and ages, in the same order and at the same moments, as the run: what was cut and mended
-- between them was so in the run, too. A picture has no room for more than 1000 changes of links.
abbrev pub AreToBeTold : List Planned → List Order → Type 0
AreToBeTold plan orders = (plan_of orders ≡ plan) × (count_by changes_link orders ≤ 1000)

abbrev pub AreStepsBy : List Planned → List Order → List Order → Type 0
AreStepsBy plan orders told = (AreToBeTold plan orders × (told ≡ orders)) ⊎ (¬ AreToBeTold plan orders × (told ≡ []))

abbrev pub AreStepsOf : List Planned → Result Meant ScenarioFault → List Order → Type 0
AreStepsOf plan (Err fault) told = told ≡ []
AreStepsOf plan (Ok meant) told = AreStepsBy plan meant.steps told

abbrev pub AreSteps : List Planned → Option (List ℕ) → List Order → Type 0
AreSteps plan None told = told ≡ []
AreSteps plan (Some text) told = AreStepsOf plan (meaning text) told
