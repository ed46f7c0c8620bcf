-- Why a plan isn't swept.
--     IsUncounted      nothing is counted of a plan
--     IsUnplayedAmong  nothing is counted of one of these cases
--     IsUnswept        a moment is behind the end of a plan, or the plan means nothing, or nothing is counted of one of its cases
--     IsUnsweepable    octets are no plan, or one that isn't swept
use Rattle.std.specs.Prelude.{ℕ, ◌≡◌, ◌⊎◌, nat_lt, Bool, true, false, ⊤, List, length, Contains, Option, Some, None, Result, Ok, Err}
use Rattle.std.specs.Str.{IsUtf8}
use Rattle.hsr_plan_text.specs.Plan.{Plan}
use Rattle.hsr_plan_text.specs.declared.fault.PlanFault.{PlanFault}
use Rattle.hsr_plan_schedule.specs.Meaning.{Meaning, Means}
use Rattle.hsr_plan_scenario.specs.Refusals.{MeansNothing}
use Rattle.hsr_plan_scenario.specs.Refusals as plans
use Rattle.hsr_plan_scenario.specs.Runs.{IsUnrunOf}
use Rattle.hsr_plan_sweep.specs.Cases.{cases_of}
use Rattle.hsr_plan_sweep.specs.Runs.{IfSays, IsPlayed}
use Rattle.hsr_plan_sweep.specs.Variants.{Ground, plan_in, varied}
use Rattle.hsr_plan_sweep.specs.declared.asked.Asked.{Asked}
use Rattle.hsr_plan_sweep.specs.declared.cases.Case.{Case}
use Rattle.hsr_plan_sweep.specs.declared.playing.Played.{Played}
use Rattle.hsr_plan_sweep.specs.declared.running.Trouble.{Trouble}
use Rattle.hsr_plan_sweep.specs.declared.running.Trouble.TheVariants.{Plan as Unplanned, Run, Memory}

-- ---- plans

abbrev pub IsKnown : Trouble → Type 0
IsKnown (Unplanned trouble) = plans.IsKnown trouble
IsKnown (Run fault) = ⊤
IsKnown Memory = ⊥

-- with tables of 512 entries it has no run
pub record IsUncounted (plan : Plan) : Type 0 where
  pub why : IsUnrunOf 512 plan

-- so it is with what is off in a case
abbrev pub IsUnplayed : Result Plan PlanFault → Ground → Case → Type 0
IsUnplayed said g case = IfSays said (λ plan. IsUncounted (varied g case plan))

abbrev pub IsUnplayedAmong : Result Plan PlanFault → Ground → List Case → Type 0
IsUnplayedAmong said g cases = (case : Case) × Contains cases case × IsUnplayed said g case

-- a case is counted, or this is why not
abbrev pub TellsCase : Result Plan PlanFault → Ground → Case → Result Played Trouble → Type 0
TellsCase said g case (Ok played) = IsPlayed said g case played
TellsCase said g case (Err trouble) = IsKnown trouble → IsUnplayed said g case

-- ---- sweeps

-- a moment is behind the end, where there is one
abbrev pub is_behind : Option ℕ → ℕ → Bool
is_behind None at = false
is_behind (Some until) at = nat_lt until at

-- among the nodes and links of what is meant
abbrev pub ground : ℕ → Meaning → Ground
ground at m = record { at = at; nodes = m.nodes; links = m.topology.links }

-- all cases that are asked for of what is meant
abbrev pub cases_in : Asked → Meaning → List Case
cases_in asked m = cases_of asked (length m.topology.links) (length m.topology.places)

-- a moment is behind the end of a plan; or the plan means nothing; or nothing is counted of one of its cases
abbrev pub IsUnswept : Plan → Asked → Type 0
IsUnswept plan asked =
    (is_behind plan.outline.until asked.at ≡ true) ⊎ (MeansNothing plan ⊎ ((m : Meaning) × Means plan m × IsUnplayedAmong (Ok plan) (ground asked.at m) (cases_in asked m)))

-- ---- texts

abbrev pub IsUnsweptIf : Result Plan PlanFault → Asked → Type 0
IsUnsweptIf (Ok plan) asked = IsUnswept plan asked
IsUnsweptIf (Err fault) asked = ⊤

-- octets are no text; or one that is no plan, or a plan that isn't swept
abbrev pub IsUnsweepable : List ℕ → Asked → Type 0
IsUnsweepable octets asked = (¬ IsUtf8 octets) ⊎ IsUnsweptIf (plan_in asked.without_events octets) asked
