-- What a page says of a plan's sweeps, and of what faults cut off.
--     IsSweepOf      a sweep of a plan, with its rows
--     AreFaultRows   what each link and each node that is off cuts off of a plan
--     IsBareOf       both, of a plan without its own events
use Rattle.std.specs.Prelude.{ℕ, ◌≡◌, ◌⊎◌, ⊤, Bool, true, false, List, length, Option, Some, None}
use Rattle.hsr_certify_text.specs.Coarse.{coarse}
use Rattle.hsr_routes.specs.Routes.{bare}
use Rattle.hsr_faults.specs.Sweep.{Swept as Faulted}
use Rattle.hsr_plan_text.specs.Plan.{Plan}
use Rattle.hsr_plan_schedule.specs.Meaning.{Meaning, Means}
use Rattle.hsr_plan_scenario.specs.Refusals.{MeansNothing}
use Rattle.hsr_plan_page.specs.declared.facts.OutageRow.{OutageRow}
use Rattle.hsr_plan_sweep.specs.Refusals.{IsUnswept}
use Rattle.hsr_naming.specs.declared.naming.Naming.{Naming}
use Rattle.hsr_plan_sweep.specs.Swept.{IsNamingOf, IsPlayedPlan}
use Rattle.hsr_plan_sweep.specs.declared.asked.Asked.{Asked as SweepAsked}
use Rattle.hsr_plan_sweep.specs.declared.sweeping.SweptPlan.{SweptPlan}
use Rattle.hsr_plan_report.specs.Cases.{AreCaseRows}
use Rattle.hsr_plan_report.specs.Outages.{AreOutageRows, all_faults}
use Rattle.hsr_plan_report.specs.declared.asked.Asked.{Asked}
use Rattle.hsr_plan_report.specs.declared.gathered.Bare.{Bare}
use Rattle.hsr_plan_report.specs.declared.gathered.Swept.{Swept}

abbrev pub asked_with : Asked → Bool → SweepAsked
asked_with asked without_events = record { at = asked.at; without_events = without_events; pairs = false; part = None; limit_load = asked.limit_load; limit_latency = asked.limit_latency }

-- ---- sweeps

-- each run that was played has its row
pub record IsSweep (played : SweptPlan) (swept : Swept) : Type 0 where
  pub same : swept.played ≡ played
  pub naming : Naming
  pub is_naming : IsNamingOf played.meaning.nodes naming
  pub rows : AreCaseRows naming played.plays.items (length played.plays.items) swept.rows.items

pub record IsSweepOf (plan : Plan) (asked : SweepAsked) (swept : Swept) : Type 0 where
  pub played : IsPlayedPlan plan asked swept.played.meaning swept.played.plays.items
  pub naming : Naming
  pub is_naming : IsNamingOf swept.played.meaning.nodes naming
  pub rows : AreCaseRows naming swept.played.plays.items (length swept.played.plays.items) swept.rows.items

-- ---- faults

-- what is meant, without its own moves of copies, and with a drain behind all
abbrev pub faulted : Option ℕ → Meaning → Faulted
faulted within m = record { net = bare m.topology.places m.topology.links; orders = coarse m.orders; within = within }

abbrev pub AreFaultRowsOf : Meaning → Option ℕ → List OutageRow → Type 0
AreFaultRowsOf m within rows =
    AreOutageRows (faulted within m) (all_faults (faulted within m).net) (length (all_faults (faulted within m).net)) rows

abbrev pub AreFaultRows : Plan → Option ℕ → List OutageRow → Type 0
AreFaultRows plan within rows = (m : Meaning) × Means plan m × AreFaultRowsOf m within rows

-- ---- without events

abbrev pub IfSwept : Plan → Asked → Option Swept → Type 0
IfSwept plan asked None = ⊤
IfSwept plan asked (Some swept) = IsSweepOf plan (asked_with asked true) swept

pub record IsBareOf (plan : Plan) (asked : Asked) (it : Bare) : Type 0 where
  pub outages : AreFaultRows plan asked.within it.outages.items
  pub swept : IfSwept plan asked it.swept

abbrev pub IsUnreportedBare : Plan → Asked → Type 0
IsUnreportedBare plan asked = MeansNothing plan ⊎ IsUnswept plan (asked_with asked true)
