-- What is found of a finished run, and what its report tells.
--     IsFound       what its audit finds
--     IsSpending    what it spent of its tables
--     TellsAsked    the parts that are asked for
--     IsReportOf    its report
use Rattle.std.specs.Prelude.{ℕ, ◌≡◌, Bool, true, false, List, [], ◌++◌, length}
use Rattle.hsr_audit.specs.Budgeted.{IsFirstBreach, IsMost}
use Rattle.hsr_audit.specs.Certificate.{Certified as Entry, IsCertified}
use Rattle.hsr_audit.specs.Doubts.{IsFirst, of_network, of_ring}
use Rattle.hsr_audit.specs.NetworkCertificate.{IsNetworkCertified}
use Rattle.hsr_audit.specs.declared.breach.BudgetFault.TheVariants as breach
use Rattle.hsr_deliveries.specs.Delivered.{Delivery, deliveries}
use Rattle.hsr_latency.specs.Latencies.{latencies}
use Rattle.hsr_naming.specs.declared.naming.Naming.{Naming}
use Rattle.hsr_run_laws.specs.Budget.{IsBudgetHeld}
use Rattle.hsr_run_laws.specs.Run.{Run}
use Rattle.hsr_table_demand.specs.Needs.{IsMost as IsMostNeeded}
use Rattle.hsr_table_demand.specs.declared.most.Needed.{Needed}
use Rattle.hsr_options.specs.declared.chosen.Asked.{Asked}
use Rattle.hsr_options.specs.declared.chosen.Scope.{Scope}
use Rattle.hsr_options.specs.declared.chosen.Scope.TheVariants.{Ring, Network}
use Rattle.hsr_report.specs.DeliveryLines.{delivery_lines}
use Rattle.hsr_report.specs.LatencyLines.{latency_lines}
use Rattle.hsr_report.specs.LoadLines.{TellsLoad}
use Rattle.hsr_report.specs.Report.{needed_line, report, spending_line}
use Rattle.hsr_report.specs.declared.finding.Finding.{Finding}
use Rattle.hsr_report.specs.declared.finding.Finding.TheVariants as finding
use Rattle.hsr_report.specs.declared.spending.Spending.{Spending}
use Rattle.hsr_report.specs.declared.spending.Spending.TheVariants.{Within, Late, Crowded}

-- the chosen audit of a run found this: a certificate with the number of its sends, or its first doubt
abbrev pub IsFound : Scope → Run → Finding → Type 0
IsFound Ring run (finding.Certified sends) = (listed : List Entry) × IsCertified run listed × (sends ≡ length listed)
IsFound Ring run (finding.Doubt doubt) = IsFirst of_ring run doubt
IsFound Network run (finding.Certified sends) = (listed : List Delivery) × IsNetworkCertified run listed × (sends ≡ length listed)
IsFound Network run (finding.Doubt doubt) = IsFirst of_network run doubt

-- a run is within budget, with the greatest number of sends in a window, or this breaks it first
abbrev pub IsSpending : Run → Spending → Type 0
IsSpending run (Within most) = IsBudgetHeld run × IsMost run most
IsSpending run (Late k place) = IsFirstBreach run (breach.Late k place)
IsSpending run (Crowded moment) = IsFirstBreach run (breach.Crowded moment)

-- ---- the parts that are asked for

-- how long sends took
abbrev pub TellsLatency : Naming → Run → List ℕ → Type 0
TellsLatency naming run text = text ≡ latency_lines naming (latencies run)

-- who got each send
abbrev pub TellsDeliveries : Naming → Run → List ℕ → Type 0
TellsDeliveries naming run text = text ≡ delivery_lines naming (deliveries run)

-- how many entries were needed, and where first
pub record TellsNeeded (naming : Naming) (run : Run) (text : List ℕ) : Type 0 where
  pub needed : Needed
  pub most : IsMostNeeded run needed
  pub line : text ≡ needed_line naming needed

-- what was spent of the tables
pub record TellsBudget (naming : Naming) (run : Run) (text : List ℕ) : Type 0 where
  pub spent : Spending
  pub is_spent : IsSpending run spent
  pub line : text ≡ spending_line naming spent

-- a part of a report tells this, where it is asked for; else there is none
abbrev pub IsPart : Bool → (List ℕ → Type 0) → List ℕ → Type 0
IsPart false Tells text = text ≡ []
IsPart true Tells text = Tells text

-- the parts that are asked for, one behind the other
pub record TellsAsked (naming : Naming) (asked : Asked) (run : Run) (text : List ℕ) : Type 0 where
  pub load : List ℕ
  pub latency : List ℕ
  pub deliveries : List ℕ
  pub needed : List ℕ
  pub budget : List ℕ
  pub of_load : IsPart asked.load (TellsLoad naming run) load
  pub of_latency : IsPart asked.latency (TellsLatency naming run) latency
  pub of_deliveries : IsPart asked.deliveries (TellsDeliveries naming run) deliveries
  pub of_needed : IsPart asked.needed (TellsNeeded naming run) needed
  pub of_budget : IsPart asked.budget (TellsBudget naming run) budget
  pub all : text ≡ load ++ latency ++ deliveries ++ needed ++ budget

-- ---- the report

-- of a run of which the chosen audit found this, with the parts that are asked for, by this naming
pub record IsReportOf (naming : Naming) (scope : Scope) (asked : Asked) (run : Run) (found : Finding) (text : List ℕ) : Type 0 where
  pub parts : List ℕ
  pub are_parts : TellsAsked naming asked run parts
  pub is_report : text ≡ report naming scope run found parts
