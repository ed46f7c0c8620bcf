-- What is told of the faults of a scenario.
--     faults_for      each fault of one link or node, or of two as well
--     AreOutages      what each fault cuts off, in order
--     TellsOutages    a text goes on with the lines of these
use Rattle.std.specs.Prelude.{ℕ, ◌<◌, ◌≡◌, Bool, List, ◌++◌, length, count_by, slice_index_or}
use Rattle.std.specs.List.{flat_map}
use Rattle.hsr_run_laws.specs.Run.{Run}
use Rattle.hsr_plan_network.specs.Nodes.{Node}
use Rattle.hsr_faults.specs.CutOff.{IsOutage}
use Rattle.hsr_faults.specs.Fault.{faults_of_one, faults_of_two}
use Rattle.hsr_faults.specs.Sweep.{Swept, sends_of}
use Rattle.hsr_faults.specs.declared.fault.Fault.{Fault}
use Rattle.hsr_faults.specs.declared.outage.Outage.{Outage}
use Rattle.hsr_plan_outages.specs.Lines.{is_cutting, outage_text, outages_text}
use Rattle.hsr_plan_outages.specs.declared.outages.AtOnce.{AtOnce}
use Rattle.hsr_plan_outages.specs.declared.outages.AtOnce.TheVariants.{One, Two}

-- each link and each node, and for two at once each two of these behind them
abbrev pub faults_for : AtOnce → Run → List Fault
faults_for One net = faults_of_one (length net.links) (length net.places)
faults_for Two net = faults_of_one (length net.links) (length net.places) ++ faults_of_two (length net.links) (length net.places)

-- what each of the first faults cuts off
pub record AreOutages (swept : Swept) (faults : List Fault) (n : ℕ) (outages : List Outage) : Type 0 where
  pub many : length outages ≡ n
  pub each : (i : ℕ) (fault : Fault) (outage : Outage) → i < n →
      IsOutage swept.net swept.orders (sends_of swept) (slice_index_or faults i fault) (slice_index_or outages i outage)

-- the line of what one of these cuts off, among all sends
abbrev pub line_of : List Node → Swept → Outage → List ℕ
line_of nodes swept outage = outage_text nodes swept.net.links (length (sends_of swept)) outage

-- what was put behind a text is the line of a fault, and whether it cuts something off
pub record TellsLine (nodes : List Node) (swept : Swept) (fault : Fault) (old new : List ℕ) (cutting : Bool) : Type 0 where
  pub outage : Outage
  pub is : IsOutage swept.net swept.orders (sends_of swept) fault outage
  pub told : new ≡ old ++ line_of nodes swept outage
  pub cuts : cutting ≡ is_cutting outage

-- the lines of the first faults, and how many of these cut something off
pub record TellsLines (nodes : List Node) (swept : Swept) (faults : List Fault) (n : ℕ) (old new : List ℕ) (cutting : ℕ) : Type 0 where
  pub outages : List Outage
  pub are : AreOutages swept faults n outages
  pub told : new ≡ old ++ flat_map (line_of nodes swept) outages
  pub cuts : cutting ≡ count_by is_cutting outages

-- what was put behind a text is the text of what each fault cuts off
pub record TellsOutages (nodes : List Node) (swept : Swept) (faults : List Fault) (old new : List ℕ) : Type 0 where
  pub outages : List Outage
  pub are : AreOutages swept faults (length faults) outages
  pub told : new ≡ old ++ outages_text nodes swept.net.links (length (sends_of swept)) outages
