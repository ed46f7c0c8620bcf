-- What `certify` tells of a scenario.
--     setup_in      what a verdict is on
--     IsFoundOf     a text is a scenario, and this is found of it
--     CertifyEnds   how `certify` ends, and what it wrote
use Rattle.std.specs.Prelude.{ℕ, ◌≡◌, Bool, true, false, List, Option, Ok}
use Rattle.std.specs.Io.KnownBytes.{Appends, Keeps}
use Rattle.hsr_table_size.specs.Sizes.{capacity_of}
use Rattle.hsr_scenario.specs.Meaning.{Meant}
use Rattle.hsr_scenario.specs.declared.steps.Order.{Order}
use Rattle.hsr_plays.specs.Setup.{Setup}
use Rattle.hsr_certify.specs.Verdict.{setup_of}
use Rattle.hsr_certify_text.specs.Coarse.{coarse}
use Rattle.hsr_certify_text.specs.Found.{IsFound}
use Rattle.hsr_certify_text.specs.Words.{verdict_line}
use Rattle.hsr_certify_text.specs.declared.verdict.Verdict.{Verdict}
use Rattle.hsr_certify_text.specs.declared.verdict.Verdict.TheVariants as verdict
use Rattle.hsr_commands.specs.Reading.{IsNoScenario, Said}
use Rattle.hsr_commands.specs.declared.fault.Fault.TheVariants.{Read, Write}
use Rattle.hsr_commands.specs.declared.fault.Status.{Status}
use Rattle.hsr_commands.specs.declared.fault.Status.TheVariants.{Certified, Fault as Stopped, Doubt, Open}
use Rattle.hsr_certifying.specs.declared.question.Question.{Question}
use Rattle.hsr_certifying.specs.declared.running.Told.{Told}

-- ---- what is found

-- the steps of a scenario; or those that move no copy and inject none, and a drain behind them
abbrev pub steps_of : Bool → List Order → List Order
steps_of true steps = coarse steps
steps_of false steps = steps

-- the nodes and links of a scenario, its room, tables of the size that is asked for, and these steps
abbrev pub setup_in : Question → Meant → Setup
setup_in q meant = setup_of meant.topology meant.capacity (capacity_of q.table) (steps_of q.is_coarse meant.steps) q.within

-- a text is a scenario, and this is found of it
pub record IsFoundOf (q : Question) (said : Said) (verdict : Verdict) : Type 0 where
  pub meant : Meant
  pub means : said ≡ Ok meant
  pub found : IsFound (setup_in q meant) verdict

-- ---- how it is written

abbrev pub status_of : Verdict → Status
status_of (verdict.Certified certified) = Certified
status_of (verdict.Doubted doubt) = Doubt

-- a verdict that is found, with its line
abbrev pub IsToldOf : Question → Said → Told → Type 0
IsToldOf q said told = IsFoundOf q said told.verdict × (told.line.items ≡ verdict_line told.verdict)

-- the line was written, and the status tells what was found; or the writer failed
abbrev pub IsDelivered : Option (List ℕ) → Option (List ℕ) → List ℕ → Verdict → Status → Type 0
IsDelivered held holds line found Certified = (Certified ≡ status_of found) × Appends held holds line
IsDelivered held holds line found Doubt = (Doubt ≡ status_of found) × Appends held holds line
IsDelivered held holds line found Open = ⊥
IsDelivered held holds line found (Stopped Write) = Unit {0}
IsDelivered held holds line found (Stopped fault) = ⊥

-- a verdict was found, its line was written, and the status tells it
pub record IsTold (q : Question) (said : Said) (held holds : Option (List ℕ)) (status : Status) : Type 0 where
  pub verdict : Verdict
  pub is_found : IsFoundOf q said verdict
  pub tells : status ≡ status_of verdict
  pub written : Appends held holds (verdict_line verdict)

-- How `certify` ends, and what it wrote: the line of a verdict on the scenario; or nothing, since the text is none, or reading or memory
-- failed. Of a failed write no more is said than that there was a verdict.
abbrev pub CertifyEnds : Question → Said → Option (List ℕ) → Option (List ℕ) → Status → Type 0
CertifyEnds q said held holds Certified = IsTold q said held holds Certified
CertifyEnds q said held holds Doubt = IsTold q said held holds Doubt
CertifyEnds q said held holds Open = ⊥
CertifyEnds q said held holds (Stopped Read) = Keeps held holds
CertifyEnds q said held holds (Stopped Write) = (found : Verdict) × IsFoundOf q said found
CertifyEnds q said held holds (Stopped fault) = IsNoScenario said fault × Keeps held holds
