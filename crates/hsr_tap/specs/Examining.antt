-- The report on the health of the ring that a capture shows.
--     IsExamined   this is it
--     IsUnseen     why there is none
--     Examines     what stands on both writers, and the status
use Rattle.std.specs.Prelude.{ℕ, ◌≡◌, ◌⊎◌, ◌==◌, ⊤, nat_le, Bool, List, ◌++◌, codes, length, Option, Some, None, Result, Ok, Err}
use Rattle.std.specs.Fmt.{decimal}
use Rattle.std.specs.Io.KnownBytes.{Appends, Keeps}
use Rattle.std.specs.List.{find, flat_map}
use Rattle.std.specs.Str.{IsUtf8}
use Rattle.hsr_capture_reader.specs.Capture.{CaptureFields, capture_of}
use Rattle.hsr_capture_reader.specs.declared.fault.Refusal.{Refusal}
use Rattle.hsr_expected.specs.Expected.{expected_in}
use Rattle.hsr_health.specs.Whole.{HasTooMany, IsBounded, IsGathered, IsHealth}
use Rattle.hsr_health.specs.declared.asked.Asked.{Asked}
use Rattle.hsr_health.specs.declared.gathered.Gathered.{Gathered}
use Rattle.hsr_health.specs.declared.health.Health.{Health}
use Rattle.hsr_health_text.specs.Report.{report_text}
use Rattle.hsr_taps.specs.Asked.{ChoiceFields, PointFields}
use Rattle.hsr_tap.specs.Ends.{Tells}
use Rattle.hsr_tap.specs.Reporting.{status_of}
use Rattle.hsr_tap.specs.declared.examining.Ended.{Ended}
use Rattle.hsr_tap.specs.declared.examining.Ended.TheVariants as ended
use Rattle.hsr_tap.specs.declared.examining.Found.{Found}
use Rattle.hsr_tap.specs.declared.examining.Found.TheVariants as found
use Rattle.hsr_tap.specs.declared.examining.Looking.{Looking}
use Rattle.hsr_tap.specs.declared.examining.Seen.{Seen}
use Rattle.hsr_tap.specs.declared.examining.Seen.TheVariants as seen
use Rattle.hsr_tap.specs.declared.fault.Fault.{Fault}
use Rattle.hsr_tap.specs.declared.fault.Fault.TheVariants.{Capture, Sources, NoPlan, Read, Write, Memory}

-- ---- what is asked for

-- the sources that are expected: these, or those of a plan, if there is one; none where it is no plan
abbrev pub expected_by : List (List ℕ) → Option (List ℕ) → Option (List (List ℕ))
expected_by macs None = Some macs
expected_by macs (Some plan) = expected_in plan

abbrev pub interfaces_of : PointFields → List ℕ
interfaces_of point = point.interfaces

-- the interfaces that are named: those that alone are looked at, and those of points
abbrev pub numbers_of : ChoiceFields → List ℕ
numbers_of choice = choice.interfaces ++ flat_map interfaces_of choice.points

-- the first of these numbers that no interface has, of so many
abbrev pub missing_of : List ℕ → ℕ → Option ℕ
missing_of numbers many = find (λ number. nat_le many number) numbers

-- ---- the report

-- What the packets of a capture, in the order of time, tell of the ring's health is told. The ring is healthy where there is no reason for
-- doubt.
pub record IsOfCapture (looking : Looking) (expected : List (List ℕ)) (capture : CaptureFields) (text : List ℕ) (healthy : Bool) : Type 0 where
  pub health : Health
  pub is_health : IsHealth capture looking.asked expected health
  pub is_text : text ≡ report_text health looking.asked.choice.interfaces looking.asked.table looking.is_full
  pub is_healthy : healthy ≡ (length health.reasons.items == 0)

-- octets are a capture that has all interfaces that are named, and this is its report
pub record IsExamined (looking : Looking) (expected : List (List ℕ)) (octets text : List ℕ) (healthy : Bool) : Type 0 where
  pub capture : CaptureFields
  pub is_capture : capture_of looking.fcs octets ≡ Ok capture
  pub is_there : missing_of (numbers_of looking.asked.choice) (length capture.interfaces) ≡ None
  pub is_of : IsOfCapture looking expected capture text healthy

-- octets are a capture that lacks an interface that is named: the first such
pub record IsLacking (looking : Looking) (octets : List ℕ) (number : ℕ) : Type 0 where
  pub capture : CaptureFields
  pub is_capture : capture_of looking.fcs octets ≡ Ok capture
  pub is_missing : missing_of (numbers_of looking.asked.choice) (length capture.interfaces) ≡ Some number

-- octets are a capture that has all interfaces that are named, and this is gathered of it
pub record IsGatheredOf (looking : Looking) (octets : List ℕ) (gathered : Gathered) : Type 0 where
  pub capture : CaptureFields
  pub is_capture : capture_of looking.fcs octets ≡ Ok capture
  pub is_there : missing_of (numbers_of looking.asked.choice) (length capture.interfaces) ≡ None
  pub is_bounded : IsBounded capture
  pub is_gathered : IsGathered capture looking.asked gathered

abbrev pub IsFound : Looking → List ℕ → Found → Type 0
IsFound looking octets (found.Gathered gathered) = IsGatheredOf looking octets gathered
IsFound looking octets (found.NoInterface number) = IsLacking looking octets number

-- each capture that this was gathered of has too many sources; room may be refused
abbrev pub IsUntellable : Looking → Gathered → Fault → Type 0
IsUntellable looking gathered Sources = (capture : CaptureFields) → IsGathered capture looking.asked gathered → HasTooMany capture looking.asked
IsUntellable looking gathered Memory = ⊤
IsUntellable looking gathered fault = ⊥

-- what is seen of octets: a report, or that an interface is missing
abbrev pub IsSeen : Looking → List (List ℕ) → List ℕ → Seen → Type 0
IsSeen looking expected octets (seen.Told report) = IsExamined looking expected octets report.text.items report.is_well
IsSeen looking expected octets (seen.NoInterface number) = IsLacking looking octets number

-- The first of these: the octets are no capture, it has too many sources. A reader may fail, and room may be refused, at any time.
abbrev pub IsUnseen : Looking → List ℕ → Fault → Type 0
IsUnseen looking octets (Capture refusal) = capture_of looking.fcs octets ≡ Err refusal
IsUnseen looking octets Sources = (capture : CaptureFields) × (capture_of looking.fcs octets ≡ Ok capture) × HasTooMany capture looking.asked
IsUnseen looking octets Read = ⊤
IsUnseen looking octets Memory = ⊤
IsUnseen looking octets fault = ⊥

abbrev pub IsNoPlan : Option (List ℕ) → Type 0
IsNoPlan None = ⊥
IsNoPlan (Some plan) = IsUtf8 plan → expected_in plan ≡ None

-- ---- what is written

-- The report was written, all of it, and this is its verdict; or nothing was, since an interface is named that isn't there, or for the
-- reason of a fault; or the writer failed.
abbrev pub ShowsOf : Looking → List (List ℕ) → List ℕ → Option (List ℕ) → Option (List ℕ) → Result Ended Fault → Type 0
ShowsOf looking expected octets held holds (Ok (ended.Told healthy)) =
    (text : List ℕ) × IsExamined looking expected octets text healthy × Appends held holds text
ShowsOf looking expected octets held holds (Ok (ended.NoInterface number)) = IsLacking looking octets number × Keeps held holds
ShowsOf looking expected octets held holds (Err fault) = (IsUnseen looking octets fault × Keeps held holds) ⊎ (fault ≡ Write)

-- no sources are expected, since the text is no plan; room may be refused
abbrev pub IsUnexpected : Option (List ℕ) → Fault → Type 0
IsUnexpected plan NoPlan = IsNoPlan plan
IsUnexpected plan Memory = ⊤
IsUnexpected plan fault = ⊥

-- of the sources that are expected; or nothing was written, since the text is no plan
abbrev pub Shows : Looking → List (List ℕ) → Option (List ℕ) → List ℕ → Option (List ℕ) → Option (List ℕ) → Result Ended Fault → Type 0
Shows looking macs plan octets held holds ended =
    ((expected : List (List ℕ)) × (expected_by macs plan ≡ Some expected) × ShowsOf looking expected octets held holds ended)
    ⊎ ((fault : Fault) × (ended ≡ Err fault) × IsUnexpected plan fault × Keeps held holds)

-- The status follows from the verdict, and the other writer keeps what it has; or the line of the interface stands there, and the status is
-- 3; or that of a fault, and it is 1.
abbrev pub TellsEnded : Option (List ℕ) → Option (List ℕ) → Result Ended Fault → ℕ → Type 0
TellsEnded told tells (Ok (ended.Told healthy)) code = (code ≡ status_of healthy) × Keeps told tells
TellsEnded told tells (Ok (ended.NoInterface number)) code =
    (code ≡ 3) × Appends told tells (codes "the capture has no interface " ++ decimal number ++ codes "\n")
TellsEnded told tells (Err fault) code = Tells told tells (Err fault) code

pub record Examines (looking : Looking) (macs : List (List ℕ)) (plan : Option (List ℕ)) (octets : List ℕ) (held holds told tells : Option (List ℕ)) (code : ℕ) : Type 0 where
  pub ended : Result Ended Fault
  pub shows : Shows looking macs plan octets held holds ended
  pub is_told : TellsEnded told tells ended code
