-- The report on a device that a document describes, by a capture.
--     IsJudged     this is it
--     IsUnjudged   why there is none
--     Judges       what stands on both writers, and the status
use Rattle.std.specs.Prelude.{ℕ, ◌≡◌, ◌⊎◌, ⊤, Bool, List, [], Option, Result, Ok, Err}
use Rattle.std.specs.Io.KnownBytes.{Appends, Keeps}
use Rattle.hsr_capture_reader.specs.Capture.{CaptureFields, capture_of}
use Rattle.hsr_capture_reader.specs.Fields.{PacketFields}
use Rattle.hsr_capture_reader.specs.declared.fault.Refusal.{Refusal}
use Rattle.hsr_judging_text.specs.Judging.{IsNoVerdict, IsVerdict}
use Rattle.hsr_judging_text.specs.declared.judging.JudgeFault.{JudgeFault}
use Rattle.hsr_judging_text.specs.declared.judging.JudgeFault.TheVariants as unjudged
use Rattle.hsr_judging_text.specs.declared.report.Showing.{Showing}
use Rattle.hsr_tap_device.specs.Device.{DeviceFields}
use Rattle.hsr_tap_device.specs.Reading.{device_of}
use Rattle.hsr_tap.specs.Reporting.{TellsVerdict}
use Rattle.hsr_tap.specs.Tapping.{AreInOrder}
use Rattle.hsr_tap.specs.declared.fault.Fault.{Fault}
use Rattle.hsr_tap.specs.declared.fault.Fault.TheVariants.{Capture, Device, Judge, Read, Write, Memory}
use Rattle.hsr_tap.specs.declared.reporting.Report.{Report}

-- a device, by the packets of a capture in the order of time, has this report, which ends with this verdict
pub record HasReport (device : DeviceFields) (showing : Showing) (capture : CaptureFields) (text : List ℕ) (conforms : Bool) : Type 0 where
  pub packets : List PacketFields
  pub in_order : AreInOrder capture.packets packets
  pub is_verdict : IsVerdict device capture.interfaces packets capture.end showing [] text conforms

-- a document describes a device, octets are a capture, and this is the report
pub record IsJudged (document : List ℕ) (showing : Showing) (fcs : ℕ) (octets : List ℕ) (text : List ℕ) (conforms : Bool) : Type 0 where
  pub device : DeviceFields
  pub capture : CaptureFields
  pub is_device : device_of document ≡ Ok device
  pub is_capture : capture_of fcs octets ≡ Ok capture
  pub has_report : HasReport device showing capture text conforms

-- a document describes a device; octets are no capture
pub record IsUncaught (document : List ℕ) (fcs : ℕ) (octets : List ℕ) (refusal : Refusal) : Type 0 where
  pub device : DeviceFields
  pub is_device : device_of document ≡ Ok device
  pub is_refused : capture_of fcs octets ≡ Err refusal

-- a device, by the packets of a capture in the order of time, has no verdict, for this reason
pub record HasNoVerdict (device : DeviceFields) (capture : CaptureFields) (fault : JudgeFault) : Type 0 where
  pub packets : List PacketFields
  pub in_order : AreInOrder capture.packets packets
  pub is_no_verdict : IsNoVerdict device capture.interfaces packets capture.end fault

-- a document describes a device, and octets are a capture, by which it has no verdict, for this reason
pub record IsUnfit (document : List ℕ) (fcs : ℕ) (octets : List ℕ) (fault : JudgeFault) : Type 0 where
  pub device : DeviceFields
  pub capture : CaptureFields
  pub is_device : device_of document ≡ Ok device
  pub is_capture : capture_of fcs octets ≡ Ok capture
  pub has_no_verdict : HasNoVerdict device capture fault

-- The first of these: the document describes no device, the octets are no capture, the capture doesn't fit the device, there are no tables
-- of as many entries as the device has. A reader may fail, and room may be refused, at any time.
abbrev pub IsUnjudged : List ℕ → ℕ → List ℕ → Fault → Type 0
IsUnjudged document fcs octets (Device fault) = device_of document ≡ Err fault
IsUnjudged document fcs octets (Capture refusal) = IsUncaught document fcs octets refusal
IsUnjudged document fcs octets (Judge fault) = IsUnfit document fcs octets fault
IsUnjudged document fcs octets Read = ⊤
IsUnjudged document fcs octets Memory = ⊤
IsUnjudged document fcs octets fault = ⊥

-- The report was written, all of it, and this is its verdict; or nothing was, for this reason; or the writer failed.
abbrev pub Reports : List ℕ → Showing → ℕ → List ℕ → Option (List ℕ) → Option (List ℕ) → Result Bool Fault → Type 0
Reports document showing fcs octets held holds (Ok conforms) =
    (text : List ℕ) × IsJudged document showing fcs octets text conforms × Appends held holds text
Reports document showing fcs octets held holds (Err fault) = (IsUnjudged document fcs octets fault × Keeps held holds) ⊎ (fault ≡ Write)

pub record Judges (document : List ℕ) (showing : Showing) (fcs : ℕ) (octets : List ℕ) (held holds told tells : Option (List ℕ)) (code : ℕ) : Type 0 where
  pub ended : Result Bool Fault
  pub reports : Reports document showing fcs octets held holds ended
  pub is_told : TellsVerdict told tells ended code

-- ---- parts of it

-- room may be refused
abbrev pub IsUnreported : DeviceFields → CaptureFields → JudgeFault → Type 0
IsUnreported device capture unjudged.NoMemory = ⊤
IsUnreported device capture fault = HasNoVerdict device capture fault
