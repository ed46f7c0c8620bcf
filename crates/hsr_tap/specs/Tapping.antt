-- What is told of a capture, and of a document that describes a device.
--     IsTold     these are its lines
--     IsUntold   why there are none
use Rattle.std.specs.Prelude.{ℕ, ◌≡◌, ⊤, List, Option, Some, None, Result, Ok, Err, IsPermutation}
use Rattle.std.specs.List.Sorted.{IsSortedByKey, IsStableByKey}
use Rattle.std.specs.Ordering.{nat_cmp}
use Rattle.hsr_capture_reader.specs.Capture.{CaptureFields, capture_of}
use Rattle.hsr_capture_reader.specs.Fields.{PacketFields}
use Rattle.hsr_capture_reader.specs.declared.fault.Refusal.{Refusal}
use Rattle.hsr_node_lines.specs.Lines.{LinesFields, lines_of}
use Rattle.hsr_node_lines.specs.declared.fault.LinesFault.{LinesFault}
use Rattle.hsr_node_lines.specs.declared.fault.LinesFault.TheVariants as unlined
use Rattle.hsr_packet_order.specs.Disorder.{moment_of}
use Rattle.hsr_tap_device.specs.Device.{DeviceFields}
use Rattle.hsr_tap_device.specs.Reading.{device_of}
use Rattle.hsr_tap_device.specs.declared.fault.DeviceFault.{DeviceFault}
use Rattle.hsr_tap.specs.declared.fault.Fault.{Fault}
use Rattle.hsr_tap.specs.declared.fault.Fault.TheVariants.{Capture, NoDevice, Device, Lines, Stimuli, Judge, Sources, NoPlanFile, NoPlan, Read, Write, Memory}

-- the packets of a file in the order of time: those of one moment as the file has them
pub record AreInOrder (filed packets : List PacketFields) : Type 0 where
  pub same : IsPermutation filed packets
  pub sorted : IsSortedByKey moment_of nat_cmp packets
  pub stable : IsStableByKey moment_of nat_cmp filed packets

-- a capture's packets, in the order of time, have these lines for a device, or none for that reason
pub record HasLines (device : Option DeviceFields) (capture : CaptureFields) (lines : Result LinesFields LinesFault) : Type 0 where
  pub packets : List PacketFields
  pub in_order : AreInOrder capture.packets packets
  pub are_lines : lines_of device capture.interfaces packets ≡ lines

abbrev pub some_of : Result DeviceFields DeviceFault → Result (Option DeviceFields) DeviceFault
some_of (Ok device) = Ok (Some device)
some_of (Err fault) = Err fault

-- the device that a document describes, if there is one
abbrev pub given_by : Option (List ℕ) → Result (Option DeviceFields) DeviceFault
given_by None = Ok None
given_by (Some document) = some_of (device_of document)

-- a document describes a device, or there is none; octets are a capture, and it has these lines
pub record IsTold (document : Option (List ℕ)) (fcs : ℕ) (octets : List ℕ) (lines : Result LinesFields LinesFault) : Type 0 where
  pub device : Option DeviceFields
  pub capture : CaptureFields
  pub is_device : given_by document ≡ Ok device
  pub is_capture : capture_of fcs octets ≡ Ok capture
  pub has_lines : HasLines device capture lines

-- a document describes a device, or there is none; octets are no capture
pub record IsNoCapture (document : Option (List ℕ)) (fcs : ℕ) (octets : List ℕ) (refusal : Refusal) : Type 0 where
  pub device : Option DeviceFields
  pub is_device : given_by document ≡ Ok device
  pub is_refused : capture_of fcs octets ≡ Err refusal

-- The first of these: the document describes no device, the octets are no capture, its packets have no lines. A reader may fail, and
-- room may be refused, at any time.
abbrev pub IsUntold : Option (List ℕ) → ℕ → List ℕ → Fault → Type 0
IsUntold document fcs octets (Device fault) = given_by document ≡ Err fault
IsUntold document fcs octets (Capture refusal) = IsNoCapture document fcs octets refusal
IsUntold document fcs octets (Lines fault) = IsTold document fcs octets (Err fault)
IsUntold document fcs octets NoDevice = ⊥
IsUntold document fcs octets (Stimuli fault) = ⊥
IsUntold document fcs octets (Judge fault) = ⊥
IsUntold document fcs octets Sources = ⊥
IsUntold document fcs octets NoPlanFile = ⊥
IsUntold document fcs octets NoPlan = ⊥
IsUntold document fcs octets Write = ⊥
IsUntold document fcs octets Read = ⊤
IsUntold document fcs octets Memory = ⊤

-- ---- parts of it

-- room may be refused
abbrev pub IsUnlined : Option DeviceFields → CaptureFields → LinesFault → Type 0
IsUnlined device capture unlined.NoMemory = ⊤
IsUnlined device capture fault = HasLines device capture (Err fault)

-- for whatever document describes this device
abbrev pub Describes : Option DeviceFields → (Option (List ℕ) → Type 0) → Type 0
Describes device P = (document : Option (List ℕ)) → given_by document ≡ Ok device → P document

-- a reader failed, or room was refused
abbrev pub IsNoInput : Fault → Type 0
IsNoInput Read = ⊤
IsNoInput Memory = ⊤
IsNoInput fault = ⊥
