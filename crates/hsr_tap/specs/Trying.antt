-- The stimuli for a device that a document describes, and what is written of them.
--     IsGiven   these are they
--     IsUngiven why there are none
--     Tries     what stands on both writers, and the status
use Rattle.std.specs.Prelude.{ℕ, ◌≡◌, ◌⊎◌, ⊤, Bool, List, [], Vec, Option, Result, Ok, Err, if◌then◌else◌}
use Rattle.std.specs.Global.{Global}
use Rattle.std.specs.Io.KnownBytes.{Appends, Keeps}
use Rattle.hsr_stimuli.specs.Device.{IsShown, IsUnshown, ShownFields}
use Rattle.hsr_stimuli.specs.declared.device.NoStimuli.{NoStimuli}
use Rattle.hsr_tap_device.specs.Device.{DeviceFields}
use Rattle.hsr_tap_device.specs.Reading.{device_of}
use Rattle.hsr_tap.specs.Ends.{Tells}
use Rattle.hsr_tap.specs.declared.fault.Fault.{Fault}
use Rattle.hsr_tap.specs.declared.fault.Fault.TheVariants.{Device, Stimuli, Write, Memory}

-- a document describes a device, and these are its stimuli
pub record IsGiven (document : List ℕ) (shown : ShownFields) : Type 0 where
  pub device : DeviceFields
  pub is_device : device_of document ≡ Ok device
  pub is_shown : IsShown device shown

-- it describes a device that has none
pub record IsWithout (document : List ℕ) (fault : NoStimuli) : Type 0 where
  pub device : DeviceFields
  pub is_device : device_of document ≡ Ok device
  pub is_unshown : IsUnshown device fault

-- Room may be refused at any time.
abbrev pub IsUngiven : List ℕ → Fault → Type 0
IsUngiven document (Device fault) = device_of document ≡ Err fault
IsUngiven document (Stimuli fault) = IsWithout document fault
IsUngiven document Memory = ⊤
IsUngiven document fault = ⊥

-- the capture, with the list beside it, or the list alone
abbrev pub written : Bool → ShownFields → List ℕ
written is_list shown = if is_list then shown.list else shown.capture

abbrev pub beside : Bool → ShownFields → List ℕ
beside is_list shown = if is_list then [] else shown.list

-- All was written; or nothing was, for this reason; or the writer failed.
abbrev pub Gives : List ℕ → Bool → Option (List ℕ) → Option (List ℕ) → Result (List ℕ) Fault → Type 0
Gives document is_list held holds (Ok list) =
    (shown : ShownFields) × IsGiven document shown × Appends held holds (written is_list shown) × (list ≡ beside is_list shown)
Gives document is_list held holds (Err fault) = (IsUngiven document fault × Keeps held holds) ⊎ (fault ≡ Write)

abbrev pub items_of : Result (Vec ℕ Global) Fault → Result (List ℕ) Fault
items_of (Ok list) = Ok list.items
items_of (Err fault) = Err fault

-- the list stands beside the capture, or the line of a fault
abbrev pub IsBeside : Option (List ℕ) → Option (List ℕ) → Result (List ℕ) Fault → ℕ → Type 0
IsBeside told tells (Ok list) code = (code ≡ 0) × Appends told tells list
IsBeside told tells (Err fault) code = Tells told tells (Err fault) code

pub record Tries (document : List ℕ) (is_list : Bool) (held holds told tells : Option (List ℕ)) (code : ℕ) : Type 0 where
  pub ended : Result (List ℕ) Fault
  pub gives : Gives document is_list held holds ended
  pub is_beside : IsBeside told tells ended code
