-- The stimuli for a device that a document describes, of its parts.
use Rattle.std.proofs.Common.{◌≡◌, inl, inr, ℕ, Bool, true, false, List, [], subst, Option, Ok, Err}
use Rattle.std.specs.Io.KnownBytes.{Appends, Keeps}
use Rattle.hsr_stimuli.specs.Device.{IsShown, IsUnshown, ShownFields}
use Rattle.hsr_stimuli.specs.declared.device.NoStimuli.{NoStimuli}
use Rattle.hsr_stimuli.specs.declared.device.NoStimuli.TheVariants as stimuli
use Rattle.hsr_tap_device.specs.Device.{DeviceFields}
use Rattle.hsr_tap_device.specs.Fallible.{Fails as FailsToDescribe}
use Rattle.hsr_tap_device.specs.Reading.{device_of}
use Rattle.hsr_tap_device.specs.declared.fault.DeviceFault.{DeviceFault}
use Rattle.hsr_tap_device.specs.declared.fault.DeviceFault.TheVariants as device
use Rattle.hsr_tap.specs.Fault.{device_fault, stimuli_fault}
use Rattle.hsr_tap.specs.Trying.{Gives, IsGiven, IsUngiven}
use Rattle.hsr_tap.specs.declared.fault.Fault.{Fault}
use Rattle.hsr_tap.specs.declared.fault.Fault.TheVariants as fault

pub undescribed : (document : List ℕ) (e : DeviceFault) → FailsToDescribe e (device_of document) → IsUngiven document (device_fault e)
undescribed document device.Text h = h
undescribed document (device.Unknown word) h = h
undescribed document (device.WrongKind key) h = h
undescribed document (device.Missing key) h = h
undescribed document (device.Unwanted key) h = h
undescribed document (device.BadValue key) h = h
undescribed document device.NoMemory h = tt

pub is_given : (document : List ℕ) (given : DeviceFields) (shown : ShownFields) → device_of document ≡ Ok given → IsShown given shown → IsGiven document shown
is_given document given shown is has = record { device = given; is_device = is; is_shown = has }

pub without : (document : List ℕ) (given : DeviceFields) (e : NoStimuli) → device_of document ≡ Ok given → IsUnshown given e → IsUngiven document (stimuli_fault e)
without document given stimuli.NoPlace is h = record { device = given; is_device = is; is_unshown = h }
without document given stimuli.NoTable is h = record { device = given; is_device = is; is_unshown = h }
without document given stimuli.TooLong is h = record { device = given; is_device = is; is_unshown = h }
without document given stimuli.NoMemory is h = tt

-- ---- what is written

module _ (document : List ℕ) (is_list : Bool) (held holds : Option (List ℕ)) where
  pub not_given : (e : Fault) → IsUngiven document e → Keeps held holds → Gives document is_list held holds (Err e)
  not_given e ungiven kept = inl (ungiven, kept)

  pub not_written : (e : Fault) → e ≡ fault.Write → Gives document is_list held holds (Err e)
  not_written e is = inr is

pub list_written : (document : List ℕ) (is_list : Bool) (held holds : Option (List ℕ)) (shown : ShownFields) (octets list : List ℕ) → is_list ≡ true → IsGiven document shown
    → octets ≡ shown.list → Appends held holds octets → list ≡ [] → Gives document is_list held holds (Ok list)
list_written document true held holds shown octets list is given same appends none = (shown, given, subst (λ (ls : List ℕ). Appends held holds ls) same appends, none)
list_written document false held holds shown octets list is given same appends none = absurd (cc)

pub capture_written : (document : List ℕ) (is_list : Bool) (held holds : Option (List ℕ)) (shown : ShownFields) (octets list : List ℕ) → is_list ≡ false → IsGiven document shown
    → octets ≡ shown.capture → Appends held holds octets → list ≡ shown.list → Gives document is_list held holds (Ok list)
capture_written document false held holds shown octets list is given same appends beside = (shown, given, subst (λ (ls : List ℕ). Appends held holds ls) same appends, beside)
capture_written document true held holds shown octets list is given same appends beside = absurd (cc)
