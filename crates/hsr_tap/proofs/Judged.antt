-- The report on a device, of its parts.
use Rattle.std.proofs.Common.{◌≡◌, inl, inr, ℕ, Bool, List, [], ◌∙◌, Option, Some, None, Ok, Err}
use Rattle.std.specs.Prelude.{IfSome}
use Rattle.std.specs.Io.KnownBytes.{Appends, Keeps}
use Rattle.hsr_capture_reader.specs.Capture.{CaptureFields, capture_of, most_octets}
use Rattle.hsr_capture_reader.specs.Fields.{PacketFields}
use Rattle.hsr_capture_reader.specs.Reading.{Fails as FailsToRead}
use Rattle.hsr_capture_reader.specs.declared.fault.ReadFault.{ReadFault}
use Rattle.hsr_capture_reader.specs.declared.fault.ReadFault.TheVariants as read
use Rattle.hsr_judging_text.specs.Judging.{IsNoVerdict, IsVerdict}
use Rattle.hsr_judging_text.specs.declared.judging.JudgeFault.{JudgeFault}
use Rattle.hsr_judging_text.specs.declared.judging.JudgeFault.TheVariants as judge
use Rattle.hsr_judging_text.specs.declared.report.Showing.{Showing}
use Rattle.hsr_tap_device.specs.Device.{DeviceFields}
use Rattle.hsr_tap_device.specs.Fallible.{Fails as FailsToDescribe}
use Rattle.hsr_tap_device.specs.Reading.{device_of}
use Rattle.hsr_tap_device.specs.declared.fault.DeviceFault.{DeviceFault}
use Rattle.hsr_tap_device.specs.declared.fault.DeviceFault.TheVariants as device
use Rattle.hsr_text.specs.Whole.{IsWhole}
use Rattle.hsr_tap.specs.Fault.{device_fault, judge_fault, read_fault}
use Rattle.hsr_tap.specs.Judging.{HasReport, IsJudged, IsUnjudged, IsUnreported, Reports}
use Rattle.hsr_tap.specs.Tapping.{AreInOrder, IsNoInput}
use Rattle.hsr_tap.specs.declared.fault.Fault.{Fault}
use Rattle.hsr_tap.specs.declared.fault.Fault.TheVariants as fault
use Rattle.hsr_tap.proofs.Whole.{same_capture}

pub no_device : (document : List ℕ) (fcs : ℕ) (octets : List ℕ) (e : DeviceFault) → FailsToDescribe e (device_of document) → IsUnjudged document fcs octets (device_fault e)
no_device document fcs octets device.Text h = h
no_device document fcs octets (device.Unknown word) h = h
no_device document fcs octets (device.WrongKind key) h = h
no_device document fcs octets (device.Missing key) h = h
no_device document fcs octets (device.Unwanted key) h = h
no_device document fcs octets (device.BadValue key) h = h
no_device document fcs octets device.NoMemory h = tt

pub undescribed : (document : List ℕ) (fcs : ℕ) (text : Option (List ℕ)) (e : Fault) → ((fcs : ℕ) (octets : List ℕ) → IsUnjudged document fcs octets e)
    → IfSome text (λ octets. IsUnjudged document fcs octets e)
undescribed document fcs None e h = tt
undescribed document fcs (Some all) e h = h fcs all

pub has_report : (given : DeviceFields) (showing : Showing) (capture : CaptureFields) (packets : List PacketFields) (text : List ℕ) (conforms : Bool) → AreInOrder capture.packets packets
    → IsVerdict given capture.interfaces packets capture.end showing [] text conforms → HasReport given showing capture text conforms
has_report given showing capture packets text conforms in_order is = record { packets = packets; in_order = in_order; is_verdict = is }

pub unreported : (given : DeviceFields) (capture : CaptureFields) (packets : List PacketFields) (e : JudgeFault) → AreInOrder capture.packets packets
    → IsNoVerdict given capture.interfaces packets capture.end e → IsUnreported given capture e
unreported given capture packets (judge.Passages e) in_order h = record { packets = packets; in_order = in_order; is_no_verdict = h }
unreported given capture packets judge.Table in_order h = record { packets = packets; in_order = in_order; is_no_verdict = h }
unreported given capture packets judge.NoMemory in_order h = tt

pub is_judged : (document : List ℕ) (given : DeviceFields) (showing : Showing) (capture : CaptureFields) (fcs : ℕ) (octets text : List ℕ) (conforms : Bool) → device_of document ≡ Ok given
    → capture_of fcs octets ≡ Ok capture → HasReport given showing capture text conforms → IsJudged document showing fcs octets text conforms
is_judged document given showing capture fcs octets text conforms is read has = record { device = given; capture = capture; is_device = is; is_capture = read; has_report = has }

pub no_capture : (document : List ℕ) (given : DeviceFields) (fcs : ℕ) (octets : List ℕ) (e : ReadFault) → device_of document ≡ Ok given → FailsToRead e (capture_of fcs octets)
    → IsUnjudged document fcs octets (read_fault e)
no_capture document given fcs octets (read.Refused refusal) is h = record { device = given; is_device = is; is_refused = h }
no_capture document given fcs octets read.NoMemory is h = tt

pub no_report : (document : List ℕ) (given : DeviceFields) (capture : CaptureFields) (fcs : ℕ) (octets : List ℕ) (e : JudgeFault) → device_of document ≡ Ok given
    → capture_of fcs octets ≡ Ok capture → IsUnreported given capture e → IsUnjudged document fcs octets (judge_fault e)
no_report document given capture fcs octets (judge.Passages e) is read h = record { device = given; capture = capture; is_device = is; is_capture = read; has_no_verdict = h }
no_report document given capture fcs octets judge.Table is read h = record { device = given; capture = capture; is_device = is; is_capture = read; has_no_verdict = h }
no_report document given capture fcs octets judge.NoMemory is read h = tt

-- ---- of a capture that is too large a front tells it too

judged_whole : (document : List ℕ) (showing : Showing) (fcs : ℕ) (all read text : List ℕ) (conforms : Bool) → capture_of fcs all ≡ capture_of fcs read
    → IsJudged document showing fcs read text conforms → IsJudged document showing fcs all text conforms
judged_whole document showing fcs all read text conforms same h =
    record { device = h.device; capture = h.capture; is_device = h.is_device; is_capture = same ∙ h.is_capture; has_report = h.has_report }

unjudged_whole : (document : List ℕ) (fcs : ℕ) (all read : List ℕ) (e : Fault) → capture_of fcs all ≡ capture_of fcs read → IsUnjudged document fcs read e → IsUnjudged document fcs all e
unjudged_whole document fcs all read (fault.Device e) same h = h
unjudged_whole document fcs all read (fault.Capture e) same h = record { device = h.device; is_device = h.is_device; is_refused = same ∙ h.is_refused }
unjudged_whole document fcs all read (fault.Judge e) same h =
    record { device = h.device; capture = h.capture; is_device = h.is_device; is_capture = same ∙ h.is_capture; has_no_verdict = h.has_no_verdict }
unjudged_whole document fcs all read (fault.Lines e) same h = h
unjudged_whole document fcs all read (fault.Stimuli e) same h = h
unjudged_whole document fcs all read fault.Sources same h = h
unjudged_whole document fcs all read fault.NoPlanFile same h = h
unjudged_whole document fcs all read fault.NoPlan same h = h
unjudged_whole document fcs all read fault.NoDevice same h = h
unjudged_whole document fcs all read fault.Write same h = h
unjudged_whole document fcs all read fault.Read same h = h
unjudged_whole document fcs all read fault.Memory same h = h

pub judged_of_whole : (document : List ℕ) (showing : Showing) (fcs : ℕ) (told : Option (List ℕ)) (read text : List ℕ) (conforms : Bool) → IfSome told (λ all. IsWhole most_octets all read)
    → IsJudged document showing fcs read text conforms → IfSome told (λ octets. IsJudged document showing fcs octets text conforms)
judged_of_whole document showing fcs None read text conforms whole h = tt
judged_of_whole document showing fcs (Some all) read text conforms whole h = judged_whole document showing fcs all read text conforms (same_capture fcs all read whole) h

pub unjudged_of_whole : (document : List ℕ) (fcs : ℕ) (told : Option (List ℕ)) (read : List ℕ) (e : Fault) → IfSome told (λ all. IsWhole most_octets all read)
    → IsUnjudged document fcs read e → IfSome told (λ octets. IsUnjudged document fcs octets e)
unjudged_of_whole document fcs None read e whole h = tt
unjudged_of_whole document fcs (Some all) read e whole h = unjudged_whole document fcs all read e (same_capture fcs all read whole) h

pub no_input : (document : List ℕ) (fcs : ℕ) (text : Option (List ℕ)) (e : Fault) → IsNoInput e → IfSome text (λ octets. IsUnjudged document fcs octets e)
no_input document fcs None e h = tt
no_input document fcs (Some all) fault.Read h = tt
no_input document fcs (Some all) fault.Memory h = tt
no_input document fcs (Some all) (fault.Capture e) h = absurd h
no_input document fcs (Some all) fault.NoDevice h = absurd h
no_input document fcs (Some all) (fault.Device e) h = absurd h
no_input document fcs (Some all) (fault.Lines e) h = absurd h
no_input document fcs (Some all) (fault.Stimuli e) h = absurd h
no_input document fcs (Some all) (fault.Judge e) h = absurd h
no_input document fcs (Some all) fault.Sources h = absurd h
no_input document fcs (Some all) fault.NoPlanFile h = absurd h
no_input document fcs (Some all) fault.NoPlan h = absurd h
no_input document fcs (Some all) fault.Write h = absurd h

-- ---- how it ends

module _ (document : List ℕ) (showing : Showing) (fcs : ℕ) (text held holds : Option (List ℕ)) where
  pub not_judged : (e : Fault) → IfSome text (λ octets. IsUnjudged document fcs octets e) → Keeps held holds → IfSome text (λ octets. Reports document showing fcs octets held holds (Err e))
  not_judged e unjudged kept = by_text text unjudged
    where
      by_text : (text : Option (List ℕ)) → IfSome text (λ octets. IsUnjudged document fcs octets e) → IfSome text (λ octets. Reports document showing fcs octets held holds (Err e))
      by_text None h = tt
      by_text (Some octets) h = inl (h, kept)

  pub not_delivered : (e : Fault) → e ≡ fault.Write → IfSome text (λ octets. Reports document showing fcs octets held holds (Err e))
  not_delivered e is = by_text text
    where
      by_text : (text : Option (List ℕ)) → IfSome text (λ octets. Reports document showing fcs octets held holds (Err e))
      by_text None = tt
      by_text (Some octets) = inr is

  pub delivered : (told : List ℕ) (conforms : Bool) → Appends held holds told → IfSome text (λ octets. IsJudged document showing fcs octets told conforms)
      → IfSome text (λ octets. Reports document showing fcs octets held holds (Ok conforms))
  delivered told conforms written judged = by_text text judged
    where
      by_text : (text : Option (List ℕ)) → IfSome text (λ octets. IsJudged document showing fcs octets told conforms)
          → IfSome text (λ octets. Reports document showing fcs octets held holds (Ok conforms))
      by_text None h = tt
      by_text (Some octets) h = (told, h, written)
