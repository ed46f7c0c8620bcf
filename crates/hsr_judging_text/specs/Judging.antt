-- What is said of a device that is judged by a capture.
--     IsVerdict     this is the verdict, and its report was put
--     IsNoVerdict   why there is none
use Rattle.std.specs.Prelude.{ℕ, ◌≡◌, ⊤, Bool, true, false, List, codes, Ok, Err}
use Rattle.std.specs.List.{list_any}
use Rattle.hsr_capture_reader.specs.Fields.{InterfaceFields, PacketFields}
use Rattle.hsr_tap_device.specs.Device.{DeviceFields}
use Rattle.hsr_tap_device.specs.declared.device.End.{End}
use Rattle.hsr_playback.specs.Letting.{has_in, has_out}
use Rattle.hsr_playback.specs.declared.taps.Taps.{Taps}
use Rattle.hsr_tap_passages.specs.Faults.{fault_words}
use Rattle.hsr_tap_passages.specs.Interfaces.{shows_in, shows_out}
use Rattle.hsr_tap_passages.specs.Shown.{ShownFields, shown_of}
use Rattle.hsr_tap_passages.specs.declared.fault.PassageFault.{PassageFault}
use Rattle.hsr_tap_passages.specs.declared.fault.PassageFault.TheVariants as passage
use Rattle.hsr_judging_text.specs.Report.{PutsReport}
use Rattle.hsr_judging_text.specs.Verdicts.{has_table, judged_by, verdict_of}
use Rattle.hsr_judging_text.specs.declared.judging.JudgeFault.{JudgeFault}
use Rattle.hsr_judging_text.specs.declared.judging.JudgeFault.TheVariants as fault
use Rattle.hsr_judging_text.specs.declared.report.Showing.{Showing}

-- the words of a fault, as they stand behind `fault: device `
abbrev pub judge_fault_words : JudgeFault → List ℕ
judge_fault_words (fault.Passages fault) = fault_words fault
judge_fault_words fault.Table = codes "table bad-value"
judge_fault_words fault.NoMemory = codes "memory"

-- By a capture: the passages are those that it shows, there are tables of as many entries as the device has, and ends are tapped where an
-- interface shows them. What is said is the verdict of their judgement, and the report of that judgement was put behind what stood there.
pub record IsVerdict (device : DeviceFields) (interfaces : List InterfaceFields) (packets : List PacketFields) (told : ℕ) (showing : Showing)
    (before after : List ℕ) (said : Bool) : Type 0 where
  pub shown : ShownFields
  pub taps : Taps
  pub is_shown : shown_of device interfaces packets told ≡ Ok shown
  pub tables : has_table device.table ≡ true
  pub ins : (end : End) → has_in taps end ≡ list_any (shows_in end) shown.interfaces
  pub outs : (end : End) → has_out taps end ≡ list_any (shows_out end) shown.interfaces
  pub is_said : said ≡ verdict_of (judged_by device taps shown.passages shown.end)
  pub is_put : PutsReport showing device interfaces shown taps (judged_by device taps shown.passages shown.end) before after

-- ---- why there is no verdict

-- a capture that doesn't fit a device, or refused room
abbrev pub passage_fault : PassageFault → JudgeFault
passage_fault passage.NoMemory = fault.NoMemory
passage_fault unfit = fault.Passages unfit

-- there are no tables of so many entries, or room was refused
abbrev pub IsTableFault : ℕ → JudgeFault → Type 0
IsTableFault entries (fault.Passages unfit) = ⊥
IsTableFault entries fault.Table = has_table entries ≡ false
IsTableFault entries fault.NoMemory = ⊤

-- a capture fits a device, but there are no tables of as many entries as the device has
pub record HasNoTable (device : DeviceFields) (interfaces : List InterfaceFields) (packets : List PacketFields) (told : ℕ) : Type 0 where
  pub shown : ShownFields
  pub is_shown : shown_of device interfaces packets told ≡ Ok shown
  pub tables : has_table device.table ≡ false

-- The first of these: the capture doesn't fit the device, and this is the first reason; there are no tables of so many entries. Room may be
-- refused at any time.
abbrev pub IsNoVerdict : DeviceFields → List InterfaceFields → List PacketFields → ℕ → JudgeFault → Type 0
IsNoVerdict device interfaces packets told (fault.Passages unfit) = shown_of device interfaces packets told ≡ Err unfit
IsNoVerdict device interfaces packets told fault.Table = HasNoTable device interfaces packets told
IsNoVerdict device interfaces packets told fault.NoMemory = ⊤
