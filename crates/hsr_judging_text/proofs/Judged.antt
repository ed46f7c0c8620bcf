-- Why a device has no verdict, of its parts.
use Rattle.std.proofs.Common.{◌≡◌, refl, ℕ, List, Some, None, Ok}
use Rattle.std.specs.Prelude.{true, false, ◌==◌}
use Rattle.hsr_capture_reader.specs.Fields.{InterfaceFields, PacketFields}
use Rattle.hsr_table_size.specs.Sizes.{table_with}
use Rattle.hsr_table_size.specs.declared.size.TableSize.{TableSize}
use Rattle.hsr_tap_device.specs.Device.{DeviceFields}
use Rattle.hsr_tap_passages.specs.Faults.{Fails}
use Rattle.hsr_tap_passages.specs.Shown.{ShownFields, shown_of}
use Rattle.hsr_tap_passages.specs.declared.fault.PassageFault.{PassageFault}
use Rattle.hsr_tap_passages.specs.declared.fault.PassageFault.TheVariants as passage
use Rattle.hsr_judging_text.specs.Judging.{IsNoVerdict, IsTableFault, passage_fault}
use Rattle.hsr_judging_text.specs.Verdicts.{has_table}
use Rattle.hsr_judging_text.specs.declared.judging.JudgeFault.{JudgeFault}
use Rattle.hsr_judging_text.specs.declared.judging.JudgeFault.TheVariants as fault

pub has_size : (entries : ℕ) (table : TableSize) → table_with entries ≡ Some table → has_table entries ≡ true
has_size entries table is = rw is refl

pub has_no_size : (entries : ℕ) → table_with entries ≡ None → (entries == 1) ≡ false → (entries == 2) ≡ false → has_table entries ≡ false
has_no_size entries none one two = rw (none, one, two) refl

pub no_room : (entries : ℕ) (e : JudgeFault) → e ≡ fault.NoMemory → IsTableFault entries e
no_room entries e is = rw is tt

module _ (device : DeviceFields) (interfaces : List InterfaceFields) (packets : List PacketFields) (told : ℕ) where
  pub unfit : (e : PassageFault) → Fails e (shown_of device interfaces packets told) → IsNoVerdict device interfaces packets told (passage_fault e)
  unfit (passage.Link link) h = h
  unfit (passage.NoSuchName name) h = h
  unfit (passage.NoDirection packet) h = h
  unfit passage.NoMemory h = tt

  pub no_verdict : (shown : ShownFields) (e : JudgeFault) → shown_of device interfaces packets told ≡ Ok shown → IsTableFault device.table e
      → IsNoVerdict device interfaces packets told e
  no_verdict shown (fault.Passages e) is h = absurd h
  no_verdict shown fault.Table is h = record { shown = shown; is_shown = is; tables = h }
  no_verdict shown fault.NoMemory is h = tt
