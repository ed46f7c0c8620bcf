-- What there is for a device, of its parts.
use Rattle.std.proofs.Common.{◌≡◌, ℕ, List, Option, Some, subst}
use Rattle.hsr_node.specs.declared.place.Place.{Place}
use Rattle.hsr_pcapng.specs.Faults.{IfTooLong}
use Rattle.hsr_pcapng.specs.declared.fault.BlockFault.{BlockFault}
use Rattle.hsr_pcapng.specs.declared.fault.BlockFault.TheVariants as block
use Rattle.hsr_table_size.specs.Sizes.{capacity_of, table_with}
use Rattle.hsr_table_size.specs.declared.size.TableSize.{TableSize}
use Rattle.hsr_tap_device.specs.Device.{DeviceFields}
use Rattle.hsr_stimuli.specs.Capture.{Fits}
use Rattle.hsr_stimuli.specs.Device.{IsOfCapture, IsShown, IsUnshown, ShownFields, block_fault, place_of, shown}
use Rattle.hsr_stimuli.specs.Stimuli.{stimuli}
use Rattle.hsr_stimuli.specs.declared.device.NoStimuli.{NoStimuli}
use Rattle.hsr_stimuli.specs.declared.device.NoStimuli.TheVariants.{NoPlace, NoTable, TooLong, NoMemory}
use Rattle.hsr_stimuli.specs.declared.scene.Stimulus.{Stimulus}

-- a fault of the capture
pub of_block : (entries : ℕ) (p : Place) (start : Option ℕ) (list : List Stimulus) (fault : BlockFault) → list ≡ stimuli p entries start
    → IfTooLong (Fits p list → ⊥) fault → IsOfCapture entries p start (block_fault fault)
of_block entries p start list block.TooLong is unfit = subst (λ (l : List Stimulus). Fits p l → ⊥) is unfit
of_block entries p start list block.NoMemory is h = tt

module _ (device : DeviceFields) (p : Place) (table : TableSize) where
  pub is_shown : (s : ShownFields) → place_of device.owner ≡ Some p → table_with device.table ≡ Some table
      → s ≡ shown (capacity_of table) p device.numbers.start → IsShown device s
  is_shown s stands has is = record { p = p; table = table; is_place = stands; is_table = has; is_shown = is }

  pub is_unshown : (fault : NoStimuli) → place_of device.owner ≡ Some p → table_with device.table ≡ Some table
      → IsOfCapture (capacity_of table) p device.numbers.start fault → IsUnshown device fault
  is_unshown TooLong stands has unfit = record { p = p; table = table; is_place = stands; is_table = has; is_unfit = unfit }
  is_unshown NoMemory stands has h = tt
  is_unshown NoPlace stands has h = absurd h
  is_unshown NoTable stands has h = absurd h
