-- What there is for a device that a document describes.
use Rattle.std.specs.Prelude.{ℕ, ◌≡◌, ⊤, List, Option, Some, None, option_map, if◌then◌else◌}
use Rattle.hsr_frame.specs.Address.{is_group}
use Rattle.hsr_frame.specs.declared.node.Mode.{Mode}
use Rattle.hsr_node.specs.declared.place.Place.{Place}
use Rattle.hsr_node.specs.declared.place.Place.TheVariants as place
use Rattle.hsr_node.specs.declared.role.Role.{Role}
use Rattle.hsr_node.specs.declared.role.Role.TheVariants as role
use Rattle.hsr_table_size.specs.Sizes.{capacity_of, table_with}
use Rattle.hsr_table_size.specs.declared.size.TableSize.{TableSize}
use Rattle.hsr_tap_device.specs.Device.{DeviceFields}
use Rattle.hsr_tap_device.specs.declared.device.Owner.{Owner}
use Rattle.hsr_pcapng.specs.declared.fault.BlockFault.{BlockFault}
use Rattle.hsr_pcapng.specs.declared.fault.BlockFault.TheVariants as block
use Rattle.hsr_stimuli.specs.Capture.{Fits, capture}
use Rattle.hsr_stimuli.specs.Playing.{tried}
use Rattle.hsr_stimuli.specs.Stimuli.{stimuli}
use Rattle.hsr_stimuli.specs.Telling.{list_text}
use Rattle.hsr_stimuli.specs.declared.device.NoStimuli.{NoStimuli}
use Rattle.hsr_stimuli.specs.declared.device.NoStimuli.TheVariants.{NoPlace, NoTable, TooLong, NoMemory}

-- no group has a device's address
abbrev pub own_address : Option (List ℕ) → Option (List ℕ)
own_address None = None
own_address (Some mac) = if is_group mac then None else Some mac

abbrev pub place_by : Role → Option (List ℕ) → Mode → Option Place
place_by role.Danh own mode = option_map (λ mac. place.Danh mac mode) (own_address own)
place_by role.RedBox own mode = option_map (λ mac. place.RedBox mac mode) (own_address own)
place_by role.QuadBox own mode = Some place.QuadBox
place_by role.Station own mode = None

-- where a device stands
abbrev pub place_of : Owner → Option Place
place_of owner = place_by owner.role owner.mac owner.mode

pub record ShownFields : Type 0 where
  pub capture : List ℕ
  pub list : List ℕ

-- the capture, and the list with the answers of the reference node
unfoldable pub shown : ℕ → Place → Option ℕ → ShownFields
shown entries p start = record {
  capture = capture p (stimuli p entries start);
  list = list_text p entries start (tried entries p start (stimuli p entries start));
}

-- the device stands at a place, and its tables have one of the sizes of the reference node
pub record IsShown (device : DeviceFields) (s : ShownFields) : Type 0 where
  pub p : Place
  pub table : TableSize
  pub is_place : place_of device.owner ≡ Some p
  pub is_table : table_with device.table ≡ Some table
  pub is_shown : s ≡ shown (capacity_of table) p device.numbers.start

-- ---- why there are none

abbrev pub block_fault : BlockFault → NoStimuli
block_fault block.TooLong = TooLong
block_fault block.NoMemory = NoMemory

-- a block of the capture doesn't fit, or room was refused
abbrev pub IsOfCapture : ℕ → Place → Option ℕ → NoStimuli → Type 0
IsOfCapture entries p start TooLong = Fits p (stimuli p entries start) → ⊥
IsOfCapture entries p start NoMemory = ⊤
IsOfCapture entries p start fault = ⊥

-- the device stands at a place, and its tables have such a size, but a block of the capture doesn't fit
pub record IsTooLong (device : DeviceFields) : Type 0 where
  pub p : Place
  pub table : TableSize
  pub is_place : place_of device.owner ≡ Some p
  pub is_table : table_with device.table ≡ Some table
  pub is_unfit : Fits p (stimuli p (capacity_of table) device.numbers.start) → ⊥

abbrev pub IsUnshown : DeviceFields → NoStimuli → Type 0
IsUnshown device NoPlace = place_of device.owner ≡ None
IsUnshown device NoTable = table_with device.table ≡ None
IsUnshown device TooLong = IsTooLong device
IsUnshown device NoMemory = ⊤
