-- What a document says of a device, without where it lies in memory.
use Rattle.std.specs.Prelude.{ℕ, Bool, List, Option}
use Rattle.hsr_tap_device.specs.declared.device.Down.{Down}
use Rattle.hsr_tap_device.specs.declared.device.Ignored.{Ignored}
use Rattle.hsr_tap_device.specs.declared.device.Named.{Named}
use Rattle.hsr_tap_device.specs.declared.device.Numbers.{Numbers}
use Rattle.hsr_tap_device.specs.declared.device.Times.{Times}
use Rattle.hsr_tap_device.specs.declared.device.Owner.{Owner}

pub record DeviceFields : Type 0 where
  -- its role, its address and its mode
  pub owner : Owner
  -- how many entries its duplicate tables have
  pub table : ℕ
  -- in microseconds
  pub times : Times
  pub numbers : Numbers
  -- whether all that its host sends is in the capture, where that is said
  pub host : Option Bool
  pub stations : List (List ℕ)
  -- whether nothing is open at the end
  pub whole : Bool
  pub ignored : Ignored
  pub downs : List Down
  pub interfaces : List Named
