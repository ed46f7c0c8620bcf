-- The words of keys, and what is told of them.
use Rattle.std.specs.Prelude.{ℕ, Bool, true, false, List, codes}
use Rattle.hsr_toml.specs.Faults.{Faults}
use Rattle.hsr_tap_device.specs.declared.fault.Key.{Key}
use Rattle.hsr_tap_device.specs.declared.fault.Key.TheVariants as key
use Rattle.hsr_tap_device.specs.declared.fault.DeviceFault.{DeviceFault}
use Rattle.hsr_tap_device.specs.declared.fault.DeviceFault.TheVariants.{Missing, WrongKind, BadValue, NoMemory}

-- a key as it is written
abbrev pub key_text : Key → List ℕ
key_text key.Role = codes "role"
key_text key.Address = codes "mac"
key_text key.Mode = codes "mode"
key_text key.Table = codes "table"
key_text key.Within = codes "within_us"
key_text key.Early = codes "early_us"
key_text key.From = codes "from_us"
key_text key.Until = codes "until_us"
key_text key.Warm = codes "warm_us"
key_text key.Start = codes "start"
key_text key.LifeStart = codes "life_start"
key_text key.Host = codes "host"
key_text key.Stations = codes "stations"
key_text key.Whole = codes "whole"
key_text key.Ignore = codes "ignore"
key_text key.Down = codes "down"
key_text key.Interface = codes "interface"
key_text key.Port = codes "port"

abbrev pub is_memory : DeviceFault → Bool
is_memory NoMemory = true
is_memory _ = false

-- what is told of a key and its value
abbrev pub faults : Faults Key DeviceFault
faults = record { text = key_text; missing = Missing; wrong_kind = WrongKind; bad_value = BadValue; is_memory = is_memory }
