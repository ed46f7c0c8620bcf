-- The words of a fault, as they stand behind `fault: device `.
use Rattle.std.specs.Prelude.{ℕ, List, ◌++◌, codes, map}
use Rattle.hsr_toml.specs.Line.{shown}
use Rattle.hsr_tap_device.specs.Fault.{key_text}
use Rattle.hsr_tap_device.specs.declared.fault.DeviceFault.{DeviceFault}
use Rattle.hsr_tap_device.specs.declared.fault.DeviceFault.TheVariants.{Text, Unknown, WrongKind, Missing, Unwanted, BadValue, NoMemory}

-- a key that documents don't have is told without control octets
abbrev pub device_words : DeviceFault → List ℕ
device_words Text = codes "top text"
device_words (Unknown word) = map shown word ++ codes " unknown"
device_words (WrongKind key) = key_text key ++ codes " wrong-kind"
device_words (Missing key) = key_text key ++ codes " missing"
device_words (Unwanted key) = key_text key ++ codes " unknown"
device_words (BadValue key) = key_text key ++ codes " bad-value"
device_words NoMemory = codes "memory"
