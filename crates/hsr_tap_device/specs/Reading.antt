-- What a document says of a device, or its first fault.
use Rattle.std.specs.Prelude.{ℕ, ◌^◌, ⊤, Bool, false, List, [], Option, Some, None, is_some, option_and_then, Result, Ok, Err, ok_or, if◌then◌else◌}
use Rattle.toml.specs.Data.{Data, Members, no_members, member, as_str, as_integer, as_bool, as_array, as_table}
use Rattle.hsr_frame.specs.Address.{is_group}
use Rattle.hsr_frame.specs.Words.{mode_of}
use Rattle.hsr_frame.specs.declared.node.Mode.{Mode}
use Rattle.hsr_frame.specs.declared.node.Mode.TheVariants.{H}
use Rattle.hsr_node.specs.declared.role.Role.{Role}
use Rattle.hsr_node.specs.declared.role.Role.TheVariants.{Danh, RedBox, QuadBox, Station}
use Rattle.hsr_toml.specs.Documents.{document_of}
use Rattle.hsr_toml.specs.Fallible.{◌>>=◌}
use Rattle.hsr_toml.specs.Names.{mac_of}
use Rattle.hsr_toml.specs.Tables.{at_key, between, needed, optional, perhaps, word}
use Rattle.hsr_tap_device.specs.Device.{DeviceFields}
use Rattle.hsr_tap_device.specs.Fault.{faults}
use Rattle.hsr_tap_device.specs.Lists.{downs, ignored, interfaces, stations}
use Rattle.hsr_tap_device.specs.Words.{key_among, nothing_ignored, role_of, top_keys}
use Rattle.hsr_tap_device.specs.declared.device.Numbers.{Numbers}
use Rattle.hsr_tap_device.specs.declared.device.Owner.{Owner}
use Rattle.hsr_tap_device.specs.declared.device.Times.{Times}
use Rattle.hsr_tap_device.specs.declared.fault.Key.{Key}
use Rattle.hsr_tap_device.specs.declared.fault.Key.TheVariants as key
use Rattle.hsr_tap_device.specs.declared.fault.DeviceFault.{DeviceFault}
use Rattle.hsr_tap_device.specs.declared.fault.DeviceFault.TheVariants.{Text, Unknown, WrongKind, Unwanted}

-- ---- kinds

-- whether a value is of the kind that its key has
abbrev pub is_kind : Key → Data → Bool
is_kind key.Role d = is_some (as_str d)
is_kind key.Address d = is_some (as_str d)
is_kind key.Mode d = is_some (as_str d)
is_kind key.Port d = is_some (as_str d)
is_kind key.Host d = is_some (as_bool d)
is_kind key.Whole d = is_some (as_bool d)
is_kind key.Stations d = is_some (as_array d)
is_kind key.Ignore d = is_some (as_array d)
is_kind key.Down d = is_some (as_array d)
is_kind key.Interface d = is_some (as_table d)
is_kind _ d = is_some (as_integer d)

abbrev pub kind_of : List ℕ → Option Key → Data → Result ⊤ DeviceFault
kind_of k None d = Err (Unknown k)
kind_of k (Some key) d = if is_kind key d then Ok tt else Err (WrongKind key)

-- the first key, in the order of their octets, that documents don't have, or whose value is of another kind
abbrev pub kinds : Members → Result ⊤ DeviceFault
kinds no_members = Ok tt
kinds (member k d ms) = kind_of k (key_among top_keys k) d >>= λ _. kinds ms

-- ---- values

abbrev pub flag : Key → Data → Result Bool DeviceFault
flag key d = ok_or (as_bool d) (WrongKind key)

-- no group has a device's address
abbrev pub own_mac : List ℕ → Option (List ℕ)
own_mac m = if is_group m then None else Some m

abbrev pub spelled_mac : List ℕ → Option (List ℕ)
spelled_mac s = option_and_then own_mac (mac_of s)

abbrev pub some_mac : Members → Result (Option (List ℕ)) DeviceFault
some_mac ms = needed faults key.Address (perhaps (word faults spelled_mac)) ms

abbrev pub no_mac : Option Data → Result (Option (List ℕ)) DeviceFault
no_mac None = Ok None
no_mac (Some d) = Err (Unwanted key.Address)

-- a QuadBox has no address
abbrev pub mac_for : Role → Members → Result (Option (List ℕ)) DeviceFault
mac_for Danh ms = some_mac ms
mac_for RedBox ms = some_mac ms
mac_for QuadBox ms = no_mac (at_key faults key.Address ms)
mac_for Station ms = some_mac ms

unfoldable pub owner_in : Members → Result Owner DeviceFault
owner_in ms = do
  role ← needed faults key.Role (word faults role_of) ms
  mac ← mac_for role ms
  mode ← optional faults key.Mode H (word faults mode_of) ms
  Ok (record { role = role; mac = mac; mode = mode })

-- in microseconds
unfoldable pub times_in : Members → Result Times DeviceFault
times_in ms = do
  within ← optional faults key.Within 1000 (between faults 0 (10 ^ 9)) ms
  early ← optional faults key.Early 0 (between faults 0 (10 ^ 9)) ms
  from ← optional faults key.From 0 (between faults 0 (10 ^ 12)) ms
  until ← optional faults key.Until None (perhaps (between faults 0 (10 ^ 12))) ms
  warm ← optional faults key.Warm 0 (between faults 0 (10 ^ 12)) ms
  Ok (record { within = within; early = early; from = from; until = until; warm = warm })

unfoldable pub numbers_in : Members → Result Numbers DeviceFault
numbers_in ms = do
  start ← optional faults key.Start None (perhaps (between faults 0 65535)) ms
  life_start ← optional faults key.LifeStart None (perhaps (between faults 0 65535)) ms
  Ok (record { start = start; life_start = life_start })

unfoldable pub device_in : Members → Result DeviceFields DeviceFault
device_in ms = do
  _ ← kinds ms
  owner ← owner_in ms
  table ← optional faults key.Table 512 (between faults 1 65536) ms
  times ← times_in ms
  numbers ← numbers_in ms
  host ← optional faults key.Host None (perhaps flag) ms
  stations ← optional faults key.Stations [] stations ms
  whole ← optional faults key.Whole false flag ms
  ignored ← optional faults key.Ignore nothing_ignored ignored ms
  downs ← optional faults key.Down [] (downs owner.role) ms
  interfaces ← optional faults key.Interface [] (interfaces owner.role) ms
  Ok (record { owner = owner; table = table; times = times; numbers = numbers; host = host; stations = stations; whole = whole; ignored = ignored; downs = downs; interfaces = interfaces })

abbrev pub device_if : Option Members → Result DeviceFields DeviceFault
device_if None = Err Text
device_if (Some ms) = device_in ms

abbrev pub device_of : List ℕ → Result DeviceFields DeviceFault
device_of text = device_if (document_of text)
