-- The lists of a document: stations, what need not agree, ports that are down, interfaces.
use Rattle.std.specs.Prelude.{ℕ, ℤ, ◌^◌, ⊤, List, [], ◌∷◌, Option, Some, None, Result, Ok, Err, ok_or}
use Rattle.toml.specs.Data.{Data, Items, no_items, item, Members, as_str, as_table, as_integer}
use Rattle.hsr_toml.specs.Fallible.{◌>>=◌, each_item, each_member}
use Rattle.hsr_toml.specs.Names.{mac_of}
use Rattle.hsr_toml.specs.Tables.{at_key, in_range, items, members, other_key}
use Rattle.hsr_node.specs.declared.role.Role.{Role}
use Rattle.hsr_tap_device.specs.Fault.{faults}
use Rattle.hsr_tap_device.specs.Words.{end_at, ignored_with, nothing_ignored, tap_of}
use Rattle.hsr_tap_device.specs.declared.device.Down.{Down}
use Rattle.hsr_tap_device.specs.declared.device.End.{End}
use Rattle.hsr_tap_device.specs.declared.device.Ignored.{Ignored}
use Rattle.hsr_tap_device.specs.declared.device.Named.{Named}
use Rattle.hsr_tap_device.specs.declared.fault.Key.{Key}
use Rattle.hsr_tap_device.specs.declared.fault.Key.TheVariants as key
use Rattle.hsr_tap_device.specs.declared.fault.DeviceFault.{DeviceFault}
use Rattle.hsr_tap_device.specs.declared.fault.DeviceFault.TheVariants.{BadValue}

-- what an item spells; an item of another kind spells nothing
abbrev pub spelled : {A : Type 0} → (List ℕ → Option A) → Key → Option (List ℕ) → Result A DeviceFault
spelled reads key None = Err (BadValue key)
spelled reads key (Some text) = ok_or (reads text) (BadValue key)

-- ---- stations

abbrev pub station : Data → Result (List ℕ) DeviceFault
station d = spelled mac_of key.Stations (as_str d)

abbrev pub stations : Key → Data → Result (List (List ℕ)) DeviceFault
stations key d = items faults key d >>= each_item station []

-- ---- what need not agree

abbrev pub ignored_by : Ignored → Data → Result Ignored DeviceFault
ignored_by s d = spelled (ignored_with s) key.Ignore (as_str d)

abbrev pub ignored_from : Ignored → Items → Result Ignored DeviceFault
ignored_from s no_items = Ok s
ignored_from s (item d ds) = ignored_by s d >>= λ t. ignored_from t ds

abbrev pub ignored : Key → Data → Result Ignored DeviceFault
ignored key d = items faults key d >>= ignored_from nothing_ignored

-- ---- ports that are down

abbrev pub down_keys : List Key
down_keys = key.Port ∷ key.From ∷ key.Until ∷ []

abbrev pub read_there : {A : Type 0} → (Data → Option A) → Option Data → Result A DeviceFault
read_there reads None = Err (BadValue key.Down)
read_there reads (Some d) = ok_or (reads d) (BadValue key.Down)

abbrev pub moment_in : Option ℤ → Option ℕ
moment_in None = None
moment_in (Some z) = in_range 0 (10 ^ 12) z

abbrev pub moment_of : Data → Option ℕ
moment_of d = moment_in (as_integer d)

abbrev pub end_in : Role → Option (List ℕ) → Option End
end_in role None = None
end_in role (Some text) = end_at role text

abbrev pub port_of : Role → Data → Option End
port_of role d = end_in role (as_str d)

abbrev pub no_other : Option (List ℕ) → Result ⊤ DeviceFault
no_other None = Ok tt
no_other (Some word) = Err (BadValue key.Down)

abbrev pub down_in : Role → Members → Result Down DeviceFault
down_in role ms = do
  _ ← no_other (other_key faults down_keys ms)
  port ← read_there (port_of role) (at_key faults key.Port ms)
  from ← read_there moment_of (at_key faults key.From ms)
  until ← read_there moment_of (at_key faults key.Until ms)
  Ok (record { port = port; from = from; until = until })

abbrev pub down_at : Role → Option Members → Result Down DeviceFault
down_at role None = Err (BadValue key.Down)
down_at role (Some ms) = down_in role ms

abbrev pub down : Role → Data → Result Down DeviceFault
down role d = down_at role (as_table d)

abbrev pub downs : Role → Key → Data → Result (List Down) DeviceFault
downs role key d = items faults key d >>= each_item (down role) []

-- ---- interfaces

abbrev pub interface : Role → List ℕ → Data → Result Named DeviceFault
interface role name d = spelled (tap_of role) key.Interface (as_str d) >>= λ tap. Ok (record { name = name; tap = tap })

abbrev pub interfaces : Role → Key → Data → Result (List Named) DeviceFault
interfaces role key d = members faults key d >>= each_member (interface role) []
