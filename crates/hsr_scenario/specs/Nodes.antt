-- What the table of a node says.
use Rattle.std.specs.Prelude.{ℕ, nat_le, Bool, List, [], ◌∷◌, length, Option, None, Result, Ok, Err, ok_or, if◌then◌else◌}
use Rattle.std.specs.List.{list_any}
use Rattle.std.specs.Str.{bytes_eq}
use Rattle.toml.specs.Data.{Data, Members}
use Rattle.hsr_frame.specs.Words.{mode_of}
use Rattle.hsr_frame.specs.declared.node.Mode.{Mode}
use Rattle.hsr_frame.specs.declared.node.Mode.TheVariants.{H}
use Rattle.hsr_node.specs.Words.{role_of}
use Rattle.hsr_node.specs.declared.place.Place.{Place}
use Rattle.hsr_node.specs.declared.place.Place.TheVariants.{Danh, RedBox, QuadBox, Station}
use Rattle.hsr_toml.specs.Fallible.{◌>>=◌}
use Rattle.hsr_toml.specs.Tables.{needed, optional, texts, word}
use Rattle.hsr_scenario.specs.Fault.{faults}
use Rattle.hsr_scenario.specs.Tables.{each_of, only}
use Rattle.hsr_toml.specs.Names.{mac_of, name_of}
use Rattle.hsr_scenario.specs.declared.fault.Key.{Key}
use Rattle.hsr_scenario.specs.declared.fault.Key.TheVariants as key
use Rattle.hsr_scenario.specs.declared.fault.What.{What}
use Rattle.hsr_scenario.specs.declared.fault.What.TheVariants.{BadValue, NameTwice}
use Rattle.hsr_scenario.specs.declared.nodes.Named.{Named}
use Rattle.hsr_node.specs.declared.role.Role.{Role}
use Rattle.hsr_node.specs.declared.role.Role.TheVariants as role

-- one of the nodes has the name
abbrev pub is_taken : List Named → List ℕ → Bool
is_taken nodes name = list_any (λ node. bytes_eq node.name name) nodes

-- a name that no earlier node has
abbrev pub new_name : List Named → Key → Data → Result (List ℕ) What
new_name nodes key d = word faults name_of key d >>= λ name. if is_taken nodes name then Err NameTwice else Ok name

-- at most sixteen addresses
abbrev pub macs_of : List (List ℕ) → Option (List (List ℕ))
macs_of ts = if nat_le (length ts) 16 then each_of mac_of ts else None

abbrev pub macs : Key → Data → Result (List (List ℕ)) What
macs key d = texts faults key d >>= λ ts. ok_or (macs_of ts) (BadValue key)

-- a node with an address, on a ring
unfoldable pub ring_node : (List ℕ → Mode → Place) → List Named → Members → Result Named What
ring_node place nodes ms = do
  _ ← only (key.Name ∷ key.Role ∷ key.Mac ∷ key.Mode ∷ []) ms
  name ← needed faults key.Name (new_name nodes) ms
  mac ← needed faults key.Mac (word faults mac_of) ms
  mode ← optional faults key.Mode H (word faults mode_of) ms
  Ok (record { name = name; place = place mac mode })

unfoldable pub quadbox : List Named → Members → Result Named What
quadbox nodes ms = do
  _ ← only (key.Name ∷ key.Role ∷ []) ms
  name ← needed faults key.Name (new_name nodes) ms
  Ok (record { name = name; place = QuadBox })

unfoldable pub station : List Named → Members → Result Named What
station nodes ms = do
  _ ← only (key.Name ∷ key.Role ∷ key.Macs ∷ []) ms
  name ← needed faults key.Name (new_name nodes) ms
  macs ← needed faults key.Macs macs ms
  Ok (record { name = name; place = Station (record { items = macs }) })

abbrev pub node_of : Role → List Named → Members → Result Named What
node_of role.Danh nodes ms = ring_node Danh nodes ms
node_of role.RedBox nodes ms = ring_node RedBox nodes ms
node_of role.QuadBox nodes ms = quadbox nodes ms
node_of role.Station nodes ms = station nodes ms

-- the node of a table, after others
unfoldable pub node_in : List Named → Members → Result Named What
node_in nodes ms = do
  role ← needed faults key.Role (word faults role_of) ms
  node_of role nodes ms
