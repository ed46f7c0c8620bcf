-- What the table of a link says.
use Rattle.std.specs.Prelude.{ℕ, List, [], ◌∷◌, Option, Some, None, option_map, Result, ok_or, position, slice_get}
use Rattle.std.specs.Str.{bytes_eq}
use Rattle.toml.specs.Data.{Data, Members}
use Rattle.hsr_topology.specs.declared.end.End.{End}
use Rattle.hsr_node.specs.Words.{port_of}
use Rattle.hsr_toml.specs.Fallible.{◌>>=◌}
use Rattle.hsr_toml.specs.Tables.{needed, texts, word}
use Rattle.hsr_scenario.specs.Fault.{faults}
use Rattle.hsr_scenario.specs.Tables.{each_of, only}
use Rattle.hsr_toml.specs.Names.{name_of}
use Rattle.hsr_scenario.specs.Words.{end_of}
use Rattle.hsr_scenario.specs.declared.fault.Key.{Key}
use Rattle.hsr_scenario.specs.declared.fault.Key.TheVariants as key
use Rattle.hsr_scenario.specs.declared.fault.What.{What}
use Rattle.hsr_scenario.specs.declared.fault.What.TheVariants.{BadValue, NoSuchName}
use Rattle.hsr_scenario.specs.declared.nodes.Named.{Named}

-- ---- names that are used

-- the number of the node that has the name
abbrev pub node_named : List Named → List ℕ → Option ℕ
node_named nodes name = position (λ node. bytes_eq node.name name) nodes

abbrev pub port_at : Option Named → ℕ → Option ℕ
port_at None letter = None
port_at (Some node) letter = port_of node.place letter

abbrev pub end_at : List Named → Option ℕ → ℕ → Option End
end_at nodes None letter = None
end_at nodes (Some n) letter = option_map (λ port. record { node = n; port = port }) (port_at (slice_get nodes n) letter)

-- the end that a name and a letter stand for
abbrev pub end_named : List Named → List ℕ × ℕ → Option End
end_named nodes e = end_at nodes (node_named nodes e.0) e.1

-- a name that a node has, and an end that is there
abbrev pub used_name : List Named → Key → Data → Result ℕ What
used_name nodes key d = word faults name_of key d >>= λ name. ok_or (node_named nodes name) NoSuchName

abbrev pub used_end : List Named → Key → Data → Result End What
used_end nodes key d = word faults end_of key d >>= λ e. ok_or (end_named nodes e) NoSuchName

-- ---- links

abbrev pub two_ends : List (List ℕ) → Option (List (List ℕ × ℕ))
two_ends (a ∷ b ∷ []) = each_of end_of (a ∷ b ∷ [])
two_ends _ = None

-- two ends that are there; the form of both is tried first
abbrev pub ends_of : List Named → Key → List (List ℕ) → Result (List End) What
ends_of nodes key ts = ok_or (two_ends ts) (BadValue key) >>= λ es. ok_or (each_of (end_named nodes) es) NoSuchName

abbrev pub ends : List Named → Key → Data → Result (List End) What
ends nodes key d = texts faults key d >>= ends_of nodes key

unfoldable pub link_in : List Named → Members → Result (List End) What
link_in nodes ms = do
  _ ← only (key.Ends ∷ []) ms
  needed faults key.Ends (ends nodes) ms
