-- The names of nodes, as captures and lists show them.
--     name_of       the name of a node
--     port_text     a port of a node
--     node_called   the node that a word names
use Rattle.std.specs.Prelude.{ℕ, ◌==◌, nat_lt, if◌then◌else◌, List, [], ◌∷◌, ◌++◌, codes, length, position, slice_get, Option, Some, None}
use Rattle.std.specs.Fmt.{decimal}
use Rattle.std.specs.Option.{option_and_then, option_or}
use Rattle.std.specs.Str.{bytes_eq}
use Rattle.hsr_text.specs.Words.{decimal_of}
use Rattle.hsr_node.specs.Words.{letter}
use Rattle.hsr_node.specs.declared.place.Place.{Place}
use Rattle.hsr_topology.specs.declared.end.End.{End}

-- the name of a node; n and its number, where it has none
abbrev pub name_or : ℕ → Option (List ℕ) → List ℕ
name_or k None = codes "n" ++ decimal k
name_or k (Some name) = name

unfoldable pub name_of : List (List ℕ) → ℕ → List ℕ
name_of names k = name_or k (slice_get names k)

-- a port of a node: its name, what parts them, and its letter
abbrev pub letter_if : Option Place → ℕ → List ℕ
letter_if None port = []
letter_if (Some place) port = letter place port ∷ []

unfoldable pub port_text : List ℕ → List (List ℕ) → List Place → End → List ℕ
port_text parted names places end = name_of names end.node ++ parted ++ letter_if (slice_get places end.node) end.port

-- the number that stands behind an n
abbrev pub number_called : List ℕ → Option ℕ
number_called [] = None
number_called (c ∷ digits) = if c == 110 then decimal_of digits else None

-- a node that has no name
abbrev pub unnamed : List (List ℕ) → ℕ → Option ℕ
unnamed names k = if nat_lt k (length names) then None else Some k

-- the node that has a word as its name, or has none and this number
abbrev pub node_called : List (List ℕ) → List ℕ → Option ℕ
node_called names word = option_or (position (λ name. bytes_eq name word) names) (option_and_then (unnamed names) (number_called word))
