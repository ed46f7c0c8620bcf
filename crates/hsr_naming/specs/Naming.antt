-- What a report calls nodes, entries and ports: their numbers, or their names. Where there is no name, the number stands.
--     node_text    a node
--     send_text    an entry that is a send
--     entry_text   any entry
--     port_text    a port
use Rattle.std.specs.Prelude.{ℕ, List, [], ◌∷◌, ◌++◌, codes, slice_get, Option, Some, None, Vec}
use Rattle.std.specs.Fmt.{decimal}
use Rattle.std.specs.Global.{Global}
use Rattle.std.specs.Option.{option_and_then}
use Rattle.hsr_node.specs.declared.event.Probe.{Probe}
use Rattle.hsr_node.specs.declared.place.Place.{Place}
use Rattle.hsr_topology.specs.declared.end.End.{End}
use Rattle.hsr_timeline.specs.Names.{letter_if}
use Rattle.hsr_naming.specs.declared.names.EntryName.{EntryName}
use Rattle.hsr_naming.specs.declared.naming.Naming.{Naming}
use Rattle.hsr_naming.specs.declared.naming.Naming.TheVariants as naming

-- ---- nodes

abbrev pub name_or : ℕ → Option (Vec ℕ Global) → List ℕ
name_or k None = decimal k
name_or k (Some name) = name.items

abbrev pub node_text : Naming → ℕ → List ℕ
node_text naming.Numbers k = decimal k
node_text (naming.Names names) k = name_or k (slice_get names.nodes.items k)

-- ---- entries

-- what is told of an entry beside its number, if anything is
abbrev pub entry_of : Naming → Probe → Option EntryName
entry_of naming.Numbers send = None
entry_of (naming.Names names) send = option_and_then (λ (entries : Vec EntryName Global). slice_get entries.items send.place) (slice_get names.entries.items send.node)

-- the stream that sent it, behind a slash; nothing where none did
abbrev pub stream_text : List ℕ → List ℕ
stream_text [] = []
stream_text (c ∷ cs) = codes "/" ++ (c ∷ cs)

-- its place in its node's record, between its moment in microseconds and its stream
unfoldable pub known_text : EntryName → ℕ → List ℕ
known_text entry place = codes "@" ++ decimal entry.at ++ codes "us:" ++ decimal place ++ stream_text entry.stream.items

abbrev pub place_text : ℕ → Option EntryName → List ℕ
place_text place None = codes ":" ++ decimal place
place_text place (Some entry) = known_text entry place

-- a send: its node, and its place
unfoldable pub send_text : Naming → Probe → List ℕ
send_text naming send = node_text naming send.node ++ place_text send.place (entry_of naming send)

-- any entry: by numbers as its node and place, by names as a send
abbrev pub entry_text : Naming → ℕ → ℕ → List ℕ
entry_text naming.Numbers k place = decimal k ++ codes " " ++ decimal place
entry_text (naming.Names names) k place = send_text (naming.Names names) (record { node = k; place = place })

-- ---- ports

-- a port: its node, and the letter that its kind has for the port
unfoldable pub port_text : Naming → List Place → End → List ℕ
port_text naming places end = node_text naming end.node ++ codes "." ++ letter_if (slice_get places end.node) end.port
