-- Sends, and names of nodes.
--     send_text    a send
--     nodes_text   names of nodes
use Rattle.std.specs.Prelude.{ℕ, List, [], ◌∷◌, ◌++◌, codes}
use Rattle.std.specs.Fmt.{decimal}
use Rattle.std.specs.List.{flat_map}
use Rattle.hsr_node.specs.declared.event.Probe.{Probe}
use Rattle.hsr_timeline.specs.Names.{name_of}

-- a send, by the name of its node and its place
unfoldable pub send_text : List (List ℕ) → Probe → List ℕ
send_text names send = name_of names send.node ++ codes ":" ++ decimal send.place

abbrev pub next_node : List (List ℕ) → ℕ → List ℕ
next_node names k = codes ", " ++ name_of names k

-- names of nodes behind a word, parted by commas; nothing where there are none
abbrev pub nodes_text : List (List ℕ) → List ℕ → List ℕ → List ℕ
nodes_text names word [] = []
nodes_text names word (k ∷ ks) = word ++ name_of names k ++ flat_map (next_node names) ks
