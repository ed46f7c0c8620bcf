-- Nodes and ends of links by their names.
--     node_name   the name of a node
--     end_text    an end: qb2.A
--     ends_text   both ends of a link, each behind a space:  prot1.B qb2.A
use Rattle.std.specs.Prelude.{ℕ, List, [], ◌∷◌, ◌++◌, codes, slice_get, Option, Some, None}
use Rattle.hsr_node.specs.Words.{letter}
use Rattle.hsr_topology.specs.declared.end.End.{End}
use Rattle.hsr_plan_network.specs.Nodes.{Node}

abbrev pub name_if : Option Node → List ℕ
name_if None = []
name_if (Some node) = node.name

abbrev pub node_name : List Node → ℕ → List ℕ
node_name nodes k = name_if (slice_get nodes k)

abbrev pub letter_if : Option Node → ℕ → ℕ
letter_if None port = 63
letter_if (Some node) port = letter node.place port

unfoldable pub end_text : List Node → End → List ℕ
end_text nodes end = node_name nodes end.node ++ codes "." ++ letter_if (slice_get nodes end.node) end.port ∷ []

-- each behind a space
abbrev pub ends_text : List Node → List End → List ℕ
ends_text nodes (a ∷ b ∷ []) = codes " " ++ end_text nodes a ++ codes " " ++ end_text nodes b
ends_text nodes _ = []

abbrev pub ends_if : List Node → Option (List End) → List ℕ
ends_if nodes None = []
ends_if nodes (Some link) = ends_text nodes link
