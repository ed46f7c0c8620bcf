-- The links of a network.
use Rattle.std.specs.Prelude.{ℕ, ◌+◌, ◌%◌, ◌==◌, List, [], ◌∷◌, ◌++◌, length, map, slice_get, Option, Some, None, if◌then◌else◌}
use Rattle.hsr_topology.specs.declared.end.End.{End}
use Rattle.hsr_plan_text.specs.Plan.{Network}
use Rattle.hsr_plan_network.specs.Names.{met_first, number}
use Rattle.hsr_plan_network.specs.Nodes.{boxes_of, names_of}

-- A and B in the ring in which a node is met first, C and D in another
abbrev pub side : List (List (List ℕ)) → ℕ → List ℕ → ℕ
side rings r n = if met_first rings n == r then 0 else 2

abbrev pub end_at : List (List ℕ) → ℕ → List ℕ → End
end_at names port n = record { node = number names n; port = port }

abbrev pub next_if : List (List ℕ) → Option (List ℕ) → List ℕ
next_if ring None = []
next_if ring (Some n) = n

-- the name that follows round the ring
abbrev pub next : List (List ℕ) → List ℕ → List ℕ
next ring n = next_if ring (slice_get ring ((number ring n + 1) % length ring))

-- from B (or D) of a node to A (or C) of the next
unfoldable pub ring_link : List (List (List ℕ)) → List (List ℕ) → ℕ → List (List ℕ) → List ℕ → List End
ring_link rings names r ring n =
    end_at names (side rings r n + 1) n ∷ end_at names (side rings r (next ring n)) (next ring n) ∷ []

-- the links of rings that follow r others
abbrev pub ring_links : List (List (List ℕ)) → List (List ℕ) → ℕ → List (List (List ℕ)) → List (List End)
ring_links rings names r [] = []
ring_links rings names r (ring ∷ more) = map (ring_link rings names r ring) ring ++ ring_links rings names (r + 1) more

-- from I of a RedBox to the one port of its Station
abbrev pub interlink : List (List ℕ) → List (List ℕ) → List ℕ → List End
interlink names boxes n = end_at names 2 n ∷ record { node = length names + number boxes n; port = 0 } ∷ []

-- the links ring by ring, then the interlinks
abbrev pub links_of : Network → List (List End)
links_of network =
    ring_links network.rings (names_of network) 0 network.rings ++ map (interlink (names_of network) (boxes_of network (names_of network))) (boxes_of network (names_of network))
