-- The channels that start at each node.
use Rattle.std.specs.Prelude.{ℕ, ◌+◌, ◌==◌, ◌≡◌, if◌then◌else◌, List, [], ◌∷◌, ◌++◌, length, map}
use Rattle.std.specs.List.{range_with_len}
use Rattle.hsr_link.specs.declared.row.Dir.{Dir}
use Rattle.hsr_link.specs.declared.row.Dir.TheVariants.{Forth, Back}
use Rattle.hsr_run_laws.specs.Run.{Run, from_end}
use Rattle.hsr_network_laws.specs.Network.{Channel}
use Rattle.hsr_topology.specs.declared.end.End.{End}

-- a direction of a link, where it starts at a node
abbrev pub channel_from : ℕ → ℕ → List End → Dir → List Channel
channel_from node l ends dir = if (from_end dir ends).node == node then record { link = l; dir = dir } ∷ [] else []

-- the channels that start at a node, of the links from the l-th on
abbrev pub channels_from : ℕ → ℕ → List (List End) → List Channel
channels_from node l [] = []
channels_from node l (ends ∷ links) =
    channel_from node l ends Forth ++ (channel_from node l ends Back ++ channels_from node (l + 1) links)

-- of each node below a number
abbrev pub starting_in : ℕ → List (List End) → List (List Channel)
starting_in nodes links = map (λ n. channels_from n 0 links) (range_with_len 0 nodes)

abbrev pub AreStarting : Run → List (List Channel) → Type 0
AreStarting run all = all ≡ starting_in (length run.places) run.links
