-- What a network asks of nodes and links.
--     AreGoingRound      all nodes are in mode H or U
--     HaveOwnAddresses   no address is two nodes'
--     HasLikeEnds        a link joins two ports on rings, or two edges
--     IsFirstUnlike      the lowest link that joins what is unlike
use Rattle.std.specs.Prelude.{ℕ, ◌<◌, ◌≡◌, true, List, length}
use Rattle.hsr_link.specs.declared.row.Dir.TheVariants.{Forth}
use Rattle.hsr_run_laws.specs.Run.{Run, ends_of, from_end, place_of, to_end}
use Rattle.hsr_network_laws.specs.Network.{HasAddress, is_edge_of, is_in_h_or_u}

abbrev pub AreGoingRound : Run → Type 0
AreGoingRound run = (k : ℕ) → k < length run.places → is_in_h_or_u (place_of run k) ≡ true

-- no address is two nodes'
abbrev pub HaveOwnAddresses : Run → Type 0
HaveOwnAddresses run = (i j : ℕ) (mac : List ℕ) → i < length run.places → j < length run.places → HasAddress (place_of run i) mac → HasAddress (place_of run j) mac → i ≡ j

-- a link joins two ports on rings, or two edges
abbrev pub HasLikeEnds : Run → ℕ → Type 0
HasLikeEnds run l = is_edge_of run (from_end Forth (ends_of run l)) ≡ is_edge_of run (to_end Forth (ends_of run l))

-- the lowest link that joins a port on a ring and an edge
pub record IsFirstUnlike (run : Run) (l : ℕ) : Type 0 where
  pub below : l < length run.links
  pub unlike : ¬ HasLikeEnds run l
  pub before : (m : ℕ) → m < l → HasLikeEnds run m
