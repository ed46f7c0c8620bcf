-- Nodes at the ends of links are there.
use Rattle.std.proofs.Common.{ℕ, ◌<◌, zero, suc, List, [], ◌∷◌, length, slice_index_or, arith}
use Rattle.std.specs.List.{AllByRecursion}
use Rattle.std.proofs.lemmas.List.Elements.{recursion_from_All}
use Rattle.hsr_link.specs.declared.row.Dir.{Dir}
use Rattle.hsr_link.specs.declared.row.Dir.TheVariants.{Forth, Back}
use Rattle.hsr_node.specs.declared.place.Place.{Place}
use Rattle.hsr_run_laws.specs.Run.{from_end, to_end}
use Rattle.hsr_topology.specs.Wired.{IsJoin, IsWired}
use Rattle.hsr_topology.specs.declared.end.End.{End}

record AreThere (places : List Place) (dir : Dir) (link : List End) : Type 0 where
  from : (from_end dir link).node < length places
  to : (to_end dir link).node < length places

join_ends : (places : List Place) (link : List End) (dir : Dir) → IsJoin places link → AreThere places dir link
join_ends places [] dir h = elim h [ ]
join_ends places (a ∷ []) dir h = elim h [ ]
join_ends places (a ∷ b ∷ []) Forth h = record { from = h.first.node; to = h.second.node }
join_ends places (a ∷ b ∷ []) Back h = record { from = h.second.node; to = h.first.node }
join_ends places (a ∷ b ∷ c ∷ ends) dir h = elim h [ ]

there_at : (places : List Place) (links : List (List End)) (l : ℕ) (dir : Dir) → AllByRecursion (IsJoin places) links → l < length links → AreThere places dir (slice_index_or links l [])
there_at places [] l dir h below = absurd (omega arith)
there_at places (link ∷ links) zero dir h below = join_ends places link dir h.0
there_at places (link ∷ links) (suc l) dir h below = there_at places links l dir h.1 (omega (arith, below))

pub from_there : (places : List Place) (links : List (List End)) → IsWired places links → (l : ℕ) (dir : Dir) → l < length links → (from_end dir (slice_index_or links l [])).node < length places
from_there places links wired l dir below = (there_at places links l dir (recursion_from_All (IsJoin places) links wired.joined) below).from

pub to_there : (places : List Place) (links : List (List End)) → IsWired places links → (l : ℕ) (dir : Dir) → l < length links → (to_end dir (slice_index_or links l [])).node < length places
to_there places links wired l dir below = (there_at places links l dir (recursion_from_All (IsJoin places) links wired.joined) below).to
