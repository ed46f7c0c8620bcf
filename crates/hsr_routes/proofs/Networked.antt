-- From tests of nodes and links to a network, or to the first reason why they are none.
use Rattle.std.proofs.Common.{◌≡◌, ℕ, ◌+◌, ◌<◌, true, List, [], length, slice_index_or, sym, subst, arith, ⊎_elim}
use Rattle.std.specs.List.{list_all}
use Rattle.std.proofs.lemmas.Bool.{cases_lt}
use Rattle.std.proofs.lemmas.List.{get_or_default}
use Rattle.std.proofs.lemmas.List.Elements.{All-from_get_or}
use Rattle.std.proofs.lemmas.List.Sums.{AllPass-from_list_all, list_all-from_AllPass}
use Rattle.hsr_link.specs.declared.row.Dir.{Dir}
use Rattle.hsr_link.specs.declared.row.Dir.TheVariants.{Forth, Back}
use Rattle.hsr_node.specs.declared.place.Place.{Place}
use Rattle.hsr_node.specs.declared.place.Place.TheVariants.{QuadBox}
use Rattle.hsr_topology.specs.declared.end.End.{End}
use Rattle.hsr_topology.specs.Wired.{EndsLeadBack, IsWired}
use Rattle.hsr_run_laws.specs.Run.{Run, ends_of, from_end, to_end}
use Rattle.hsr_network_laws.specs.Network.{IsNetwork, Channel, is_edge_of, is_in_h_or_u, start_of, stop_of}
use Rattle.hsr_network_laws.proofs.Wired.{wired_network}
use Rattle.hsr_routes.specs.Addressed.{AreLike, IsUnlikeAt, LikeBelow}
use Rattle.hsr_routes.specs.Networks.{AreGoingRound, HaveOwnAddresses, IsFirstUnlike}

pub rounds_all : (run : Run) → list_all is_in_h_or_u run.places ≡ true → AreGoingRound run
rounds_all run h = λ k below. AllPass-from_list_all is_in_h_or_u run.places h k QuadBox below

pub all_rounds : (run : Run) → AreGoingRound run → list_all is_in_h_or_u run.places ≡ true
all_rounds run h = list_all-from_AllPass is_in_h_or_u run.places (All-from_get_or (λ (p : Place). is_in_h_or_u p ≡ true) run.places QuadBox h)

-- one more link
pub like_more : (places : List Place) (links : List (List End)) (l : ℕ) → l < length links → AreLike places (slice_index_or links l []) →
    LikeBelow places links l → LikeBelow places links (l + 1)
like_more places links l below like before m d low =
    ⊎_elim (λ lower. before m d lower)
    (λ high.
    let same : m ≡ l = omega (arith, low, high) in
    subst (λ n. AreLike places (slice_index_or links n d)) (sym same) (subst (AreLike places) (get_or_default links l [] d below) like))
    (cases_lt m l)

pub first_unlike_is : (run : Run) (l : ℕ) → IsUnlikeAt run.places run.links l → IsFirstUnlike run l
first_unlike_is run l at = record { below = at.below; unlike = at.unlike []; before = λ m low. at.before m [] low }

pub network_is : (run : Run) → IsWired run.places run.links → EndsLeadBack run.links → AreGoingRound run → HaveOwnAddresses run → LikeBelow run.places run.links (length run.links) → IsNetwork run
network_is run wired back modes own like = wired_network run wired back modes own sides
  where
    sides_at : (l : ℕ) (dir : Dir) → l < length run.links → is_edge_of run (from_end dir (ends_of run l)) ≡ is_edge_of run (to_end dir (ends_of run l))
    sides_at l Forth below = like l [] below
    sides_at l Back below = sym (like l [] below)

    sides : (channel : Channel) → channel.link < length run.links → is_edge_of run (start_of run channel) ≡ is_edge_of run (stop_of run channel)
    sides channel below = sides_at channel.link channel.dir below
