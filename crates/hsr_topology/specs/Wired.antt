-- What holds of the nodes and links of a topology, in the words of those who use one.
use Rattle.std.specs.Prelude.{Bool, true, Some, ℕ, ◌<◌, ◌≤◌, ◌≡◌, false, List, [], ◌∷◌, ◌++◌, length, slice_index_or, ⊤}
use Rattle.std.specs.List.{All}
use Rattle.hsr_frame.specs.Address.{IsGroup, is_same_address}
use Rattle.hsr_node.specs.Place.{HasOwnAddress}
use Rattle.hsr_node.specs.declared.place.Place.{Place}
use Rattle.hsr_node.specs.declared.place.Place.TheVariants.{Danh, RedBox, QuadBox, Station}
use Rattle.hsr_topology.specs.Links.{faces_wrongly, is_first_in, is_same_end, link_from}
use Rattle.hsr_node.specs.Place.{ports}
use Rattle.hsr_topology.specs.declared.end.End.{End}

-- ---- nodes

-- no address stands twice
abbrev pub AreDifferent : List (List ℕ) → Type 0
AreDifferent [] = ⊤
AreDifferent (mac ∷ macs) = All (λ other. is_same_address other mac ≡ false) macs × AreDifferent macs

-- the addresses of a station: one at least, each once, and no group's
pub record AreAddresses (macs : List (List ℕ)) : Type 0 where
  pub some : 0 < length macs
  pub own : All (λ mac. ¬ IsGroup mac) macs
  pub different : AreDifferent macs

abbrev pub HasAddresses : Place → Type 0
HasAddresses (Danh mac mode) = ⊤
HasAddresses (RedBox mac mode) = ⊤
HasAddresses QuadBox = ⊤
HasAddresses (Station macs) = AreAddresses macs.items

-- ---- links

-- a port that is there
pub record HasPort (places : List Place) (end : End) : Type 0 where
  pub node : end.node < length places
  pub port : (d : Place) → end.port < ports (slice_index_or places end.node d)

-- the ends of one link: ports of two nodes, and what faces an interlink is a station
pub record AreJoined (places : List Place) (a b : End) : Type 0 where
  pub first : HasPort places a
  pub second : HasPort places b
  pub apart : ¬ (a.node ≡ b.node)
  pub forth : faces_wrongly places a b ≡ false
  pub back : faces_wrongly places b a ≡ false

-- a link has two ends, which are such
abbrev pub IsJoin : List Place → List End → Type 0
IsJoin places [] = ⊥
IsJoin places (a ∷ []) = ⊥
IsJoin places (a ∷ b ∷ []) = AreJoined places a b
IsJoin places (a ∷ b ∷ c ∷ ends) = ⊥

abbrev pub ends_of : List (List End) → List End
ends_of [] = []
ends_of (link ∷ links) = link ++ ends_of links

-- no end stands twice
abbrev pub AreDistinct : List End → Type 0
AreDistinct [] = ⊤
AreDistinct (end ∷ ends) = All (λ other. is_same_end other end ≡ false) ends × AreDistinct ends

-- ---- all

pub record IsWired (places : List Place) (links : List (List End)) : Type 0 where
  pub few_places : length places ≤ 64
  pub few_links : length links ≤ 128
  -- as `Node::new` asks for
  pub own : All HasOwnAddress places
  pub stations : All HasAddresses places
  pub joined : All (IsJoin places) links
  pub distinct : AreDistinct (ends_of links)

-- ---- the link of a port

-- a link that has this end, and whether the end is its first
pub record IsLinkOf (links : List (List End)) (end : End) (at : ℕ × Bool) : Type 0 where
  pub below : at.0 < length links
  pub side : (d : List End) → is_first_in end (slice_index_or links at.0 d) ≡ Some at.1

-- both ends of each link lead to it
abbrev pub EndsLeadBack : List (List End) → Type 0
EndsLeadBack links = (l : ℕ) (d : List End) (a b : End) → l < length links → slice_index_or links l d ≡ a ∷ b ∷ []
    → (link_from 0 links a ≡ Some (l, true)) × (link_from 0 links b ≡ Some (l, false))
