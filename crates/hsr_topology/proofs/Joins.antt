-- Links without a fault join ports that are there, each once.
use Rattle.std.proofs.Common.{sym, ◌∙◌, ◌≡◌, ℕ, zero, suc, ◌<◌, ◌||◌, ◌==◌, not, Bool, true, false, cond, List, [], ◌∷◌, ◌++◌, length, refl, arith, Option, Some, None, slice_index_or}
use Rattle.std.specs.Prelude.{slice_get}
use Rattle.std.specs.List.{All}
use Rattle.std.specs.Option.{option_or}
use Rattle.std.proofs.lemmas.Bool.{or_parts, eqb-false, ltb-true, not-false}
use Rattle.std.proofs.lemmas.List.Elements.{All-nil, All-cons}
use Rattle.std.proofs.lemmas.List.Folds.{list_any-append}
use Rattle.hsr_node.specs.declared.place.Place.{Place}
use Rattle.hsr_topology.specs.Links.{fault_between, faces_wrongly, has_port, is_end_of, is_port_of, is_same_end, is_used, links_fault}
use Rattle.hsr_node.specs.Place.{ports}
use Rattle.hsr_topology.specs.Wired.{AreDistinct, AreJoined, HasPort, IsJoin, ends_of}
use Rattle.hsr_topology.specs.declared.end.End.{End}
use Rattle.hsr_topology.specs.declared.fault.TopologyFault.{TopologyFault}
use Rattle.hsr_topology.specs.declared.fault.TopologyFault.TheVariants.{NoSuchPort, PortTwice, WrongPeer}
use Rattle.hsr_topology.proofs.Addresses.{All-map}

-- where no case fits, the first doesn't, and none of the others
pub no_case : (b : Bool) (fault : TopologyFault) (rest : Option TopologyFault) → cond b (Some fault) rest ≡ None → (b ≡ false) × (rest ≡ None)
no_case true fault rest h = absurd cc
no_case false fault rest h = (refl, h)

no_fault : (one rest : Option TopologyFault) → option_or one rest ≡ None → (one ≡ None) × (rest ≡ None)
no_fault None rest h = (refl, h)
no_fault (Some fault) rest h = absurd cc

port_there : (places : List Place) (node port : ℕ) → is_port_of (slice_get places node) port ≡ true → (node < length places) × ((d : Place) → port < ports (slice_index_or places node d))
port_there [] node port h = absurd cc
port_there (place ∷ places) zero port h = (omega arith, λ d. ltb-true _ _ h)
port_there (place ∷ places) (suc node) port h =
    let rest = port_there places node port h in
    (omega (arith, rest.0), rest.1)

pub is_there : (places : List Place) (end : End) → has_port places end ≡ true → HasPort places end
is_there places end h = let there = port_there places end.node end.port h in record { node = there.0; port = there.1 }

-- what a link without a fault is
record Faultless (places : List Place) (earlier : List (List End)) (a b : End) : Type 0 where
  joined : AreJoined places a b
  first : is_used earlier a ≡ false
  second : is_used earlier b ≡ false
  differ : is_same_end b a ≡ false

faultless : (places : List Place) (earlier : List (List End)) (a b : End) → fault_between places earlier a b ≡ None → Faultless places earlier a b
faultless places earlier a b h =
    let one = no_case (not (has_port places a) || not (has_port places b)) NoSuchPort _ h in
    let two = no_case (is_used earlier a || is_used earlier b || is_same_end b a) PortTwice _ one.1 in
    let three = no_case ((a.node == b.node) || faces_wrongly places a b || faces_wrongly places b a) WrongPeer _ two.1 in
    let there = or_parts (not (has_port places a)) (not (has_port places b)) one.0 in
    let once = or_parts (is_used earlier a || is_used earlier b) (is_same_end b a) two.0 in
    let used = or_parts (is_used earlier a) (is_used earlier b) once.0 in
    let faces = or_parts ((a.node == b.node) || faces_wrongly places a b) (faces_wrongly places b a) three.0 in
    let peer = or_parts (a.node == b.node) (faces_wrongly places a b) faces.0 in
    record {
      joined = record {
        first = is_there places a (not-false _ there.0);
        second = is_there places b (not-false _ there.1);
        apart = eqb-false a.node b.node peer.0;
        forth = peer.1;
        back = faces.1;
      };
      first = used.0;
      second = used.1;
      differ = once.1;
    }

pub joins : (places : List Place) (earlier links : List (List End)) → links_fault places earlier links ≡ None → All (IsJoin places) links
joins places earlier [] h = All-nil _
joins places earlier ([] ∷ links) h = absurd cc
joins places earlier ((a ∷ []) ∷ links) h = absurd cc
joins places earlier ((a ∷ b ∷ []) ∷ links) h =
    let parts = no_fault (fault_between places earlier a b) _ h in
    let one = faultless places earlier a b parts.0 in
    All-cons (IsJoin places) (a ∷ b ∷ []) links one.joined (joins places (earlier ++ (a ∷ b ∷ []) ∷ []) links parts.1)
joins places earlier ((a ∷ b ∷ c ∷ ends) ∷ links) h = absurd cc

-- an end that is in none of the links, nor in one more
unused : (earlier : List (List End)) (a b end : End) → is_used (earlier ++ (a ∷ b ∷ []) ∷ []) end ≡ false
    → (is_used earlier end ≡ false) × (is_same_end end a ≡ false) × (is_same_end end b ≡ false)
unused earlier a b end h =
    let split = sym (list_any-append (is_end_of end) earlier ((a ∷ b ∷ []) ∷ [])) ∙ h in
    let parts = or_parts (is_used earlier end) (is_used ((a ∷ b ∷ []) ∷ []) end) split in
    let last = or_parts (is_end_of end (a ∷ b ∷ [])) false parts.1 in
    let both = or_parts (is_same_end end a) (is_same_end end b || false) last.0 in
    let second = or_parts (is_same_end end b) false both.1 in
    (parts.0, both.0, second.0)

-- none of the ends is used earlier, nor twice
pub distinct : (places : List Place) (earlier links : List (List End)) → links_fault places earlier links ≡ None
    → All (λ end. is_used earlier end ≡ false) (ends_of links) × AreDistinct (ends_of links)
distinct places earlier [] h = (All-nil _, tt)
distinct places earlier ([] ∷ links) h = absurd cc
distinct places earlier ((a ∷ []) ∷ links) h = absurd cc
distinct places earlier ((a ∷ b ∷ []) ∷ links) h =
    let parts = no_fault (fault_between places earlier a b) _ h in
    let one = faultless places earlier a b parts.0 in
    let rest = distinct places (earlier ++ (a ∷ b ∷ []) ∷ []) links parts.1 in
    let used = λ (end : End). is_used (earlier ++ (a ∷ b ∷ []) ∷ []) end ≡ false in
    let other = λ (end : End). is_used earlier end ≡ false in
    let not_a = λ (end : End). is_same_end end a ≡ false in
    let not_b = λ (end : End). is_same_end end b ≡ false in
    let ends = ends_of links in
    let after = All-map used other ends (λ end h. (unused earlier a b end h).0) rest.0 in
    let but_a = All-map used not_a ends (λ end h. (unused earlier a b end h).1) rest.0 in
    let but_b = All-map used not_b ends (λ end h. (unused earlier a b end h).2) rest.0 in (
      All-cons other a (b ∷ ends) one.first (All-cons other b ends one.second after),
      (All-cons not_a b ends one.differ but_a, (but_b, rest.1)),
    )
distinct places earlier ((a ∷ b ∷ c ∷ ends) ∷ links) h = absurd cc
