-- Nodes and links that are wired have no fault.
use Rattle.std.proofs.Common.{sym, ◌∙◌, ◌≡◌, ℕ, zero, suc, ◌<◌, ◌≤◌, ◌||◌, ◌==◌, not, nat_lt, Bool, true, false, cond, List, [], ◌∷◌, ◌++◌, length, refl, arith, Option, Some, None, slice_index_or}
use Rattle.std.specs.Prelude.{slice_get}
use Rattle.std.specs.List.{All}
use Rattle.std.specs.Option.{option_or}
use Rattle.std.proofs.lemmas.Option.{none-some}
use Rattle.std.proofs.lemmas.Bool.{false≢true, or_from, lt-ltb, not_from_true}
use Rattle.std.proofs.lemmas.Bool.Decides.{nat_tests}
use Rattle.std.proofs.lemmas.List.Elements.{All-head, All-tail}
use Rattle.std.proofs.lemmas.List.Folds.{list_any-append, list_any_none}
use Rattle.hsr_frame.specs.Address.{IsGroup, is_among, is_group, is_same_address}
use Rattle.hsr_node.specs.Place.{HasOwnAddress}
use Rattle.hsr_node.specs.declared.place.Place.{Place}
use Rattle.hsr_node.specs.declared.place.Place.TheVariants.{Danh, RedBox, QuadBox, Station}
use Rattle.hsr_topology.specs.Links.{fault_between, faces_wrongly, has_port, is_end_of, is_port_of, is_same_end, is_used, links_fault}
use Rattle.hsr_topology.specs.Nodes.{has_group, has_twice, is_bad_node}
use Rattle.hsr_node.specs.Place.{ports}
use Rattle.hsr_topology.specs.Topology.{topology_fault}
use Rattle.hsr_topology.specs.Wired.{AreAddresses, AreDifferent, AreDistinct, AreJoined, HasAddresses, HasPort, IsJoin, IsWired, ends_of}
use Rattle.hsr_topology.specs.declared.end.End.{End}
use Rattle.hsr_topology.specs.declared.fault.TopologyFault.{TopologyFault}
use Rattle.hsr_topology.specs.declared.fault.TopologyFault.TheVariants.{TooMany, BadNode, NoSuchPort, PortTwice, WrongPeer}
use Rattle.hsr_topology.proofs.Addresses.{All-map}
use Rattle.hsr_topology.proofs.Wired.{wired}

-- ---- nodes

eqb_differ : (a b : ℕ) → ¬ (a ≡ b) → (a == b) ≡ false
eqb_differ a b h = grind (arith, nat_tests)

pub no_group : (mac : List ℕ) → ¬ IsGroup mac → is_group mac ≡ false
no_group mac h = eqb_differ _ 1 h

none_twice : (macs : List (List ℕ)) → AreDifferent macs → has_twice macs ≡ false
none_twice [] h = refl
none_twice (mac ∷ macs) h = or_from (is_among macs mac) (has_twice macs) (list_any_none (λ other. is_same_address other mac) macs h.0) (none_twice macs h.1)

own_addresses : (macs : List (List ℕ)) → AreAddresses macs → ((length macs == 0) || has_group macs || has_twice macs) ≡ false
own_addresses macs h =
    let groups = list_any_none is_group macs (All-map (λ mac. ¬ IsGroup mac) (λ mac. is_group mac ≡ false) macs no_group h.own) in
    let empty = eqb_differ (length macs) 0 (λ e. omega (arith, e, h.some)) in
    or_from ((length macs == 0) || has_group macs) (has_twice macs) (or_from (length macs == 0) (has_group macs) empty groups) (none_twice macs h.different)

good_node : (place : Place) → HasOwnAddress place → HasAddresses place → is_bad_node place ≡ false
good_node (Danh mac mode) own h = no_group mac own
good_node (RedBox mac mode) own h = no_group mac own
good_node QuadBox own h = refl
good_node (Station macs) own h = own_addresses macs.items h

-- ---- links

no_case : (b : Bool) (fault : TopologyFault) (rest : Option TopologyFault) → b ≡ false → rest ≡ None → cond b (Some fault) rest ≡ None
no_case true fault rest e h = absurd cc
no_case false fault rest e h = h

no_fault : (one rest : Option TopologyFault) → one ≡ None → rest ≡ None → option_or one rest ≡ None
no_fault None rest e h = h
no_fault (Some fault) rest e h = absurd cc

port_there : (places : List Place) (node port : ℕ) → node < length places → ((d : Place) → port < ports (slice_index_or places node d)) → is_port_of (slice_get places node) port ≡ true
port_there [] node port below h = absurd (omega (arith, below))
port_there (place ∷ places) zero port below h = lt-ltb _ _ (h place)
port_there (place ∷ places) (suc node) port below h = port_there places node port (omega (arith, below)) h

is_there : (places : List Place) (end : End) → HasPort places end → not (has_port places end) ≡ false
is_there places end h = not_from_true _ (port_there places end.node end.port h.node h.port)

faultless : (places : List Place) (earlier : List (List End)) (a b : End) → AreJoined places a b → is_used earlier a ≡ false → is_used earlier b ≡ false → is_same_end b a ≡ false
    → fault_between places earlier a b ≡ None
faultless places earlier a b joined first second differ =
    let there = or_from (not (has_port places a)) (not (has_port places b)) (is_there places a joined.first) (is_there places b joined.second) in
    let unused = or_from (is_used earlier a) (is_used earlier b) first second in
    let once = or_from (is_used earlier a || is_used earlier b) (is_same_end b a) unused differ in
    let apart = or_from (a.node == b.node) (faces_wrongly places a b) (eqb_differ a.node b.node joined.apart) joined.forth in
    let peers = or_from ((a.node == b.node) || faces_wrongly places a b) (faces_wrongly places b a) apart joined.back in
    no_case _ NoSuchPort _ there (no_case _ PortTwice _ once (no_case _ WrongPeer None peers refl))

-- an end that is in none of the links, nor in one more
unused : (earlier : List (List End)) (a b end : End) → is_used earlier end ≡ false → is_same_end end a ≡ false → is_same_end end b ≡ false
    → is_used (earlier ++ (a ∷ b ∷ []) ∷ []) end ≡ false
unused earlier a b end none not_a not_b =
    let last = or_from (is_same_end end a) (is_same_end end b || false) not_a (or_from (is_same_end end b) false not_b refl) in
    list_any-append (is_end_of end) earlier ((a ∷ b ∷ []) ∷ []) ∙ or_from (is_used earlier end) (is_end_of end (a ∷ b ∷ []) || false) none (or_from (is_end_of end (a ∷ b ∷ [])) false last refl)

rightly : (places : List Place) (earlier links : List (List End)) → All (IsJoin places) links → All (λ end. is_used earlier end ≡ false) (ends_of links) → AreDistinct (ends_of links)
    → links_fault places earlier links ≡ None
rightly places earlier [] joins none once = refl
rightly places earlier ([] ∷ links) joins none once = absurd (All-head (IsJoin places) [] links joins)
rightly places earlier ((a ∷ []) ∷ links) joins none once = absurd (All-head (IsJoin places) (a ∷ []) links joins)
rightly places earlier ((a ∷ b ∷ []) ∷ links) joins none once =
    let joined = All-head (IsJoin places) (a ∷ b ∷ []) links joins in
    let ends = ends_of links in
    let other = λ (end : End). is_used earlier end ≡ false in
    let not_a = λ (end : End). is_same_end end a ≡ false in
    let first = All-head other a (b ∷ ends) none in
    let second = All-head other b ends (All-tail other a (b ∷ ends) none) in
    let others = All-tail other b ends (All-tail other a (b ∷ ends) none) in
    let but_a = All-tail not_a b ends once.0 in
    let after = λ (k : ℕ) (d : End) (lt : k < length ends). unused earlier a b _ (others k d lt) (but_a k d lt) (once.1.0 k d lt) in
    let rest = rightly places (earlier ++ (a ∷ b ∷ []) ∷ []) links (All-tail (IsJoin places) (a ∷ b ∷ []) links joins) after once.1.1 in
    no_fault _ _ (faultless places earlier a b joined first second (All-head not_a b ends once.0)) rest
rightly places earlier ((a ∷ b ∷ c ∷ ends) ∷ links) joins none once = absurd (All-head (IsJoin places) (a ∷ b ∷ c ∷ ends) links joins)

-- ---- all

not_over : (most n : ℕ) → n ≤ most → nat_lt most n ≡ false
not_over most n h = grind (arith, nat_tests)

pub rightly_wired : (places : List Place) (links : List (List End)) → IsWired places links → topology_fault places links ≡ None
unfolding topology_fault
rightly_wired places links h =
    let few = or_from (nat_lt 64 (length places)) (nat_lt 128 (length links)) (not_over 64 _ h.few_places) (not_over 128 _ h.few_links) in
    let good = list_any_none is_bad_node places (λ k d lt. good_node _ (h.own k d lt) (h.stations k d lt)) in
    no_case _ TooMany _ few (no_case _ BadNode _ good (rightly places [] links h.joined (λ k d lt. refl) h.distinct))

-- the answer to nodes and links without a fault, and with one
pub sound_where_none : (places : List Place) (links : List (List End)) → topology_fault places links ≡ None → (true ≡ true → IsWired places links) × (IsWired places links → true ≡ true)
sound_where_none places links h = (λ ok. wired places links h, λ w. refl)

pub sound_where_some : (places : List Place) (links : List (List End)) (fault : TopologyFault) → topology_fault places links ≡ Some fault → (false ≡ true → IsWired places links) × (IsWired places links → false ≡ true)
sound_where_some places links fault h = (λ ok. absurd (false≢true ok), λ w. absurd (none-some fault (sym (rightly_wired places links w) ∙ h)))
