-- What of a network holds of each topology that a finished run has: it has to be tested only that all nodes are in mode H
-- or U, that no address is two nodes', and that each link joins two ring ports or two edges.
use Rattle.std.proofs.Common.{◌≡◌, ℕ, ◌<◌, ◌&&◌, ◌%◌, Bool, true, false, not, List, [], ◌∷◌, length, Some, refl, sym, ap, ◌∙◌, subst, arith, ⊎_elim, zero, suc, slice_index_or, eqb-true}
use Rattle.std.specs.Prelude.{slice_get, slice_index}
use Rattle.std.specs.List.{All}
use Rattle.std.proofs.lemmas.Bool.{false≢true, cases_Bool}
use Rattle.std.proofs.lemmas.List.Elements.{All-head, All-tail}
use Rattle.hsr_frame.specs.Address.{IsGroup, is_group}
use Rattle.hsr_node.specs.Place.{HasOwnAddress}
use Rattle.hsr_node.specs.declared.place.Place.{Place}
use Rattle.hsr_node.specs.declared.place.Place.TheVariants.{Danh, RedBox, QuadBox, Station}
use Rattle.hsr_link.specs.declared.row.Dir.{Dir}
use Rattle.hsr_link.specs.declared.row.Dir.TheVariants.{Forth, Back}
use Rattle.hsr_network_laws.specs.Network.{HasAddress, IsPortOf, IsNetwork, Channel, is_edge, is_edge_of, is_in_h_or_u, is_station, is_station_of, start_of, stop_of}
use Rattle.hsr_run_laws.specs.Run.{Run, ends_of, from_end, place_of, to_end}
use Rattle.hsr_topology.specs.Wired.{AreJoined, EndsLeadBack, HasAddresses, HasPort, IsJoin, IsWired}
use Rattle.hsr_topology.specs.declared.end.End.{End}
use Rattle.hsr_topology.specs.Links as of_links

all_at : {A : Type 0} (P : A → Type 0) (xs : List A) → All P xs → (i : ℕ) (d : A) → i < length xs → P (slice_index_or xs i d)
all_at P [] all i d h = absurd (omega arith)
all_at P (x ∷ xs) all zero d h = All-head P x xs all
all_at P (x ∷ xs) all (suc i) d h = all_at P xs (All-tail P x xs all) i d (omega (arith, h))

got : {A : Type 0} (xs : List A) (i : ℕ) (d : A) → i < length xs → slice_get xs i ≡ Some (slice_index_or xs i d)
got [] i d h = absurd (omega arith)
got (x ∷ xs) zero d h = refl
got (x ∷ xs) (suc i) d h = got xs i d (omega (arith, h))

all_got : {A : Type 0} (P : A → Type 0) (xs : List A) → All P xs → (i : ℕ) (x : A) → slice_get xs i ≡ Some x → P x
all_got P [] all i x e = absurd cc
all_got P (y ∷ xs) all zero x e = let same : Some y ≡ Some x = e in let equal : y ≡ x = cc in subst P equal (All-head P y xs all)
all_got P (y ∷ xs) all (suc i) x e = all_got P xs (All-tail P y xs all) i x e

-- the two ends of a link
record IsPair (places : List Place) (ends : List End) : Type 0 where
  a : End
  b : End
  is : ends ≡ a ∷ b ∷ []
  joined : AreJoined places a b

pair_of : (places : List Place) (ends : List End) → IsJoin places ends → IsPair places ends
pair_of places [] j = absurd j
pair_of places (a ∷ []) j = absurd j
pair_of places (a ∷ b ∷ []) j = record { a = a; b = b; is = refl; joined = j }
pair_of places (a ∷ b ∷ c ∷ ends) j = absurd j

no_group : (mac : List ℕ) → (IsGroup mac → ⊥) → is_group mac ≡ false
no_group mac h = ⊎_elim (λ yes. absurd (h (eqb-true (slice_index mac 0 % 2) 1 yes))) (λ no. no) (cases_Bool (is_group mac))

single_in : (place : Place) (address : List ℕ) → HasOwnAddress place → HasAddresses place → HasAddress place address → is_group address ≡ false
single_in (Danh mac mode) address own stations e = ap is_group e ∙ no_group mac own
single_in (RedBox mac mode) address own stations e = ap is_group e ∙ no_group mac own
single_in QuadBox address own stations e = absurd e
single_in (Station macs) address own stations e = no_group address (all_got (λ mac. ¬ IsGroup mac) macs.items stations.own e.0 address e.1)

-- an edge that is no Station's is an interlink
interlink : (place : Place) (port : ℕ) → is_edge place port ≡ true → is_station place ≡ false → of_links.is_interlink_of (Some place) port ≡ true
interlink (Danh mac mode) port e s = absurd (false≢true e)
interlink (RedBox mac mode) port e s = e
interlink QuadBox port e s = absurd (false≢true e)
interlink (Station macs) port e s = absurd (false≢true (sym s))

station_is : (place : Place) → of_links.is_a_station (Some place) ≡ true → is_station place ≡ true
station_is (Danh mac mode) h = absurd (false≢true h)
station_is (RedBox mac mode) h = absurd (false≢true h)
station_is QuadBox h = absurd (false≢true h)
station_is (Station macs) h = refl

module _ (run : Run) (wired : IsWired run.places run.links) (back : EndsLeadBack run.links) where
  pair_at : (l : ℕ) → l < length run.links → IsPair run.places (ends_of run l)
  pair_at l h = pair_of run.places (ends_of run l) (all_at (IsJoin run.places) run.links wired.joined l [] h)

  port_of : (end : End) → HasPort run.places end → IsPortOf run end
  port_of end p = record { node = p.node; port = p.port QuadBox }

  end_there : (l : ℕ) (dir : Dir) → l < length run.links → IsPortOf run (from_end dir (ends_of run l))
  end_there l Forth h = let p = pair_at l h in let E : List End → Type 0 = λ ends. IsPortOf run (from_end Forth ends) in subst E (sym p.is) (port_of p.a p.joined.first)
  end_there l Back h = let p = pair_at l h in let E : List End → Type 0 = λ ends. IsPortOf run (from_end Back ends) in subst E (sym p.is) (port_of p.b p.joined.second)

  -- what faces an interlink is a Station
  faced : (a b : End) → HasPort run.places a → HasPort run.places b → of_links.faces_wrongly run.places a b ≡ false → is_edge (place_of run a.node) a.port ≡ true → is_station (place_of run a.node) ≡ false → is_station (place_of run b.node) ≡ true
  faced a b pa pb right e s =
      let here : of_links.is_interlink run.places a ≡ true = ap (λ o. of_links.is_interlink_of o a.port) (got run.places a.node QuadBox pa.node) ∙ interlink (place_of run a.node) a.port e s in
      let there : of_links.is_station run.places b ≡ true = second (of_links.is_interlink run.places a) (of_links.is_station run.places b) here right in
      station_is (place_of run b.node) (sym (ap of_links.is_a_station (got run.places b.node QuadBox pb.node)) ∙ there)
    where
      second : (p q : Bool) → p ≡ true → (p && not q) ≡ false → q ≡ true
      second true true h r = refl
      second true false h r = absurd (false≢true (sym r))
      second false q h r = absurd (false≢true h)

  faces_at : (l : ℕ) (dir : Dir) → l < length run.links → is_edge_of run (from_end dir (ends_of run l)) ≡ true → is_station_of run (from_end dir (ends_of run l)) ≡ false → is_station_of run (to_end dir (ends_of run l)) ≡ true
  faces_at l Forth h =
      let p = pair_at l h in
      let E : List End → Type 0 = λ ends. is_edge_of run (from_end Forth ends) ≡ true → is_station_of run (from_end Forth ends) ≡ false → is_station_of run (to_end Forth ends) ≡ true in
      subst E (sym p.is) (faced p.a p.b p.joined.first p.joined.second p.joined.forth)
  faces_at l Back h =
      let p = pair_at l h in
      let E : List End → Type 0 = λ ends. is_edge_of run (from_end Back ends) ≡ true → is_station_of run (from_end Back ends) ≡ false → is_station_of run (to_end Back ends) ≡ true in
      subst E (sym p.is) (faced p.b p.a p.joined.second p.joined.first p.joined.back)

  -- the link of the port from which a channel starts, and whether that is its first end
  abbrev is_forth : Dir → Bool
  is_forth Forth = true
  is_forth Back = false

  leads_back : (l : ℕ) (dir : Dir) → l < length run.links → of_links.link_from 0 run.links (from_end dir (ends_of run l)) ≡ Some (l, is_forth dir)
  leads_back l Forth h =
      let p = pair_at l h in
      ap (λ ends. of_links.link_from 0 run.links (from_end Forth ends)) p.is ∙ (back l [] p.a p.b h p.is).0
  leads_back l Back h =
      let p = pair_at l h in
      ap (λ ends. of_links.link_from 0 run.links (from_end Back ends)) p.is ∙ (back l [] p.a p.b h p.is).1

  apart_at : (channel other : Channel) → channel.link < length run.links → other.link < length run.links → start_of run channel ≡ start_of run other → stop_of run channel ≡ stop_of run other
  apart_at channel other g h e =
      let both = pair_same (channel.link, is_forth channel.dir) (other.link, is_forth other.dir) (sym (leads_back channel.link channel.dir g) ∙ (ap (of_links.link_from 0 run.links) e ∙ leads_back other.link other.dir h)) in
      let link : channel.link ≡ other.link = ap (λ (p : ℕ × Bool). p.0) both in
      let dir : is_forth channel.dir ≡ is_forth other.dir = ap (λ (p : ℕ × Bool). p.1) both in
      same_stop channel.dir other.dir dir ∙ ap (λ l. to_end other.dir (ends_of run l)) link
    where
      pair_same : (a b : ℕ × Bool) → Some a ≡ Some b → a ≡ b
      pair_same a b e = cc

      same_stop : (d f : Dir) → is_forth d ≡ is_forth f → to_end d (ends_of run channel.link) ≡ to_end f (ends_of run channel.link)
      same_stop Forth Forth e = refl
      same_stop Back Back e = refl
      same_stop Forth Back e = absurd (false≢true (sym e))
      same_stop Back Forth e = absurd (false≢true e)

  pub wired_network : ((k : ℕ) → k < length run.places → is_in_h_or_u (place_of run k) ≡ true) →
      ((i j : ℕ) (mac : List ℕ) → i < length run.places → j < length run.places → HasAddress (place_of run i) mac → HasAddress (place_of run j) mac → i ≡ j) →
      ((channel : Channel) → channel.link < length run.links → is_edge_of run (start_of run channel) ≡ is_edge_of run (stop_of run channel)) → IsNetwork run
  wired_network modes differ sides = record {
    modes = modes;
    single = λ k mac h e. single_in (place_of run k) mac (all_at HasOwnAddress run.places wired.own k QuadBox h) (all_at HasAddresses run.places wired.stations k QuadBox h) e;
    differ = differ;
    ends = λ channel h. end_there channel.link channel.dir h;
    sides = sides;
    faces = λ channel h e s. faces_at channel.link channel.dir h e s;
    apart = apart_at;
  }
