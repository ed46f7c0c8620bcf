-- What is asked of nodes and links, and of all places of all records, and what it is to be a ring without a doubt.
use Rattle.std.proofs.Common.{◌≡◌, ◌⊎◌, ℕ, ◌+◌, ◌%◌, ◌<◌, ◌&&◌, true, List, [], ◌∷◌, length, filter_map, refl, sym, ap, ◌∙◌, subst, arith, inl, inr, ⊎_elim}
use Rattle.std.specs.List.{list_all}
use Rattle.std.proofs.lemmas.Bool.{and_from, and_parts, false≢true, or_cases, or_left, or_right}
use Rattle.hsr_frame.specs.declared.node.Mode.TheVariants.{H, N, U}
use Rattle.hsr_link.specs.declared.row.Dir.TheVariants.{Forth, Back}
use Rattle.hsr_node.specs.declared.place.Place.{Place}
use Rattle.hsr_node.specs.declared.place.Place.TheVariants.{Danh, RedBox, QuadBox, Station}
use Rattle.hsr_topology.proofs.Ends.{end_is, end_same}
use Rattle.hsr_topology.proofs.Faults.{no_group}
use Rattle.hsr_network_laws.specs.Network.{HasAddress, is_in_h_or_u}
use Rattle.hsr_routes.specs.Networks.{AreGoingRound, HaveOwnAddresses}
use Rattle.hsr_audit.specs.Danhs.{IsDanhRing, is_danh, mac_of, macs_of, mode_of}
use Rattle.hsr_topology.specs.Links.{is_same_end}
use Rattle.hsr_run_laws.specs.Premises.{IsRing, Joins, mac_at}
use Rattle.hsr_audit.specs.Round.{IsRound, address_of, is_joint, is_joint_of}
use Rattle.hsr_run_laws.specs.Run.{Run, ends_of, from_end, place_of}
use Rattle.hsr_topology.specs.declared.end.End.{End}
use Rattle.std.proofs.lemmas.List.{get_or_default, length-map}
use Rattle.std.proofs.lemmas.List.Elements.{All-from_get_or, All-get_or}
use Rattle.std.proofs.lemmas.List.Sums.{AllPass-from_list_all, list_all-from_AllPass}
use Rattle.std.proofs.Math.ListN.{get_or-map}
use Rattle.hsr_node.specs.Place.{HasOwnAddress}
use Rattle.hsr_topology.specs.Wired.{IsWired}

-- ---- addresses

pub mac_is : (run : Run) (k : ℕ) → mac_at (macs_of run.places) k ≡ mac_of (place_of run k)
mac_is run k = get_or-map mac_of run.places k QuadBox

-- ---- nodes

place_is : (place : Place) → is_danh place ≡ true → place ≡ Danh (mac_of place) (mode_of place)
place_is (Danh mac mode) danh = refl
place_is (RedBox mac mode) danh = absurd (false≢true danh)
place_is QuadBox danh = absurd (false≢true danh)
place_is (Station macs) danh = absurd (false≢true danh)

forwards_is : (place : Place) → is_danh place ≡ true → is_in_h_or_u place ≡ true → (place ≡ Danh (mac_of place) H) ⊎ (place ≡ Danh (mac_of place) U)
forwards_is (Danh mac H) danh on = inl refl
forwards_is (Danh mac U) danh on = inr refl
forwards_is (Danh mac N) danh on = absurd (false≢true on)
forwards_is (RedBox mac mode) danh on = absurd (false≢true danh)
forwards_is QuadBox danh on = absurd (false≢true danh)
forwards_is (Station macs) danh on = absurd (false≢true danh)

-- the addresses of DANHs are all their addresses
pub addresses_are : (places : List Place) → list_all is_danh places ≡ true → filter_map address_of places ≡ macs_of places
addresses_are [] h = refl
addresses_are (Danh mac mode ∷ ps) h = ap (λ macs. mac ∷ macs) (addresses_are ps h)
addresses_are (RedBox mac mode ∷ ps) h = absurd (false≢true h)
addresses_are (QuadBox ∷ ps) h = absurd (false≢true h)
addresses_are (Station macs ∷ ps) h = absurd (false≢true h)

-- ---- links

end_at : ℕ → ℕ → End
end_at node port = record { node = node; port = port }

joins_so : (ends : List End) (k next : ℕ) → is_joint ends k next ≡ true → Joins ends k next
joins_so ends k next h =
    ⊎_elim
    (λ forth. let parts = and_parts _ _ forth in inl (end_is (from_end Forth ends) (record { node = k; port = 1 }) parts.0, end_is (from_end Back ends) (record { node = next; port = 0 }) parts.1))
    (λ back. let parts = and_parts _ _ back in inr (end_is (from_end Forth ends) (record { node = next; port = 0 }) parts.0, end_is (from_end Back ends) (record { node = k; port = 1 }) parts.1))
    (or_cases (is_same_end (from_end Forth ends) (record { node = k; port = 1 }) && is_same_end (from_end Back ends) (record { node = next; port = 0 }))
    (is_same_end (from_end Forth ends) (record { node = next; port = 0 }) && is_same_end (from_end Back ends) (record { node = k; port = 1 })) h)

so_joins : (ends : List End) (k next : ℕ) → Joins ends k next → is_joint ends k next ≡ true
so_joins ends k next (inl both) = or_left _ _ (and_from _ _ (end_same (from_end Forth ends) (record { node = k; port = 1 }) both.0) (end_same (from_end Back ends) (record { node = next; port = 0 }) both.1))
so_joins ends k next (inr both) = or_right _ _ (and_from _ _ (end_same (from_end Forth ends) (record { node = next; port = 0 }) both.0) (end_same (from_end Back ends) (record { node = k; port = 1 }) both.1))

-- ---- a ring of DANHs

pub ring_of_round : (run : Run) → IsRound run.places run.links → IsDanhRing run
unfolding is_joint_of
ring_of_round run round =
    let count = round.count in
    record {
      two = round.two;
      count = round.count;
      danhs = λ k below. AllPass-from_list_all is_danh run.places round.danhs k QuadBox below;
      joined = λ k below.
          let P : ℕ → Type 0 = λ n. Joins (ends_of run k) k ((k + 1) % n) in
          subst P round.count (joins_so (ends_of run k) k ((k + 1) % length run.links) (round.joined k [] (omega (arith, below, count))));
    }

pub round_of_ring : (run : Run) → IsDanhRing run → IsRound run.places run.links
unfolding is_joint_of
round_of_ring run ring =
    let count = ring.count in
    record {
      two = ring.two;
      count = ring.count;
      danhs = list_all-from_AllPass is_danh run.places (All-from_get_or (λ (p : Place). is_danh p ≡ true) run.places QuadBox ring.danhs);
      joined = λ k d below.
          let P : ℕ → Type 0 = λ n. Joins (ends_of run k) k ((k + 1) % n) in
          let here = so_joins (ends_of run k) k ((k + 1) % length run.links) (subst P (sym ring.count) (ring.joined k (omega (arith, below, count)))) in
          ap (λ ends. is_joint ends k ((k + 1) % length run.links)) (get_or_default run.links k d [] below) ∙ here;
    }

-- ---- a ring, and a ring of DANHs in modes H and U with addresses of their own

pub danh_at : (run : Run) → IsDanhRing run → (k : ℕ) → k < length run.places → place_of run k ≡ Danh (mac_at (macs_of run.places) k) (mode_of (place_of run k))
danh_at run ring k below = place_is (place_of run k) (ring.danhs k below) ∙ ap (λ mac. Danh mac (mode_of (place_of run k))) (sym (mac_is run k))

pub ring_of_own : (run : Run) → IsWired run.places run.links → IsDanhRing run → AreGoingRound run → HaveOwnAddresses run → IsRing run (macs_of run.places)
ring_of_own run wired ring modes own =
    let many = length-map run.places mac_of in
    let two = ring.two in
    record {
      two = omega (arith, many, two);
      places = sym many;
      nodes = λ k below.
          let under : k < length run.places = omega (arith, many, below) in
          let P : List ℕ → Type 0 = λ mac. (place_of run k ≡ Danh mac H) ⊎ (place_of run k ≡ Danh mac U) in
          subst P (sym (mac_is run k)) (forwards_is (place_of run k) (ring.danhs k under) (modes k under));
      single = λ k below.
          let under : k < length run.places = omega (arith, many, below) in
          no_group (mac_at (macs_of run.places) k)
          (subst HasOwnAddress (danh_at run ring k under) (All-get_or HasOwnAddress run.places k QuadBox under wired.own));
      differ = λ i j low high same.
          let P : ℕ → Place → Type 0 = λ k p. HasAddress p (mac_at (macs_of run.places) k) in
          own i j (mac_at (macs_of run.places) i) (omega (arith, many, low)) (omega (arith, many, high))
          (subst (P i) (sym (danh_at run ring i (omega (arith, many, low)))) refl) (subst (P i) (sym (danh_at run ring j (omega (arith, many, high)))) same);
      count = ring.count ∙ sym many;
      joined = λ k below.
          let P : ℕ → Type 0 = λ n. Joins (ends_of run k) k ((k + 1) % n) in
          subst P (sym many) (ring.joined k (omega (arith, many, below)));
    }

-- the nodes of a ring
ring_many : (run : Run) (macs : List (List ℕ)) → IsRing run macs → length run.places ≡ length macs
ring_many run macs ring = ring.places

node_at : (run : Run) (macs : List (List ℕ)) → IsRing run macs → (k : ℕ) → k < length run.places → (place_of run k ≡ Danh (mac_at macs k) H) ⊎ (place_of run k ≡ Danh (mac_at macs k) U)
node_at run macs ring k below = let many = ring.places in ring.nodes k (omega (arith, many, below))

-- what holds of a node with this address in either mode holds of each
of_node : (run : Run) (macs : List (List ℕ)) → IsRing run macs → (P : Place → Type 0) (k : ℕ) → k < length run.places → P (Danh (mac_at macs k) H) → P (Danh (mac_at macs k) U) → P (place_of run k)
of_node run macs ring P k below h u = ⊎_elim (λ is. subst P (sym is) h) (λ is. subst P (sym is) u) (node_at run macs ring k below)

pub danhs_of_ring : (run : Run) (macs : List (List ℕ)) → IsRing run macs → IsDanhRing run
danhs_of_ring run macs ring =
    let many = ring_many run macs ring in
    let two = ring.two in
    record {
      two = omega (arith, many, two);
      count = ring.count ∙ sym many;
      danhs = λ k below. of_node run macs ring (λ p. is_danh p ≡ true) k below refl refl;
      joined = λ k below.
          let P : ℕ → Type 0 = λ n. Joins (ends_of run k) k ((k + 1) % n) in
          subst P (sym many) (ring.joined k (omega (arith, many, below)));
    }

pub modes_of_ring : (run : Run) (macs : List (List ℕ)) → IsRing run macs → AreGoingRound run
modes_of_ring run macs ring = λ k below. of_node run macs ring (λ p. is_in_h_or_u p ≡ true) k below refl refl

pub own_of_ring : (run : Run) (macs : List (List ℕ)) → IsRing run macs → HaveOwnAddresses run
own_of_ring run macs ring = λ i j mac low high one other.
    let many = ring_many run macs ring in
    ring.differ i j (omega (arith, many, low)) (omega (arith, many, high)) (sym (there i mac low one) ∙ there j mac high other)
  where
    there : (k : ℕ) (mac : List ℕ) → k < length run.places → HasAddress (place_of run k) mac → mac ≡ mac_at macs k
    there k mac below = of_node run macs ring (λ p. HasAddress p mac → mac ≡ mac_at macs k) k below (λ is. is) (λ is. is)
