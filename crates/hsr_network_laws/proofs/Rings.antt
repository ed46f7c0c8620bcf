-- A ring with losses on at most one link is a network, and each of its sends reaches all nodes that it is for, one way round or the
-- other.
use Rattle.std.proofs.Common.{◌≡◌, ◌⊎◌, ℕ, ◌+◌, ◌-◌, ◌%◌, ◌<◌, ◌≤◌, ◌==◌, ◌&&◌, ◌||◌, Bool, true, false, not, List, [], ◌∷◌, length, Some, refl, sym, ap, ◌∙◌, subst, arith, inl, inr, ⊎_elim, zero, suc, ne_eqb, mod-eq_of_lt}
use Rattle.std.specs.List.{list_any}
use Rattle.std.proofs.Math.Nat.{mod_self}
use Rattle.std.proofs.lemmas.Bool.{false≢true, and_from, and_parts, cases_Bool, cases_lt, or_right}
use Rattle.hsr_frame.specs.Address.{is_group, is_same_address}
use Rattle.hsr_frame.specs.declared.node.Mode.{Mode}
use Rattle.hsr_node.specs.declared.event.Probe.{Probe}
use Rattle.hsr_node.specs.declared.place.Place.{Place}
use Rattle.hsr_node.specs.declared.place.Place.TheVariants.{Danh}
use Rattle.hsr_node.specs.declared.sending.Sending.{Sending}
use Rattle.hsr_link.specs.Rows.{goes, is_lost}
use Rattle.hsr_link.specs.declared.row.Dir.{Dir}
use Rattle.hsr_link.specs.declared.row.Dir.TheVariants.{Forth, Back}
use Rattle.hsr_link.specs.declared.row.Row.{Row}
use Rattle.hsr_run_laws.specs.Closed.{IsClosed, IsSend}
use Rattle.hsr_run_laws.specs.Once.{is_addressed, is_copy}
use Rattle.hsr_run_laws.specs.Premises.{IsRing, OneLossyLink, any_lost, is_redbox, mac_at}
use Rattle.hsr_run_laws.specs.Run.{Run, ends_of, place_of, rows_of, to_end}
use Rattle.hsr_topology.specs.declared.end.End.{End}
use Rattle.hsr_run_laws.proofs.Around.{around_differ, around_end, around_start, search_below, steps_to}
use Rattle.hsr_run_laws.proofs.Danh.{mode_at}
use Rattle.hsr_run_laws.proofs.Ring.{forwards, link_below, next_below, place_is, way_a, way_b}
use Rattle.hsr_run_laws.proofs.Same.{address_other}
use Rattle.hsr_run_laws.proofs.Walk.{IsBetween, Kept, at, at_below, at_next, between_at, not_sender, sender_below}
use Rattle.hsr_run_laws.proofs.WithoutBoxes.{boxless}
use Rattle.hsr_network_laws.specs.Delivered.{AllCovered, AllReached, is_meant}
use Rattle.hsr_network_laws.specs.Network.{HasAddress, IsNetwork, IsPortOf, Channel, goes_round, is_edge, is_edge_of, is_in_h_or_u, is_station_with, start_of, stop_of}
use Rattle.hsr_network_laws.specs.Rings.{RingIsCrossed}
use Rattle.hsr_network_laws.specs.Channels.{Carries, ComesOver, IsReached, is_loss, keeps_own, lets_out, on, passes_on, sent}
use Rattle.hsr_network_laws.proofs.Late.{late_decides}

-- ---- a ring is a network

module _ (run : Run) (macs : List (List ℕ)) (closed : IsClosed run) (ring : IsRing run macs) where
  -- what holds of DANHs holds of each node
  of_each : (P : Place → Type 0) → ((mac : List ℕ) (mode : Mode) → P (Danh mac mode)) → (k : ℕ) → k < length run.places → P (place_of run k)
  of_each P all k below =
      let count : length run.places ≡ length macs = ring.places in
      let inside : k < length macs = omega arith in
      subst P (sym (place_is run macs closed ring k inside)) (all (mac_at macs k) (mode_at run k))

  address_is : (k : ℕ) (address : List ℕ) → k < length macs → HasAddress (place_of run k) address → address ≡ mac_at macs k
  address_is k address below has = let H : Place → Type 0 = λ p. HasAddress p address in subst H (place_is run macs closed ring k below) has

  -- a channel goes from B of a node to A of the next, or back
  abbrev IsAlong : Channel → Type 0
  IsAlong channel =
      ((start_of run channel ≡ record { node = channel.link; port = 1 }) × (stop_of run channel ≡ record { node = (channel.link + 1) % length macs; port = 0 }))
      ⊎ ((start_of run channel ≡ record { node = (channel.link + 1) % length macs; port = 0 }) × (stop_of run channel ≡ record { node = channel.link; port = 1 }))

  along : (channel : Channel) → channel.link < length run.links → IsAlong channel
  along channel below = by_dir channel.dir
    where
      joined : Rattle.hsr_run_laws.specs.Premises.Joins (ends_of run channel.link) channel.link ((channel.link + 1) % length macs)
      joined = let count : length run.links ≡ length macs = ring.count in ring.joined channel.link (omega arith)

      by_dir : (dir : Dir) → IsAlong (record { link = channel.link; dir = dir })
      by_dir Forth = ⊎_elim (λ j. inl j) (λ j. inr j) joined
      by_dir Back = ⊎_elim (λ j. inr (j.1, j.0)) (λ j. inl (j.1, j.0)) joined

  ends : (channel : Channel) → channel.link < length run.links → IsPortOf run (start_of run channel)
  ends channel below =
      let count : length run.links ≡ length macs = ring.count in
      let places : length run.places ≡ length macs = ring.places in
      let next = next_below run macs closed ring channel.link in
      let P : End → Type 0 = IsPortOf run in
      ⊎_elim
      (λ a. subst P (sym a.0) (record { node = omega arith; port = of_each (λ p. 1 < Rattle.hsr_node.specs.Place.ports p) (λ mac mode. omega arith) channel.link (omega arith) }))
      (λ a. subst P (sym a.0) (record { node = omega arith; port = of_each (λ p. 0 < Rattle.hsr_node.specs.Place.ports p) (λ mac mode. omega arith) ((channel.link + 1) % length macs) (omega arith) }))
      (along channel below)

  no_edge : (channel : Channel) → channel.link < length run.links → is_edge_of run (start_of run channel) ≡ false
  no_edge channel below = of_each (λ p. is_edge p (start_of run channel).port ≡ false) (λ mac mode. refl) (start_of run channel).node (ends channel below).node

  no_edge_there : (channel : Channel) → channel.link < length run.links → is_edge_of run (stop_of run channel) ≡ false
  no_edge_there channel below = by_dir channel.dir
    where
      by_dir : (dir : Dir) → is_edge_of run (to_end dir (ends_of run channel.link)) ≡ false
      by_dir Forth = no_edge (record { link = channel.link; dir = Back }) below
      by_dir Back = no_edge (record { link = channel.link; dir = Forth }) below

  -- the next node has one before it alone
  same_next : (n i j : ℕ) → i < n → j < n → (i + 1) % n ≡ (j + 1) % n → i ≡ j
  same_next n i j hi hj e = by_last (cases_lt (i + 1) n) (cases_lt (j + 1) n)
    where
      by_last : (i + 1 < n) ⊎ (n ≤ i + 1) → (j + 1 < n) ⊎ (n ≤ j + 1) → i ≡ j
      by_last (inl a) (inl b) = let x = mod-eq_of_lt a in let y = mod-eq_of_lt b in omega arith
      by_last (inr a) (inr b) = omega arith
      by_last (inl a) (inr b) = let x = mod-eq_of_lt a in let whole : j + 1 ≡ n = omega arith in let y : (j + 1) % n ≡ 0 = ap (λ m. m % n) whole ∙ mod_self n in absurd (omega arith)
      by_last (inr a) (inl b) = let y = mod-eq_of_lt b in let whole : i + 1 ≡ n = omega arith in let x : (i + 1) % n ≡ 0 = ap (λ m. m % n) whole ∙ mod_self n in absurd (omega arith)

  apart : (channel other : Channel) → channel.link < length run.links → other.link < length run.links → start_of run channel ≡ start_of run other → stop_of run channel ≡ stop_of run other
  apart channel other g h e = by_channel (along channel g) (along other h)
    where
      one_zero : (m k : ℕ) → m ≡ k → m ≡ 1 → k ≡ 0 → ⊥
      one_zero m k e a b = omega arith

      by_channel : IsAlong channel → IsAlong other → stop_of run channel ≡ stop_of run other
      by_channel (inl a) (inl b) =
          let same : channel.link ≡ other.link = ap (λ (end : End). end.node) (sym a.0 ∙ (e ∙ b.0)) in
          a.1 ∙ (ap (λ l. let end : End = record { node = (l + 1) % length macs; port = 0 } in end) same ∙ sym b.1)
      by_channel (inr a) (inr b) =
          let count : length run.links ≡ length macs = ring.count in
          let same : channel.link ≡ other.link = same_next (length macs) channel.link other.link (omega arith) (omega arith) (ap (λ (end : End). end.node) (sym a.0 ∙ (e ∙ b.0))) in
          a.1 ∙ (ap (λ l. let end : End = record { node = l; port = 1 } in end) same ∙ sym b.1)
      by_channel (inl a) (inr b) = absurd (one_zero 1 0 (ap (λ (end : End). end.port) (sym a.0 ∙ (e ∙ b.0))) refl refl)
      by_channel (inr a) (inl b) = absurd (one_zero 1 0 (ap (λ (end : End). end.port) (sym b.0 ∙ (sym e ∙ a.0))) refl refl)

  ring_network : IsNetwork run
  ring_network =
      let places : length run.places ≡ length macs = ring.places in
      record {
        modes = λ k below. let inside : k < length macs = omega arith in let M : Place → Type 0 = λ p. is_in_h_or_u p ≡ true in
            subst M (sym (place_is run macs closed ring k inside)) (⊎_elim (λ e. ap goes_round e) (λ e. ap goes_round e) (forwards run macs closed ring k inside));
        single = λ k mac below has. let inside : k < length macs = omega arith in ap is_group (address_is k mac inside has) ∙ ring.single k inside;
        differ = λ i j mac below there has too.
            let inside : i < length macs = omega arith in
            let within : j < length macs = omega arith in
            ring.differ i j inside within (sym (address_is i mac inside has) ∙ address_is j mac within too);
        ends = ends;
        sides = λ channel below. no_edge channel below ∙ sym (no_edge_there channel below);
        faces = λ channel below edge station. absurd (false≢true (sym (no_edge channel below) ∙ edge));
        apart = apart;
      }

  no_station : (xs : List Place) (address : List ℕ) → ((k : ℕ) → k < length xs → is_station_with address (Rattle.std.proofs.Common.slice_index_or xs k Rattle.hsr_node.specs.declared.place.Place.TheVariants.QuadBox) ≡ false) → list_any (is_station_with address) xs ≡ false
  no_station [] address none = refl
  no_station (x ∷ xs) address none = ap (λ b. b || (list_any (is_station_with address) xs)) (none 0 (omega arith)) ∙ no_station xs address (λ k below. none (suc k) (omega arith))

  all_covered : AllCovered run
  all_covered send sending is =
      or_right _ _ (ap not (no_station run.places sending.frame.dst (of_each (λ p. is_station_with sending.frame.dst p ≡ false) (λ mac mode. refl))))

  -- ---- a send round it

  module _ (send : Probe) (sending : Sending) (is : IsSend run send sending) where
    abbrev go : ℕ → ℕ
    go i = at run macs closed ring send sending is i

    abbrev Between : ℕ → Type 0
    Between m = IsBetween run macs closed ring send sending is m

    abbrev Whole : ℕ → Type 0
    Whole m = Kept run macs closed ring send sending is m

    here : (i : ℕ) → i < length macs → go i < length macs
    here i below = at_below run macs closed ring send sending is i below

    -- on a link that lost nothing each channel carries it
    none_lost : (dir : Dir) (rows : List Row) → any_lost rows ≡ false → list_any (is_loss send dir) rows ≡ false
    none_lost dir [] kept = refl
    none_lost dir (row ∷ rows) kept =
        let parts = Rattle.std.proofs.lemmas.Bool.or_parts (is_lost row.fate) (any_lost rows) kept in
        both (goes dir row) (is_copy send row.carried) (is_lost row.fate) (list_any (is_loss send dir) rows) parts.0 (none_lost dir rows parts.1)
      where
        both : (a b c d : Bool) → c ≡ false → d ≡ false → ((a && b && c) || d) ≡ false
        both false b c d e f = f
        both true false c d e f = f
        both true true c d e f = ap (λ x. x || d) e ∙ f

    carries : (l : ℕ) (dir : Dir) → l < length macs → any_lost (rows_of run l) ≡ false → Carries run send (record { link = l; dir = dir })
    carries l dir below kept = record { below = link_below run macs closed ring l below; kept = none_lost dir (rows_of run l) kept }

    -- a DANH lets it out, and passes it on between
    lets : (k port : ℕ) → k < length macs → lets_out sending.frame (place_of run k) port ≡ true
    lets k port below =
        let places : length run.places ≡ length macs = ring.places in
        of_each (λ p. lets_out sending.frame p port ≡ true) (λ mac mode. refl) k (omega arith)

    passes : (k port : ℕ) → k < length macs → Between k → passes_on send.node sending.frame k (place_of run k) port ≡ true
    passes k port below between =
        let P : Place → Type 0 = λ p. passes_on send.node sending.frame k p port ≡ true in
        let other = address_other (mac_at macs k) sending.frame.dst (λ e. between.not_receiver (sym e)) in
        subst P (sym (place_is run macs closed ring k below))
        (and_from (not (k == send.node)) (not (keeps_own (mode_at run k) && is_same_address (mac_at macs k) sending.frame.dst)) (ap not (ne_eqb k send.node (λ e. between.not_sender (sym e))))
        (ap not (never (keeps_own (mode_at run k)) (is_same_address (mac_at macs k) sending.frame.dst) other)))
      where
        never : (a b : Bool) → b ≡ false → (a && b) ≡ false
        never true b e = e
        never false b e = refl

    -- ---- along B

    abbrev over_b : (k : ℕ) → k < length macs → Channel
    over_b k below = record { link = k; dir = (way_b run macs closed ring k below).dir }

    abbrev over_a : (k : ℕ) → k < length macs → Channel
    over_a k below = record { link = k; dir = (way_a run macs closed ring k below).dir }

    next_is : (i : ℕ) → i < length macs → (go i + 1) % length macs ≡ go (suc i)
    next_is i below = at_next run macs closed ring send sending is i below

    first_is : go 0 ≡ send.node
    first_is = around_start (length macs) send.node (sender_below run macs closed ring send sending is)

    not_back : (i : ℕ) → 0 < i → i < length macs → go i ≡ send.node → ⊥
    not_back i some below e =
        let none = around_differ (length macs) send.node 0 i (sender_below run macs closed ring send sending is) (omega arith) below (first_is ∙ sym e) in
        omega arith

    start_b : (k : ℕ) (below : k < length macs) → start_of run (over_b k below) ≡ record { node = k; port = 1 }
    start_b k below = (way_b run macs closed ring k below).is_from

    stop_b : (k : ℕ) (below : k < length macs) → stop_of run (over_b k below) ≡ record { node = (k + 1) % length macs; port = 0 }
    stop_b k below = (way_b run macs closed ring k below).is_to

    start_a : (k : ℕ) (below : k < length macs) → start_of run (over_a k below) ≡ record { node = (k + 1) % length macs; port = 0 }
    start_a k below = (way_a run macs closed ring k below).is_from

    stop_a : (k : ℕ) (below : k < length macs) → stop_of run (over_a k below) ≡ record { node = k; port = 1 }
    stop_a k below = (way_a run macs closed ring k below).is_to

    -- it goes on from the end of one channel by another
    goes_on : (k : ℕ) (channel next : Channel) (port : ℕ) → k < length macs → (stop_of run channel).node ≡ k → (start_of run next).node ≡ k → ((start_of run next).port ≡ (stop_of run channel).port → ⊥) → Between k → ((stop_of run next).node ≡ send.node → ⊥) →
        Rattle.hsr_network_laws.specs.Channels.IsNextChannel run send sending.frame channel next
    goes_on k channel next port below stops starts other between away =
        let P : ℕ → Type 0 = λ j. passes_on send.node sending.frame j (place_of run j) (stop_of run channel).port ≡ true in
        let L : ℕ → Type 0 = λ j. lets_out sending.frame (place_of run j) (start_of run next).port ≡ true in
        record { node = starts ∙ sym stops; port = other; passes = subst P (sym stops) (passes k (stop_of run channel).port below between); out = subst L (sym starts) (lets k (start_of run next).port below); away = away }

    first_channel : (channel : Channel) → (start_of run channel).node ≡ send.node → Rattle.hsr_network_laws.specs.Channels.IsFirstChannel run send sending.frame channel
    first_channel channel starts =
        let L : ℕ → Type 0 = λ j. lets_out sending.frame (place_of run j) (start_of run channel).port ≡ true in
        record { node = starts; out = subst L (sym starts) (lets send.node (start_of run channel).port (sender_below run macs closed ring send sending is)) }

    abbrev node_of : End → ℕ
    node_of end = end.node

    abbrev port_of : End → ℕ
    port_of end = end.port

    comes_b : (i : ℕ) (below : i < length macs) → suc i < length macs → ((m : ℕ) → m < suc i → Whole m) → ((m : ℕ) → 0 < m → m < suc i → Between (go m)) → ComesOver run send sending.frame (over_b (go i) (here i below))
    comes_b zero below more kept between =
        sent (over_b (go 0) (here 0 below)) (carries (go 0) (way_b run macs closed ring (go 0) (here 0 below)).dir (here 0 below) (kept 0 (omega arith)))
        (first_channel (over_b (go 0) (here 0 below)) (ap node_of (start_b (go 0) (here 0 below)) ∙ first_is))
    comes_b (suc i) below more kept between =
        let inside : i < length macs = omega arith in
        let before = comes_b i inside below (λ m h. kept m (omega arith)) (λ m some h. between m some (omega arith)) in
        on (over_b (go i) (here i inside)) (over_b (go (suc i)) (here (suc i) below)) before
        (carries (go (suc i)) (way_b run macs closed ring (go (suc i)) (here (suc i) below)).dir (here (suc i) below) (kept (suc i) (omega arith)))
        (goes_on (go (suc i)) (over_b (go i) (here i inside)) (over_b (go (suc i)) (here (suc i) below)) 0 (here (suc i) below)
        (ap node_of (stop_b (go i) (here i inside)) ∙ next_is i inside) (ap node_of (start_b (go (suc i)) (here (suc i) below)))
        (λ e. let bad : 1 ≡ 0 = sym (ap port_of (start_b (go (suc i)) (here (suc i) below))) ∙ (e ∙ ap port_of (stop_b (go i) (here i inside))) in omega arith)
        (between (suc i) (omega arith) (omega arith))
        (λ e. not_back (suc (suc i)) (omega arith) more (sym (next_is (suc i) below) ∙ (sym (ap node_of (stop_b (go (suc i)) (here (suc i) below))) ∙ e))))

    -- ---- along A, j channels before the last

    comes_a : (j i : ℕ) (below : i < length macs) → i + suc j ≡ length macs → 0 < i → ((m : ℕ) → i ≤ m → m < length macs → Whole m) → ((m : ℕ) → i < m → m < length macs → Between (go m)) → ComesOver run send sending.frame (over_a (go i) (here i below))
    comes_a zero i below whole some kept between =
        let full : suc i ≡ length macs = omega arith in
        sent (over_a (go i) (here i below)) (carries (go i) (way_a run macs closed ring (go i) (here i below)).dir (here i below) (kept i (omega arith) below))
        (first_channel (over_a (go i) (here i below)) (ap node_of (start_a (go i) (here i below)) ∙ (next_is i below ∙ (ap (λ m. go m) full ∙ around_end (length macs) send.node))))
    comes_a (suc j) i below whole some kept between =
        let more : suc i < length macs = omega arith in
        let before = comes_a j (suc i) more (omega arith) (omega arith) (λ m h g. kept m (omega arith) g) (λ m h g. between m (omega arith) g) in
        on (over_a (go (suc i)) (here (suc i) more)) (over_a (go i) (here i below)) before
        (carries (go i) (way_a run macs closed ring (go i) (here i below)).dir (here i below) (kept i (omega arith) below))
        (goes_on (go (suc i)) (over_a (go (suc i)) (here (suc i) more)) (over_a (go i) (here i below)) 1 (here (suc i) more)
        (ap node_of (stop_a (go (suc i)) (here (suc i) more))) (ap node_of (start_a (go i) (here i below)) ∙ next_is i below)
        (λ e. let bad : 0 ≡ 1 = sym (ap port_of (start_a (go i) (here i below))) ∙ (e ∙ ap port_of (stop_a (go (suc i)) (here (suc i) more))) in omega arith)
        (between (suc i) (omega arith) more)
        (λ e. not_back i some below (sym (ap node_of (stop_a (go i) (here i below))) ∙ e)))

    -- ---- so it is reached one way or the other

    addressed : (k : ℕ) → k < length macs → is_meant send.node sending.frame k (place_of run k) ≡ true → is_addressed macs send.node sending.frame k ≡ true
    addressed k below for_it = let M : Place → Type 0 = λ p. is_meant send.node sending.frame k p ≡ true in subst M (place_is run macs closed ring k below) for_it

    ring_reached : OneLossyLink run → (k : ℕ) → k < length macs → is_meant send.node sending.frame k (place_of run k) ≡ true → IsReached run send sending.frame k
    ring_reached one k below for_it =
        let mine = addressed k below for_it in
        let channel = steps_to (length macs) send.node k (sender_below run macs closed ring send sending is) below (not_sender run macs closed ring send sending is k mine) in
        let F : ℕ → Type 0 = λ j. is_addressed macs send.node sending.frame j ≡ true in
        reached_at channel.0 channel.1 channel.2 channel.3 (subst F (sym channel.3) mine)
      where
        reached_at : (d : ℕ) → 0 < d → d < length macs → go d ≡ k → is_addressed macs send.node sending.frame (go d) ≡ true → IsReached run send sending.frame k
        reached_at zero some inside there for_there = absurd (omega arith)
        reached_at (suc i) some inside there for_there =
            ⊎_elim
            (λ kept.
            let low : i < length macs = omega arith in
            record {
              channel = over_b (go i) (here i low);
              comes = comes_b i low inside kept (λ m some h. between_at run macs closed ring send sending is (suc i) inside for_there m some (omega arith) (λ e. omega arith));
              here = ap node_of (stop_b (go i) (here i low)) ∙ (next_is i low ∙ there);
            })
            (λ lost. record {
              channel = over_a (go (suc i)) (here (suc i) inside);
              comes = comes_a (length macs - suc (suc i)) (suc i) inside (omega arith) some (λ m h g. kept_after lost.0 lost.1 lost.2 m h g)
                  (λ m h g. between_at run macs closed ring send sending is (suc i) inside for_there m (omega arith) g (λ e. omega arith));
              here = ap node_of (stop_a (go (suc i)) (here (suc i) inside)) ∙ there;
            })
            (search_below (λ i. any_lost (rows_of run (go i))) (suc i))
          where
            kept_after : (l : ℕ) → l < suc i → any_lost (rows_of run (go l)) ≡ true → (m : ℕ) → suc i ≤ m → m < length macs → Whole m
            kept_after l low lost m h g =
                ⊎_elim
                (λ again.
                let inside' : l < length macs = omega arith in
                let same = one (go l) (go m) (link_below run macs closed ring (go l) (here l inside')) (link_below run macs closed ring (go m) (here m g)) lost again in
                let equal = around_differ (length macs) send.node l m (sender_below run macs closed ring send sending is) inside' g same in
                absurd (omega arith))
                (λ fine. fine)
                (cases_Bool (any_lost (rows_of run (go m))))

  all_reached : OneLossyLink run → AllReached run
  all_reached one send sending k is below for_it =
      let places : length run.places ≡ length macs = ring.places in
      ring_reached send sending is one k (omega arith) for_it

pub ring_is_crossed : RingIsCrossed
ring_is_crossed run macs closed ring one =
    let network = ring_network run macs closed ring in
    record {
      network = network;
      in_time = (late_decides run closed network).late (boxless run closed (of_each run macs closed ring (λ p. is_redbox p ≡ false) (λ mac mode. refl)));
      covered = all_covered run macs closed ring;
      reached = all_reached run macs closed ring one;
    }
