-- In a closed run of a network a Station takes up a single frame to it once, if its RedBox knew it each time.
use Rattle.std.proofs.Common.{◌≡◌, ◌⊎◌, ℕ, ◌<◌, ◌==◌, ◌||◌, Bool, true, false, not, List, length, Some, Ok, refl, sym, ap, ◌∙◌, subst, arith, inl, inr, ⊎_elim, eqb-true, eq-eqb}
use Rattle.std.specs.List.{list_any}
use Rattle.std.proofs.lemmas.Bool.{false≢true, and_parts, cases_Bool, or_cases}
use Rattle.hsr_frame.specs.Address.{is_among, is_group}
use Rattle.hsr_frame.specs.Egress.{is_supervision}
use Rattle.hsr_frame.specs.Grammar.{Fields}
use Rattle.hsr_frame.specs.declared.node.Mode.{Mode}
use Rattle.hsr_tag.specs.Tag.{TaggedFields, untag_of}
use Rattle.hsr_node.specs.Flow.{arrivals, passes, send_at}
use Rattle.hsr_node.specs.Place.{ports}
use Rattle.hsr_node.specs.Record.{Each}
use Rattle.hsr_node.specs.declared.event.Event.{Event}
use Rattle.hsr_node.specs.declared.event.Event.TheVariants.{Send, Supervise, Arrive, Age}
use Rattle.hsr_node.specs.declared.event.Probe.{Probe}
use Rattle.hsr_node.specs.declared.place.Place.{Place}
use Rattle.hsr_node.specs.declared.place.Place.TheVariants.{Danh, RedBox, QuadBox, Station}
use Rattle.hsr_node.specs.declared.sending.Sending.{Sending}
use Rattle.hsr_run_laws.specs.Closed.{IsClosed, IsSend}
use Rattle.hsr_run_laws.specs.Once.{delivers, is_copy}
use Rattle.hsr_run_laws.specs.Premises.{NothingMistaken, is_redbox}
use Rattle.hsr_run_laws.specs.Run.{Run, owner_of, past_of, place_of}
use Rattle.hsr_topology.specs.declared.end.End.{End}
use Rattle.hsr_run_laws.proofs.Arrived.{Knowing, MayKnow}
use Rattle.hsr_run_laws.proofs.Lists.{count_positive}
use Rattle.hsr_run_laws.proofs.Once.{counted}
use Rattle.hsr_run_laws.proofs.Records.{Answered, each_so}
use Rattle.hsr_network_laws.specs.Delivered.{is_meant}
use Rattle.hsr_network_laws.specs.Network.{HasAddress, IsNetwork, IsPortOf, Channel, is_edge, is_in_h_or_u, is_station, is_station_with, start_of, stop_of}
use Rattle.hsr_network_laws.specs.Stations.{FindsEach, OnceToStation, finds}
use Rattle.hsr_network_laws.specs.Channels.{Carries, ComesOver, IsReached, lets_out, on, sent}
use Rattle.hsr_network_laws.proofs.AtMost.{at_most_once}
use Rattle.hsr_network_laws.proofs.Covered.{IsHeardAt, unknown_at, unknown_before_at}
use Rattle.hsr_network_laws.proofs.Delivered.{IsDown, comes_below, down_at, let_on, not_sender, not_source, noted_there, plain_there, sent_from}
use Rattle.hsr_network_laws.proofs.Fits.{legal}
use Rattle.hsr_network_laws.proofs.Hops.{back_of, none_back, stop_port}
use Rattle.hsr_network_laws.proofs.Leaving.{edge_went_up, noted_left}
use Rattle.hsr_network_laws.proofs.Links.{Arrived, Left, carried_on}
use Rattle.hsr_network_laws.proofs.Sending.{KnownWhereSent, known_left}
use Rattle.hsr_network_laws.proofs.Sides.{exit_of, one_port}
use Rattle.hsr_network_laws.proofs.Unknown.{OfSource, each_unknown_before}
use Rattle.hsr_run_laws.proofs.RingWants.{no_life}
use Rattle.hsr_network_laws.proofs.Wants.{among_at, ring_down, station_up}

-- an address is known
abbrev Known : List ℕ → Knowing
Known mac known = known mac ≡ true

implied : (a b : Bool) → (not a || b) ≡ true → a ≡ true → b ≡ true
implied true b h e = h
implied false b h e = absurd (false≢true e)

station_edge : (place : Place) (port : ℕ) → is_station place ≡ true → is_edge place port ≡ true
station_edge (Danh mac mode) port s = absurd (false≢true s)
station_edge (RedBox mac mode) port s = absurd (false≢true s)
station_edge QuadBox port s = absurd (false≢true s)
station_edge (Station macs) port s = refl

station_no_box : (place : Place) → is_station place ≡ true → is_redbox place ≡ true → ⊥
station_no_box (Danh mac mode) s b = false≢true s
station_no_box (RedBox mac mode) s b = false≢true s
station_no_box QuadBox s b = false≢true s
station_no_box (Station macs) s b = false≢true b

station_lets : (frame : Fields) (place : Place) (port : ℕ) → is_station place ≡ true → lets_out frame place port ≡ true
station_lets frame (Danh mac mode) port s = absurd (false≢true s)
station_lets frame (RedBox mac mode) port s = absurd (false≢true s)
station_lets frame QuadBox port s = absurd (false≢true s)
station_lets frame (Station macs) port s = refl

-- a single frame that is for a Station has one of its addresses
with_address : (sender : ℕ) (frame : Fields) (k : ℕ) (place : Place) → is_station place ≡ true → is_group frame.dst ≡ false → is_meant sender frame k place ≡ true → (is_station_with frame.dst place ≡ true) × HasAddress place frame.dst × (not (k == sender) ≡ true)
with_address sender frame k (Danh mac mode) s single m = absurd (false≢true s)
with_address sender frame k (RedBox mac mode) s single m = absurd (false≢true s)
with_address sender frame k QuadBox s single m = absurd (false≢true s)
with_address sender frame k (Station macs) s single m =
    let two = and_parts (not (k == sender)) (is_group frame.dst || is_among macs.items frame.dst) m in
    let mine = ⊎_elim (λ group. absurd (false≢true (sym single ∙ group))) (λ own. own) (or_cases (is_group frame.dst) (is_among macs.items frame.dst) two.1) in
    (mine, among_at macs.items frame.dst mine, two.0)

module _ (run : Run) (closed : IsClosed run) (net : IsNetwork run) (sure : NothingMistaken run) (send : Probe) (sending : Sending) (is : IsSend run send sending) (single : is_group sending.frame.dst ≡ false)
    (k : ℕ) (below : k < length run.places) (station : is_station (place_of run k) ≡ true) (other : k ≡ send.node → ⊥) (has : HasAddress (place_of run k) sending.frame.dst)
    (last : Channel) (last_below : last.link < length run.links) (here : (stop_of run last).node ≡ k) where
  abbrev joined : ℕ
  joined = (start_of run last).node

  joined_below : joined < length run.places
  joined_below = (net.ends last last_below).node

  stop_is : stop_of run last ≡ record { node = k; port = 0 }
  stop_is =
      let S : ℕ → Type 0 = λ j. is_station (place_of run j) ≡ true in
      let there = stop_port run closed net last last_below in
      end_is here (one_port (place_of run (stop_of run last).node) (stop_of run last).port (subst S (sym here) station) there.port)
    where
      end_is : (stop_of run last).node ≡ k → (stop_of run last).port ≡ 0 → stop_of run last ≡ record { node = k; port = 0 }
      end_is n p = λ i. record { node = n i; port = p i }

  start_edge : is_edge (place_of run joined) (start_of run last).port ≡ true
  start_edge = let S : ℕ → Type 0 = λ j. is_station (place_of run j) ≡ true in net.sides last last_below ∙ station_edge (place_of run (stop_of run last).node) (stop_of run last).port (subst S (sym here) station)

  -- nothing of the Station is heard elsewhere
  elsewhere : (j : ℕ) → (j ≡ joined → ⊥) → IsHeardAt run closed net j sending.frame.dst → ⊥
  elsewhere j far h =
      let node : (start_of run h.channel).node ≡ k = net.differ (start_of run h.channel).node k sending.frame.dst (net.ends h.channel h.below).node below h.has has in
      let first = one_port (place_of run (start_of run h.channel).node) (start_of run h.channel).port h.station (net.ends h.channel h.below).port in
      let b = back_of run closed net last last_below in
      let same : stop_of run h.channel ≡ start_of run last = net.apart h.channel b.back h.below b.below (begins node first ∙ (sym stop_is ∙ sym b.starts)) ∙ b.stops in
      far (sym h.here ∙ ap (λ (end : End). end.node) same)
    where
      begins : (start_of run h.channel).node ≡ k → (start_of run h.channel).port ≡ 0 → start_of run h.channel ≡ record { node = k; port = 0 }
      begins n p = λ i. record { node = n i; port = p i }

  -- ---- over the RedBox

  module _ (mac : List ℕ) (mode : Mode) (box : place_of run joined ≡ RedBox mac mode) (two : (start_of run last).port ≡ 2) (found : FindsEach run send sending.frame.dst joined) where
    no_station : is_station (place_of run joined) ≡ false
    no_station = ap is_station box

    not_own : HasAddress (place_of run joined) sending.frame.dst → ⊥
    not_own own =
        let same = net.differ joined k sending.frame.dst joined_below below own has in
        let S : ℕ → Type 0 = λ j. is_station (place_of run j) ≡ false in
        false≢true (sym (subst S same no_station) ∙ station)

    away : (stop_of run last).node ≡ send.node → ⊥
    away e = other (sym here ∙ e)

    none_here : list_any (is_copy send) (arrivals (start_of run last).port (past_of run joined)) ≡ false
    none_here = none_back run closed net send last last_below start_edge no_station away

    -- it came to one of its rings
    record IsAtBox : Type 0 where
      port : ℕ
      there : port < ports (place_of run joined)
      no_edge : is_edge (place_of run joined) port ≡ false
      came_some : list_any (is_copy send) (arrivals port (past_of run joined)) ≡ true

    at_box : (end : End) → IsPortOf run end → end.node ≡ joined → Arrived run send end → IsAtBox
    at_box end there node came_some =
        let P : ℕ → Type 0 = λ j. end.port < ports (place_of run j) in
        let A : ℕ → Type 0 = λ j. list_any (is_copy send) (arrivals end.port (past_of run j)) ≡ true in
        by_edge (subst P node there.port) (subst A node came_some) (cases_Bool (is_edge (place_of run joined) end.port))
      where
        by_edge : end.port < ports (place_of run joined) → list_any (is_copy send) (arrivals end.port (past_of run joined)) ≡ true → (is_edge (place_of run joined) end.port ≡ true) ⊎ (is_edge (place_of run joined) end.port ≡ false) → IsAtBox
        by_edge inside some (inr no_edge) = record { port = end.port; there = inside; no_edge = no_edge; came_some = some }
        by_edge inside some (inl edge) =
            let E : Place → Type 0 = λ p. is_edge p end.port ≡ true in
            let second = eqb-true end.port 2 (subst E box edge) in
            let N : ℕ → Type 0 = λ n. list_any (is_copy send) (arrivals n (past_of run joined)) ≡ false in
            absurd (false≢true (sym (subst N (two ∙ sym second) none_here) ∙ some))

    comes_or_at : (send.node ≡ joined → ⊥) → (channel : Channel) → ComesOver run send sending.frame channel → Arrived run send (stop_of run channel) ⊎ IsAtBox
    comes_or_at far channel (sent channel' carries first) =
        inl (carried_on run closed send channel' carries
        (sent_from run closed net send sending is (unknown_before_at run closed net sending.frame.dst send.node is.0 (elsewhere send.node far)) (start_of run channel') (net.ends channel' carries.below) first.node first.out))
    comes_or_at far channel (on before next comes carries goes) =
        by_node (cases_Bool ((stop_of run before).node == joined)) (comes_or_at far before comes)
      where
        there : IsPortOf run (stop_of run before)
        there = stop_port run closed net before (comes_below run closed net send sending is before comes)

        goes_on : ((stop_of run before).node ≡ joined → ⊥) → Arrived run send (stop_of run before) → Arrived run send (stop_of run next)
        goes_on apart came_some =
            carried_on run closed send next carries
            (let_on run closed net send sending is sure (stop_of run before) next there (unknown_at run closed net send sending.frame.dst (stop_of run before).node there.node (elsewhere (stop_of run before).node apart)) carries.below goes.node goes.port goes.passes goes.out goes.away came_some)

        by_node : ((stop_of run before).node == joined ≡ true) ⊎ ((stop_of run before).node == joined ≡ false) → Arrived run send (stop_of run before) ⊎ IsAtBox → Arrived run send (stop_of run next) ⊎ IsAtBox
        by_node node (inr at) = inr at
        by_node (inl same) (inl came_some) = inr (at_box (stop_of run before) there (eqb-true (stop_of run before).node joined same) came_some)
        by_node (inr far_off) (inl came_some) = inl (goes_on (λ e. false≢true (sym far_off ∙ eq-eqb (stop_of run before).node joined e)) came_some)

    reached_box : (send.node ≡ joined → ⊥) → IsReached run send sending.frame joined → IsAtBox
    reached_box far r =
        ⊎_elim (λ came_some. at_box (stop_of run r.channel) (stop_port run closed net r.channel (comes_below run closed net send sending is r.channel r.comes)) r.here came_some) (λ at. at) (comes_or_at far r.channel r.comes)

    knowing : Each (MayKnow (owner_of run joined) send (Known sending.frame.dst)) (past_of run joined)
    knowing = each_so (λ x past. finds (owner_of run joined) send sending.frame.dst x past ≡ true) (MayKnow (owner_of run joined) send (Known sending.frame.dst)) (past_of run joined) (λ x past all mine. implied _ _ all mine) found

    -- and leaves it for the Station
    left_box : (send.node ≡ joined → ⊥) → IsAtBox → list_any (is_copy send) (passes (owner_of run joined) 2 (past_of run joined)) ≡ true
    left_box far at =
        let P : Place → Type 0 = λ p. 2 < ports p in
        let N : ℕ → Type 0 = λ n. list_any (is_copy send) (arrivals n (past_of run joined)) ≡ false in
        noted_left run.capacity (owner_of run joined) 2 send (past_of run joined) (subst P (sym box) (omega arith)) (omega arith) (legal run closed net joined joined_below) far (λ edge. subst N two none_here)
        (noted_there run closed net send sending is (Known sending.frame.dst) sure joined at.port (exit_of 2) joined_below at.no_edge knowing wanted at.came_some)
      where
        wanted : (t : TaggedFields) → untag_of t ≡ sending.frame → (known : List ℕ → Bool) → Known sending.frame.dst known → Rattle.hsr_node.specs.Flow.wants (place_of run joined) known at.port (Ok (Rattle.hsr_tag.specs.declared.seen.Seen.TheVariants.Tagged t)) (exit_of 2) ≡ true
        wanted t same known near =
            let W : Place → Type 0 = λ p. Rattle.hsr_node.specs.Flow.wants p known at.port (Ok (Rattle.hsr_tag.specs.declared.seen.Seen.TheVariants.Tagged t)) (exit_of 2) ≡ true in
            let H : Place → List ℕ → Type 0 = λ p m. HasAddress p m → ⊥ in
            let P : Place → Type 0 = λ p. at.port < ports p in
            let E : Place → Type 0 = λ p. is_edge p at.port ≡ false in
            let M : Place → Type 0 = λ p. is_in_h_or_u p ≡ true in
            let source = subst (λ (p : Place). HasAddress p sending.frame.src → ⊥) box (not_source run closed net send sending is joined joined_below (λ e. far (sym e))) in
            let mine = subst (λ (p : Place). HasAddress p sending.frame.dst → ⊥) box not_own in
            subst W (sym box)
            (ring_down mac mode (subst M box (net.modes joined joined_below)) at.port (subst P box at.there) (subst E box at.no_edge) known t
            (λ e. source (sym (ap (λ (g : Fields). g.src) same) ∙ e)) (λ e. mine (sym (ap (λ (g : Fields). g.dst) same) ∙ e))
            (ap (λ (g : Fields). is_supervision g.dst g.kind) same ∙ no_life sending.frame.dst sending.frame.kind single) (ap (λ (g : Fields). is_group g.dst) same ∙ single) (ap (λ (g : Fields). known g.dst) same ∙ near))

    -- what the RedBox sends itself leaves it too
    own_left : send.node ≡ joined → list_any (is_copy send) (passes (owner_of run joined) 2 (past_of run joined)) ≡ true
    own_left node =
        let L : ℕ → Type 0 = λ j. list_any (is_copy send) (passes (owner_of run j) 2 (past_of run j)) ≡ true in
        let K : ℕ → Type 0 = λ j. Each (MayKnow (owner_of run j) send (Known sending.frame.dst)) (past_of run j) in
        let B : ℕ → Type 0 = λ j. place_of run j ≡ RedBox mac mode in
        subst L node (sent_here (subst B (sym node) box) (subst K (sym node) knowing))
      where
        sent_here : place_of run send.node ≡ RedBox mac mode → Each (MayKnow (owner_of run send.node) send (Known sending.frame.dst)) (past_of run send.node) → list_any (is_copy send) (passes (owner_of run send.node) 2 (past_of run send.node)) ≡ true
        sent_here place all =
            let A : Place → Type 0 = λ p. Each (Answered run.capacity (record { number = send.node; place = p })) (past_of run send.node) in
            let M : Place → Type 0 = λ p. Each (KnownWhereSent run.capacity send.node p send.place sending.frame.dst) (past_of run send.node) in
            let S : Place → Type 0 = λ p. send_at p send.place (past_of run send.node) ≡ Some sending in
            let O : Place → Type 0 = λ p. list_any (is_copy send) (passes (record { number = send.node; place = p }) 2 (past_of run send.node)) ≡ true in
            subst O (sym place) (known_left run.capacity send.node mac mode send.place sending (past_of run send.node) single (subst A place (legal run closed net send.node is.0)) (subst M place all) (subst S place is.1))

    box_left : (send.node ≡ joined) ⊎ IsReached run send sending.frame joined → Left run send (start_of run last)
    box_left comes =
        let L : ℕ → Type 0 = λ n. list_any (is_copy send) (passes (owner_of run joined) n (past_of run joined)) ≡ true in
        subst L (sym two) (by_sender (cases_Bool (send.node == joined)) comes)
      where
        by_sender : (send.node == joined ≡ true) ⊎ (send.node == joined ≡ false) → (send.node ≡ joined) ⊎ IsReached run send sending.frame joined → list_any (is_copy send) (passes (owner_of run joined) 2 (past_of run joined)) ≡ true
        by_sender (inl own) comes = own_left (eqb-true send.node joined own)
        by_sender (inr far) (inl own) = own_left own
        by_sender (inr far) (inr r) = let apart : (send.node ≡ joined → ⊥) = λ e. false≢true (sym far ∙ eq-eqb send.node joined e) in left_box apart (reached_box apart r)

  -- ---- or from another Station

  station_left : is_station (place_of run joined) ≡ true → joined ≡ send.node → Left run send (start_of run last)
  station_left from_station node =
      let S : ℕ → Type 0 = λ j. is_station (place_of run j) ≡ true in
      let sender = subst S node from_station in
      sent_from run closed net send sending is (each_unknown_before (λ m. ⊥) (owner_of run send.node) sending.frame.dst (λ none. none) (past_of run send.node)
      (each_so (Answered run.capacity (owner_of run send.node)) (λ x past. OfSource (λ m. ⊥) (place_of run send.node) x.event) (past_of run send.node) (λ x past ok. by_event sender x.event) (legal run closed net send.node is.0)))
      (start_of run last) (net.ends last last_below) node (station_lets sending.frame (place_of run joined) (start_of run last).port from_station)
    where
      by_event : is_station (place_of run send.node) ≡ true → (event : Event) → OfSource (λ m. ⊥) (place_of run send.node) event
      by_event s (Send from dst vlan ethertype payload) = tt
      by_event s (Supervise about) = tt
      by_event s Age = tt
      by_event s (Arrive port copy) = λ edge no_station f plain. false≢true (sym no_station ∙ s)

  last_left : ((start_of run last).node ≡ send.node) ⊎ ((is_redbox (place_of run joined) ≡ true) × IsReached run send sending.frame joined) → (is_redbox (place_of run joined) ≡ true → FindsEach run send sending.frame.dst joined) → Left run send (start_of run last)
  last_left comes found = by_kind (cases_Bool (is_station (place_of run joined))) comes
    where
      over : IsDown (place_of run joined) (start_of run last).port → (send.node ≡ joined) ⊎ IsReached run send sending.frame joined → Left run send (start_of run last)
      over down comes = box_left down.mac down.mode down.box down.two (found (ap is_redbox down.box)) comes

      by_kind : (is_station (place_of run joined) ≡ true) ⊎ (is_station (place_of run joined) ≡ false) → ((start_of run last).node ≡ send.node) ⊎ ((is_redbox (place_of run joined) ≡ true) × IsReached run send sending.frame joined) → Left run send (start_of run last)
      by_kind (inl s) (inl node) = station_left s node
      by_kind (inl s) (inr r) = absurd (station_no_box (place_of run joined) s r.0)
      by_kind (inr no_station) (inl node) = over (down_at (place_of run joined) (start_of run last).port no_station start_edge) (inl (sym node))
      by_kind (inr no_station) (inr r) = over (down_at (place_of run joined) (start_of run last).port no_station start_edge) (inr r.1)

  -- so it went up at the Station
  went_up : is_station_with sending.frame.dst (place_of run k) ≡ true → Carries run send last → Left run send (start_of run last) → list_any (delivers send) (past_of run k) ≡ true
  went_up mine carries left =
      let A : End → Type 0 = λ end. list_any (is_copy send) (arrivals end.port (past_of run end.node)) ≡ true in
      let came_some = subst A stop_is (carried_on run closed send last carries left) in
      let I : End → Type 0 = λ end. end.port < ports (place_of run end.node) in
      edge_went_up run.capacity (owner_of run k) 0 send Any sending.frame (λ known any. station_up (place_of run k) 0 (subst I stop_is (stop_port run closed net last last_below).port) station known sending.frame mine (not_source run closed net send sending is k below other))
      (past_of run k) (legal run closed net k below) (each_so (Answered run.capacity (owner_of run k)) (MayKnow (owner_of run k) send Any) (past_of run k) (λ x past ok mine. tt) (legal run closed net k below))
      (plain_there run closed net send sending is k 0 below (station_edge (place_of run k) 0 station)) came_some
    where
      Any : Knowing
      Any known = Unit {0}

pub once_to_station : OnceToStation
once_to_station run closed net first remembers sure send sending k is single below station for_it reaches =
    let w = with_address send.node sending.frame k (place_of run k) station single for_it in
    let other = not_sender run closed net send sending is k w.2 in
    let left = last_left run closed net sure send sending is single k below station other w.1 reaches.last reaches.carries.below reaches.here reaches.comes reaches.found in
    let some = count_positive (delivers send) (past_of run k) (went_up run closed net sure send sending is single k below station other w.1 reaches.last reaches.carries.below reaches.here w.0 reaches.carries left) in
    let most = at_most_once run closed net send sending is first remembers k below in
    let same = counted run send k in
    omega arith
