-- In a closed run of a network each node that a send is for and reaches took it up once.
use Rattle.std.proofs.Common.{◌≡◌, ◌⊎◌, ℕ, ◌<◌, ◌==◌, ◌&&◌, ◌||◌, Bool, true, false, not, List, [], ◌∷◌, length, Some, Ok, Err, refl, sym, ap, ◌∙◌, subst, arith, inl, inr, ⊎_elim, eqb-true, eq-eqb, if◌then◌else◌}
use Rattle.std.specs.List.{list_any, AllByRecursion}
use Rattle.std.proofs.lemmas.Bool.{false≢true, and_parts, or_cases, or_right, not-true, not-false, cases_Bool}
use Rattle.hsr_frame.specs.Address.{is_among, is_group, is_same_address}
use Rattle.hsr_frame.specs.Egress.{Egress, is_supervision, up}
use Rattle.hsr_frame.specs.Grammar.{Fields}
use Rattle.hsr_frame.specs.declared.fault.FrameFault.{FrameFault}
use Rattle.hsr_frame.specs.declared.node.Mode.{Mode}
use Rattle.hsr_tag.specs.Tag.{TaggedFields, untag_of}
use Rattle.hsr_tag.specs.declared.seen.Seen.TheVariants.{Plain, Tagged}
use Rattle.hsr_node.specs.Flow.{arrivals, passes, send_at, wants}
use Rattle.hsr_node.specs.Record.{Each, notes, now}
use Rattle.hsr_node.specs.declared.entry.Entry.{Entry}
use Rattle.hsr_node.specs.declared.event.Carried.{Carried}
use Rattle.hsr_node.specs.declared.event.Event.{Event}
use Rattle.hsr_node.specs.declared.event.Probe.{Probe}
use Rattle.hsr_node.specs.declared.place.Place.{Place}
use Rattle.hsr_node.specs.declared.place.Place.TheVariants.{Danh, RedBox, QuadBox, Station}
use Rattle.hsr_node.specs.declared.sending.Sending.{Sending}
use Rattle.hsr_node.specs.Copies.{plain_in}
use Rattle.hsr_run_laws.specs.Closed.{IsClosed, IsOfSend, IsSend}
use Rattle.hsr_network_laws.specs.Channels.{ComesOver, IsReached, keeps_own, lets_out, on, passes_on, sent}
use Rattle.hsr_network_laws.specs.Delivered.{OnceInNetwork, is_covered, is_meant}
use Rattle.hsr_network_laws.specs.Network.{HasAddress, IsPortOf, IsNetwork, Channel, is_edge, is_station, start_of, stop_of}
use Rattle.hsr_node.specs.Place.{ports}
use Rattle.hsr_run_laws.specs.Once.{delivers, is_copy}
use Rattle.hsr_run_laws.specs.Premises.{NothingMistaken, is_note_of}
use Rattle.hsr_run_laws.specs.Run.{Run, owner_of, past_of, place_of}
use Rattle.hsr_topology.specs.declared.end.End.{End}
use Rattle.hsr_run_laws.proofs.Arrived.{Knowing, MayKnow, WouldGo, arrived_noted}
use Rattle.hsr_network_laws.proofs.AtMost.{at_most_once}
use Rattle.hsr_run_laws.proofs.Delivering.{delivers_is}
use Rattle.hsr_network_laws.proofs.Counts.{no_fault_up}
use Rattle.hsr_network_laws.proofs.Covered.{all_unknown, all_unknown_before, has_source, no_station_has}
use Rattle.hsr_network_laws.proofs.Unknown.{Unknown, UnknownBefore}
use Rattle.hsr_network_laws.proofs.Unwanted.{at_among, own_plain_unwanted, quad_not_up, single_plain, single_tagged}
use Rattle.hsr_network_laws.proofs.Sides.{exit_of, few_ports}
use Rattle.hsr_network_laws.proofs.Fits.{legal}
use Rattle.hsr_network_laws.proofs.Hops.{IsGoodAt, all_fit, none_back, stop_port}
use Rattle.hsr_network_laws.proofs.Leaving.{edge_went_up, interlink_left, noted_left, noted_up}
use Rattle.hsr_network_laws.proofs.Wants.{IsForEdge, IsForeign, IsMeantAt, among_at, edge_up, ring_on, ring_up}
use Rattle.hsr_network_laws.proofs.Sending.{send_left}
use Rattle.hsr_run_laws.proofs.Keys.{each_of_send, plain_of_send, tagged_of_send}
use Rattle.hsr_run_laws.proofs.Lists.{all_weaker, count_positive, count_zero}
use Rattle.hsr_network_laws.proofs.Links.{Arrived, Left, carried_on}
use Rattle.hsr_run_laws.proofs.NotedOnce.{own_source}
use Rattle.hsr_run_laws.proofs.Once.{counted, only_frames}
use Rattle.hsr_run_laws.proofs.Records.{Answered, IsSource, OfArrival}
use Rattle.hsr_run_laws.proofs.Views.{Came, came, knows_at, leaves_wanted}
use Rattle.hsr_run_laws.proofs.Wanted.{own_unwanted, source_of}
use Rattle.hsr_run_laws.proofs.Same.{other_address, same_address}
use Rattle.hsr_run_laws.proofs.Sends.{send_passed}

-- what a port at an edge of a node that lets frames on is
pub record IsDown (place : Place) (port : ℕ) : Type 0 where
  pub mac : List ℕ
  pub mode : Mode
  pub box : place ≡ RedBox mac mode
  pub two : port ≡ 2

pub down_at : (place : Place) (port : ℕ) → is_station place ≡ false → is_edge place port ≡ true → IsDown place port
down_at (Danh mac mode) port s e = absurd (false≢true e)
down_at (RedBox mac mode) port s e = record { mac = mac; mode = mode; box = refl; two = eqb-true port 2 e }
down_at QuadBox port s e = absurd (false≢true e)
down_at (Station macs) port s e = absurd (false≢true (sym s))

-- what is let out there
for_edge : (frame : Fields) (place : Place) (port : ℕ) → lets_out frame place port ≡ true → is_station place ≡ false → is_edge place port ≡ true → IsForEdge frame.dst frame.kind
for_edge frame (Danh mac mode) port lets s e = absurd (false≢true e)
for_edge frame (RedBox mac mode) port lets s e = by_parts (port == 2) e lets
  where
    by_parts : (two : Bool) → two ≡ true → (not two || (is_group frame.dst && not (is_supervision frame.dst frame.kind))) ≡ true → IsForEdge frame.dst frame.kind
    by_parts true e h =
        let parts = and_parts (is_group frame.dst) (not (is_supervision frame.dst frame.kind)) h in
        record { group = parts.0; life = not-true (is_supervision frame.dst frame.kind) parts.1 }
    by_parts false e h = absurd (false≢true e)
for_edge frame QuadBox port lets s e = absurd (false≢true e)
for_edge frame (Station macs) port lets s e = absurd (false≢true (sym s))

-- what passes a frame on
passes_no_station : (sender k : ℕ) (frame : Fields) (place : Place) (port : ℕ) → passes_on sender frame k place port ≡ true → is_station place ≡ false
passes_no_station sender k frame (Danh mac mode) port h = refl
passes_no_station sender k frame (RedBox mac mode) port h = refl
passes_no_station sender k frame QuadBox port h = refl
passes_no_station sender k frame (Station macs) port h = absurd (false≢true h)

-- what a node keeps is to another where it passes it on
kept_other : (a b : Bool) → a ≡ true → (a && b) ≡ false → b ≡ false
kept_other true b e h = h
kept_other false b e h = absurd (false≢true e)

module _ (run : Run) (closed : IsClosed run) (net : IsNetwork run) (send : Probe) (sending : Sending) (is : IsSend run send sending) where
  pub sent_from : Each (UnknownBefore (owner_of run send.node) sending.frame.dst) (past_of run send.node) → (end : End) → IsPortOf run end → end.node ≡ send.node → lets_out sending.frame (place_of run end.node) end.port ≡ true → Left run send end
  sent_from unknown end at here lets =
      let N' : ℕ → Type 0 = λ k. list_any (is_copy send) (passes (owner_of run k) end.port (past_of run k)) ≡ true in
      let K : ℕ → Type 0 = λ k. end.port < ports (place_of run k) in
      let L : ℕ → Type 0 = λ k. lets_out sending.frame (place_of run k) end.port ≡ true in
      subst N' (sym here)
      (send_left run.capacity send.node (place_of run send.node) end.port send.place sending (past_of run send.node) (subst K here at.port) (subst L here lets) (legal run closed net send.node is.0)
      unknown is.1)

  own_there : HasAddress (place_of run send.node) sending.frame.src
  own_there = has_source (place_of run send.node) sending.frame.src (source_of (place_of run send.node) send.place (past_of run send.node) sending is.1)

  -- another node hasn't the source's address
  pub not_source : (k : ℕ) → k < length run.places → (k ≡ send.node → ⊥) → HasAddress (place_of run k) sending.frame.src → ⊥
  not_source k below other own = other (net.differ k send.node sending.frame.src below is.0 own own_there)

  -- and a group's address is none's
  not_group : (k : ℕ) → k < length run.places → is_group sending.frame.dst ≡ true → HasAddress (place_of run k) sending.frame.dst → ⊥
  not_group k below group own = false≢true (sym (net.single k sending.frame.dst below own) ∙ group)

  -- what passes the send on is not its sender
  not_sent_here : (k port : ℕ) → passes_on send.node sending.frame k (place_of run k) port ≡ true → k ≡ send.node → ⊥
  not_sent_here k port h own =
      let N' : ℕ → Type 0 = λ j. HasAddress (place_of run j) sending.frame.src in
      by_place (place_of run k) h (subst N' (sym own) own_there)
    where
      by_place : (place : Place) → passes_on send.node sending.frame k place port ≡ true → HasAddress place sending.frame.src → ⊥
      by_place (Danh mac mode) h src = false≢true (sym (not-true (k == send.node) (and_parts (not (k == send.node)) (not (keeps_own mode && is_same_address mac sending.frame.dst)) h).0) ∙ eq-eqb k send.node own)
      by_place (RedBox mac mode) h src = false≢true (sym (not-true (k == send.node) (and_parts (not (k == send.node)) (not ((keeps_own mode || port == 2) && is_same_address mac sending.frame.dst)) h).0) ∙ eq-eqb k send.node own)
      by_place QuadBox h src = src
      by_place (Station macs) h src = false≢true h

  -- for a node that passes it on it is a foreign frame
  foreign : (k port : ℕ) → k < length run.places → passes_on send.node sending.frame k (place_of run k) port ≡ true → IsForeign (place_of run k) port sending.frame.dst sending.frame.src
  foreign k port below h = by_place (place_of run k) h (not_source k below (not_sent_here k port h)) (not_group k below)
    where
      by_place : (place : Place) → passes_on send.node sending.frame k place port ≡ true → (HasAddress place sending.frame.src → ⊥) → (is_group sending.frame.dst ≡ true → HasAddress place sending.frame.dst → ⊥) → IsForeign place port sending.frame.dst sending.frame.src
      by_place (Danh mac mode) h src group = record {
        src = src;
        dst = λ kept own. other_address mac sending.frame.dst
            (kept_other (keeps_own mode) (is_same_address mac sending.frame.dst) kept (not-true (keeps_own mode && is_same_address mac sending.frame.dst) (and_parts (not (k == send.node)) (not (keeps_own mode && is_same_address mac sending.frame.dst)) h).1)) (sym own);
        group = group;
      }
      by_place (RedBox mac mode) h src group = record {
        src = src;
        dst = λ kept own. other_address mac sending.frame.dst
            (kept_other (keeps_own mode || port == 2) (is_same_address mac sending.frame.dst) kept
            (not-true ((keeps_own mode || port == 2) && is_same_address mac sending.frame.dst) (and_parts (not (k == send.node)) (not ((keeps_own mode || port == 2) && is_same_address mac sending.frame.dst)) h).1)) (sym own);
        group = group;
      }
      by_place QuadBox h src group = record { src = src; dst = λ kept own. own; group = group }
      by_place (Station macs) h src group = absurd (false≢true h)

  tagged_foreign : (k port : ℕ) (t : TaggedFields) → untag_of t ≡ sending.frame → IsForeign (place_of run k) port sending.frame.dst sending.frame.src → IsForeign (place_of run k) port t.dst t.src
  tagged_foreign k port t same f = subst (λ (g : Fields). IsForeign (place_of run k) port g.dst g.src) (sym same) f

  -- what comes to a ring's port and wants an egress was noted there
  pub noted_there : (may : Knowing) → NothingMistaken run → (k port : ℕ) (e : Egress) → k < length run.places → is_edge (place_of run k) port ≡ false → Each (MayKnow (owner_of run k) send may) (past_of run k) →
      ((t : TaggedFields) → untag_of t ≡ sending.frame → (known : List ℕ → Bool) → may known → wants (place_of run k) known port (Ok (Tagged t)) e ≡ true) → list_any (is_copy send) (arrivals port (past_of run k)) ≡ true →
      list_any (is_note_of (Some send)) (notes (owner_of run k) e (past_of run k)) ≡ true
  noted_there may sure k port e below no_edge knowing wanted came_some =
      arrived_noted run.capacity (owner_of run k) may e send port (past_of run k) (legal run closed net k below) (sure k below) knowing
      (all_weaker (IsGoodAt run closed net (is_edge (place_of run k) port)) (WouldGo (owner_of run k) may port e send) (arrivals port (past_of run k)) would (all_fit run closed net k port below))
      came_some
    where
      would : (copy : Carried) → IsGoodAt run closed net (is_edge (place_of run k) port) copy → WouldGo (owner_of run k) may port e send copy
      would copy good mine =
          let t = good.0.tagged good.1 no_edge in
          let two = tagged_of_send run send sending copy good.1 mine is t.0 t.1 in
          record { tagged = t.0; is = t.1; wanted = λ known near. wanted t.0 two.0 known near }

  -- what comes to an edge is the plain frame
  pub plain_there : (k port : ℕ) → k < length run.places → is_edge (place_of run k) port ≡ true → AllByRecursion (λ copy. is_copy send copy ≡ true → came copy ≡ Ok (Plain sending.frame)) (arrivals port (past_of run k))
  plain_there k port below edge =
      all_weaker (IsGoodAt run closed net (is_edge (place_of run k) port)) (λ copy. is_copy send copy ≡ true → came copy ≡ Ok (Plain sending.frame)) (arrivals port (past_of run k)) plain (all_fit run closed net k port below)
    where
      plain : (copy : Carried) → IsGoodAt run closed net (is_edge (place_of run k) port) copy → is_copy send copy ≡ true → came copy ≡ Ok (Plain sending.frame)
      plain copy good mine =
          let p = good.0.plain good.1 edge in
          p.1 ∙ ap (λ (f : Fields). Ok (Plain f)) (plain_of_send run send sending copy good.1 mine is p.0 p.1)

  -- what comes to a node that lets it on leaves by each other port, now or before
  pub let_on : NothingMistaken run → (at : End) (next : Channel) → IsPortOf run at → Each (MayKnow (owner_of run at.node) send (Unknown sending.frame.dst)) (past_of run at.node) → next.link < length run.links → (start_of run next).node ≡ at.node → ((start_of run next).port ≡ at.port → ⊥) →
      passes_on send.node sending.frame at.node (place_of run at.node) at.port ≡ true → lets_out sending.frame (place_of run (start_of run next).node) (start_of run next).port ≡ true → ((stop_of run next).node ≡ send.node → ⊥) →
      Arrived run send at → Left run send (start_of run next)
  let_on sure at next there unknown below node other lets out away came_some =
      let K : ℕ → Type 0 = λ k. list_any (is_copy send) (passes (owner_of run k) (start_of run next).port (past_of run k)) ≡ true in
      let B : ℕ → Type 0 = λ k. (start_of run next).port < ports (place_of run k) in
      let O : ℕ → Type 0 = λ k. lets_out sending.frame (place_of run k) (start_of run next).port ≡ true in
      let E : ℕ → Type 0 = λ k. is_edge (place_of run k) (start_of run next).port ≡ true → list_any (is_copy send) (arrivals (start_of run next).port (past_of run k)) ≡ false in
      let few = subst B node (net.ends next below).port in
      let out' = subst O node out in
      let no_station = passes_no_station send.node at.node sending.frame (place_of run at.node) at.port lets in
      let not_own = not_sent_here at.node at.port lets in
      let f = foreign at.node at.port there.node lets in
      let S : ℕ → Type 0 = λ k. is_station (place_of run k) ≡ false in
      let back : is_edge (place_of run at.node) (start_of run next).port ≡ true → list_any (is_copy send) (arrivals (start_of run next).port (past_of run at.node)) ≡ false =
      subst E node (λ edge. none_back run closed net send next below edge (subst S (sym node) no_station) away) in
      subst K (sym node)
      (⊎_elim
      (λ edge. from_edge at (start_of run next).port there unknown few other (down_at (place_of run at.node) at.port no_station edge) f edge came_some)
      (λ no_edge.
      noted_left run.capacity (owner_of run at.node) (start_of run next).port send (past_of run at.node) few (few_ports (place_of run at.node) (start_of run next).port few) (legal run closed net at.node there.node) (λ e. not_own (sym e)) back
      (noted_there (Unknown sending.frame.dst) sure at.node at.port (exit_of (start_of run next).port) there.node no_edge unknown
      (λ t same known near. ring_on (place_of run at.node) (net.modes at.node there.node) no_station at.port (start_of run next).port there.port few no_edge other known t (tagged_foreign at.node at.port t same f) (ap (λ (g : Fields). known g.dst) same ∙ near)
      (λ edge. subst (λ (g : Fields). IsForEdge g.dst g.kind) (sym same) (for_edge sending.frame (place_of run at.node) (start_of run next).port out' no_station edge)))
      came_some))
      (cases_Bool (is_edge (place_of run at.node) at.port)))
    where
      from_edge : (at : End) (n : ℕ) → IsPortOf run at → Each (MayKnow (owner_of run at.node) send (Unknown sending.frame.dst)) (past_of run at.node) → n < ports (place_of run at.node) → (n ≡ at.port → ⊥) → IsDown (place_of run at.node) at.port → IsForeign (place_of run at.node) at.port sending.frame.dst sending.frame.src →
          is_edge (place_of run at.node) at.port ≡ true → Arrived run send at → list_any (is_copy send) (passes (owner_of run at.node) n (past_of run at.node)) ≡ true
      from_edge at n there unknown few other down f edge came_some =
          let B : Place → Type 0 = λ p. n < ports p in
          let F : Place → Type 0 = λ p. IsForeign p at.port sending.frame.dst sending.frame.src in
          let P : ℕ → Type 0 = λ port. AllByRecursion (λ copy. is_copy send copy ≡ true → came copy ≡ Ok (Plain sending.frame)) (arrivals port (past_of run at.node)) in
          let A : ℕ → Type 0 = λ port. list_any (is_copy send) (arrivals port (past_of run at.node)) ≡ true in
          let three : n < 3 = subst B down.box few in
          let two : n < 2 = below_two n three (λ e. other (e ∙ sym down.two)) in
          let box = subst F down.box f in
          interlink_left run.capacity (owner_of run at.node) down.mac down.mode down.box n two send sending.frame box.src (box.dst (or_right _ _ (eq-eqb at.port 2 down.two))) (past_of run at.node) (legal run closed net at.node there.node)
          unknown
          (subst P down.two (plain_there at.node at.port there.node edge)) (subst A down.two came_some)
        where
          below_two : (n : ℕ) → n < 3 → (n ≡ 2 → ⊥) → n < 2
          below_two n h other = omega arith

  pub comes_below : (channel : Channel) → ComesOver run send sending.frame channel → channel.link < length run.links
  comes_below channel (sent channel' carries first) = carries.below
  comes_below channel (on before next comes carries goes) = carries.below

  -- a send comes to the end of each channel to which it comes by channels that carry it
  pub came_there : is_covered run.places sending.frame ≡ true → NothingMistaken run → (channel : Channel) → ComesOver run send sending.frame channel → Arrived run send (stop_of run channel)
  came_there covered sure channel (sent channel' carries first) =
      carried_on run closed send channel' carries (sent_from (all_unknown_before run closed net sending.frame covered send.node is.0) (start_of run channel') (net.ends channel' carries.below) first.node first.out)
  came_there covered sure channel (on before next comes carries goes) =
      carried_on run closed send next carries
      (let_on sure (stop_of run before) next (stop_port run closed net before (comes_below before comes)) (all_unknown run closed net sending.frame covered send (stop_of run before).node (stop_port run closed net before (comes_below before comes)).node) carries.below goes.node goes.port goes.passes goes.out goes.away (came_there covered sure before comes))

  -- what it says that a node is meant
  record IsMeantFor (place : Place) (k : ℕ) : Type 0 where
    at : IsMeantAt place sending.frame.dst
    other : k ≡ send.node → ⊥

  pub not_sender : (k : ℕ) → not (k == send.node) ≡ true → k ≡ send.node → ⊥
  not_sender k h own = false≢true (sym (not-true (k == send.node) h) ∙ eq-eqb k send.node own)

  -- a single frame isn't to its own sender, if that is a DANH
  pub not_to_itself : (mac : List ℕ) (mode : Mode) → place_of run send.node ≡ Danh mac mode → is_group sending.frame.dst ≡ false → sending.frame.dst ≡ mac → ⊥
  not_to_itself mac mode place single same =
      let P : Place → Type 0 = λ p. send_at p send.place (past_of run send.node) ≡ Some sending in
      let O : Place → Type 0 = λ p. Each (Answered run.capacity (record { number = send.node; place = p })) (past_of run send.node) in
      (send_passed run.capacity send.node mac mode send.place sending (past_of run send.node) (subst O place (legal run closed net send.node is.0)) (subst P place is.1)).elsewhere single same

  meant_for : is_covered run.places sending.frame ≡ true → (k : ℕ) → k < length run.places → is_meant send.node sending.frame k (place_of run k) ≡ true → IsMeantFor (place_of run k) k
  meant_for covered k below h = by_place (place_of run k) refl h (no_station_has run closed net sending.frame covered k below)
    where
      by_place : (place : Place) → place_of run k ≡ place → is_meant send.node sending.frame k place ≡ true → (is_station place ≡ true → HasAddress place sending.frame.dst → ⊥) → IsMeantFor place k
      by_place (Danh mac mode) e m none = by_group (is_group sending.frame.dst) refl m
        where
          by_group : (g : Bool) → is_group sending.frame.dst ≡ g → (if g then not (k == send.node) else is_same_address mac sending.frame.dst) ≡ true → IsMeantFor (Danh mac mode) k
          by_group true g m = record { at = λ single. absurd (false≢true (sym single ∙ g)); other = not_sender k m }
          by_group false g m =
              let mine : sending.frame.dst ≡ mac = sym (same_address mac sending.frame.dst m) in
              record { at = λ single. mine; other = λ own. not_to_itself mac mode (ap (place_of run) (sym own) ∙ e) g mine }
      by_place (RedBox mac mode) e m none =
          let two = and_parts (not (k == send.node)) (is_group sending.frame.dst || is_same_address mac sending.frame.dst) m in
          record {
            at = ⊎_elim (λ group. inr group) (λ own. inl (sym (same_address mac sending.frame.dst own))) (or_cases (is_group sending.frame.dst) (is_same_address mac sending.frame.dst) two.1);
            other = not_sender k two.0;
          }
      by_place QuadBox e m none = absurd (false≢true m)
      by_place (Station macs) e m none =
          let two = and_parts (not (k == send.node)) (is_group sending.frame.dst || is_among macs.items sending.frame.dst) m in
          record {
            at = ⊎_elim (λ group. group) (λ own. absurd (none refl (among_at macs.items sending.frame.dst own))) (or_cases (is_group sending.frame.dst) (is_among macs.items sending.frame.dst) two.1);
            other = not_sender k two.0;
          }

  -- where it comes it went up
  pub delivered : is_covered run.places sending.frame ≡ true → NothingMistaken run → (k : ℕ) → k < length run.places → is_meant send.node sending.frame k (place_of run k) ≡ true → IsReached run send sending.frame k →
      list_any (delivers send) (past_of run k) ≡ true
  delivered covered sure k below for_it reaches =
      let there = stop_port run closed net reaches.channel (comes_below reaches.channel reaches.comes) in
      let A : ℕ → Type 0 = λ j. list_any (is_copy send) (arrivals (stop_of run reaches.channel).port (past_of run j)) ≡ true in
      let B : ℕ → Type 0 = λ j. (stop_of run reaches.channel).port < ports (place_of run j) in
      went_up (stop_of run reaches.channel).port (subst B reaches.here there.port) (meant_for covered k below for_it) (subst A reaches.here (came_there covered sure reaches.channel reaches.comes))
    where
      went_up : (port : ℕ) → port < ports (place_of run k) → IsMeantFor (place_of run k) k → list_any (is_copy send) (arrivals port (past_of run k)) ≡ true → list_any (delivers send) (past_of run k) ≡ true
      went_up port there m came_some =
          ⊎_elim
          (λ edge.
          edge_went_up run.capacity (owner_of run k) port send (Unknown sending.frame.dst) sending.frame (λ known near. edge_up (place_of run k) port there edge known sending.frame m.at (not_source k below m.other) near) (past_of run k) (legal run closed net k below)
          (all_unknown run closed net sending.frame covered send k below) (plain_there k port below edge) came_some)
          (λ no_edge.
          noted_up run.capacity (owner_of run k) send (past_of run k) (legal run closed net k below) (λ e. m.other (sym e))
          (noted_there (Unknown sending.frame.dst) sure k port up below no_edge (all_unknown run closed net sending.frame covered send k below)
          (λ t same known near. ring_up (place_of run k) (net.modes k below) port there no_edge known t
          (subst (λ (g : Fields). IsMeantAt (place_of run k) g.dst) (sym same) m.at)
          (subst (λ (g : Fields). HasAddress (place_of run k) g.src → ⊥) (sym same) (not_source k below m.other))) came_some))
          (cases_Bool (is_edge (place_of run k) port))

  -- ---- not where it isn't for

  pub not_for : (k : ℕ) → k < length run.places → is_meant send.node sending.frame k (place_of run k) ≡ false → list_any (delivers send) (past_of run k) ≡ false
  not_for k below other = none_of (past_of run k) (legal run closed net k below) (each_of_send run closed k below)
    where
      -- it sent it, or a single frame is to another
      IsKeptOut : Place → Type 0
      IsKeptOut place = (place ≡ QuadBox) ⊎ (k ≡ send.node) ⊎ ((is_group sending.frame.dst ≡ false) × (HasAddress place sending.frame.dst → ⊥))

      -- it is its own, or single and for none of its addresses
      own_or_other : (own group mine : Bool) → (not own && (group || mine)) ≡ false → (own ≡ true) ⊎ ((group ≡ false) × (mine ≡ false))
      own_or_other true group mine h = inl refl
      own_or_other false true mine h = absurd (false≢true (sym h))
      own_or_other false false mine h = inr (refl, h)

      kept_out : (place : Place) → is_meant send.node sending.frame k place ≡ false → IsKeptOut place
      kept_out (Danh mac mode) m = by_group (is_group sending.frame.dst) refl m
        where
          by_group : (g : Bool) → is_group sending.frame.dst ≡ g → (if g then not (k == send.node) else is_same_address mac sending.frame.dst) ≡ false → IsKeptOut (Danh mac mode)
          by_group true g m = inr (inl (eqb-true k send.node (not-false (k == send.node) m)))
          by_group false g m = inr (inr (g, λ e. other_address mac sending.frame.dst m (sym e)))
      kept_out (RedBox mac mode) m =
          ⊎_elim (λ own. inr (inl (eqb-true k send.node own))) (λ two. inr (inr (two.0, λ e. other_address mac sending.frame.dst two.1 (sym e))))
          (own_or_other (k == send.node) (is_group sending.frame.dst) (is_same_address mac sending.frame.dst) m)
      kept_out QuadBox m = inl refl
      kept_out (Station macs) m =
          ⊎_elim (λ own. inr (inl (eqb-true k send.node own))) (λ two. inr (inr (two.0, λ e. false≢true (sym two.1 ∙ at_among macs.items sending.frame.dst e.0 e.1))))
          (own_or_other (k == send.node) (is_group sending.frame.dst) (is_among macs.items sending.frame.dst) m)

      unwanted : (known : List ℕ → Bool) (port : ℕ) (copy : Carried) → IsOfSend run copy → is_copy send copy ≡ true → ((fault : FrameFault) → came copy ≡ Err fault → ⊥) → wants (place_of run k) known port (came copy) up ≡ false
      unwanted known port copy o mine no_fault =
          ⊎_elim
          (λ quad. let W : Place → Type 0 = λ p. wants p known port (came copy) up ≡ false in subst W (sym quad) (quad_not_up known port (came copy)))
          (λ rest. ⊎_elim
          (λ own. by_came (own_source run k send copy o mine (sym own)) (came copy) refl)
          (λ single. by_kind single.0 single.1 (came copy) refl)
          rest)
          (kept_out (place_of run k) other)
        where
          by_kind : is_group sending.frame.dst ≡ false → (HasAddress (place_of run k) sending.frame.dst → ⊥) → (seen : Came) → came copy ≡ seen → wants (place_of run k) known port seen up ≡ false
          by_kind group far (Err fault) e = absurd (no_fault fault e)
          by_kind group far (Ok (Tagged t)) e =
              let two = tagged_of_send run send sending copy o mine is t e in
              single_tagged (place_of run k) known port t (ap (λ (g : Fields). is_group g.dst) two.0 ∙ group) (subst (λ (g : Fields). HasAddress (place_of run k) g.dst → ⊥) (sym two.0) far)
          by_kind group far (Ok (Plain f)) e =
              let same = plain_of_send run send sending copy o mine is f e in
              single_plain (place_of run k) known port f (ap (λ (g : Fields). is_group g.dst) same ∙ group) (subst (λ (g : Fields). HasAddress (place_of run k) g.dst → ⊥) (sym same) far)

          by_came : IsSource (place_of run k) o.sending.frame.src → (seen : Came) → came copy ≡ seen → wants (place_of run k) known port seen up ≡ false
          by_came src (Err fault) e = absurd (no_fault fault e)
          by_came src (Ok (Tagged t)) e =
              let both : Some (untag_of t) ≡ Some o.sending.frame = sym (ap plain_in e) ∙ o.frame in
              let same : untag_of t ≡ o.sending.frame = cc in
              own_unwanted (place_of run k) known port t up (subst (λ (g : Fields). IsSource (place_of run k) g.src) (sym same) src)
          by_came src (Ok (Plain f)) e =
              let both : Some f ≡ Some o.sending.frame = sym (ap plain_in e) ∙ o.frame in
              let same : f ≡ o.sending.frame = cc in
              own_plain_unwanted (place_of run k) known port f up (subst (λ (g : Fields). IsSource (place_of run k) g.src) (sym same) src)

      none_of : (h : List Entry) → Each (Answered run.capacity (owner_of run k)) h → Each (λ x past. OfArrival (IsOfSend run) x.event) h → list_any (delivers send) h ≡ false
      none_of [] legal' all = refl
      none_of (x ∷ past) legal' all = none_more (delivers send x) refl (none_of past legal'.1 all.1)
        where
          none_more : (b : Bool) → delivers send x ≡ b → list_any (delivers send) past ≡ false → (b || list_any (delivers send) past) ≡ false
          none_more false is_so rest = rest
          none_more true is_so rest =
              let d = delivers_is run.capacity (owner_of run k) x past send legal'.0 is_so in
              let wanted = leaves_wanted run.capacity (owner_of run k) past (now (x ∷ past)) d.port d.copy x.outcome up d.ok d.left in
              let E : Event → Type 0 = OfArrival (IsOfSend run) in
              absurd (false≢true (sym (unwanted (knows_at (owner_of run k) past (now (x ∷ past)) d.port d.copy) d.port d.copy (subst E d.is all.0) d.mine
              (λ fault e. no_fault_up run.capacity (owner_of run k) past (now (x ∷ past)) d.port d.copy x.outcome fault d.ok e d.left)) ∙ wanted))

-- ---- all sends

pub once_in_network : OnceInNetwork
once_in_network run closed net first remembers sure = record {
  once = λ send sending k is covered below for_it reaches.
      let some = count_positive (delivers send) (past_of run k) (delivered run closed net send sending is covered sure k below for_it reaches) in
      let most = at_most_once run closed net send sending is first remembers k below in
      let same = counted run send k in
      omega arith;
  most = λ send sending k is below for_it. let most = at_most_once run closed net send sending is first remembers k below in let same = counted run send k in omega arith;
  none = λ send sending k is below other.
      sym (counted run send k) ∙ count_zero (delivers send) (past_of run k) (not_for run closed net send sending is k below other);
  nothing_else = λ k below. only_frames run closed k below;
}
