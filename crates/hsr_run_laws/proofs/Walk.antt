-- One send in a closed run of a ring: its two ways round.
use Rattle.std.proofs.Common.{◌≡◌, ◌⊎◌, ℕ, ◌+◌, ◌-◌, ◌%◌, ◌<◌, ◌≤◌, ◌==◌, Bool, true, false, not, if◌then◌else◌, List, ◌∷◌, length, Some, Ok, refl, sym, ap, ◌∙◌, subst, arith, inl, inr, ⊎_elim, zero, suc, eq-eqb}
use Rattle.std.specs.List.{list_any}
use Rattle.std.proofs.lemmas.Bool.{false≢true, cases_Bool}
use Rattle.hsr_frame.specs.Address.{is_group, is_same_address}
use Rattle.hsr_frame.specs.Egress.{Egress, up}
use Rattle.hsr_frame.specs.Grammar.{Fields}
use Rattle.hsr_tag.specs.Tag.{TaggedFields, untag_of}
use Rattle.hsr_tag.specs.declared.seen.Seen.TheVariants.{Tagged}
use Rattle.hsr_node.specs.Flow.{arrivals, passes, send_at, wants}
use Rattle.hsr_node.specs.declared.sending.Sending.{Sending}
use Rattle.hsr_node.specs.Record.{Each, Owner, notes, now}
use Rattle.hsr_node.specs.declared.event.Carried.{Carried}
use Rattle.hsr_node.specs.declared.event.Probe.{Probe}
use Rattle.hsr_node.specs.declared.place.Place.{Place}
use Rattle.hsr_node.specs.declared.place.Place.TheVariants.{Danh}
use Rattle.hsr_run_laws.specs.Closed.{IsClosed, IsSend}
use Rattle.hsr_run_laws.specs.Once.{delivers, is_addressed, is_copy}
use Rattle.hsr_run_laws.specs.Premises.{IsRing, KnowsOwn, NothingMistaken, OneLossyLink, any_lost, is_note_of, mac_at}
use Rattle.hsr_run_laws.specs.Run.{Run, owner_of, past_of, rows_of}
use Rattle.hsr_run_laws.proofs.Around.{around, around_below, around_differ, around_end, around_next, around_start, search_below, steps_to}
use Rattle.hsr_run_laws.proofs.Arrived.{Knowing, MayKnow, WouldGo, arrived_noted}
use Rattle.hsr_run_laws.proofs.Danh.{RingExit, by_a, by_b, danh, egress, exit_port, mode_at}
use Rattle.hsr_run_laws.proofs.Keys.{tagged_of_send}
use Rattle.hsr_run_laws.proofs.Lists.{all_weaker}
use Rattle.hsr_run_laws.proofs.Passed.{SentByBoth, noted_delivered, noted_passed}
use Rattle.hsr_run_laws.proofs.Records.{Answered, each_so}
use Rattle.hsr_run_laws.proofs.Ring.{IsGood, forwards, good_at, hop_a, hop_b, legal, link_below, owner_is, places}
use Rattle.hsr_run_laws.proofs.RingWants.{across, wants_across, wants_up}
use Rattle.hsr_run_laws.proofs.Same.{same_address}
use Rattle.hsr_run_laws.proofs.Sends.{send_passed}

module _ (run : Run) (macs : List (List ℕ)) (closed : IsClosed run) (ring : IsRing run macs) (send : Probe) (sending : Sending) (is : IsSend run send sending) where
  abbrev frame : Fields
  frame = sending.frame

  pub sender_below : send.node < length macs
  sender_below = omega (arith, is.0, places run macs closed ring)

  pub sent : SentByBoth run.capacity send.node (mac_at macs send.node) (mode_at run send.node) send.place sending (past_of run send.node)
  sent =
      let place = ap (λ (o : Owner). o.place) (owner_is run macs closed ring send.node sender_below) in
      let P : Place → Type 0 = λ p. send_at p send.place (past_of run send.node) ≡ Some sending in
      send_passed run.capacity send.node (mac_at macs send.node) (mode_at run send.node) send.place sending (past_of run send.node) (legal run macs closed ring send.node sender_below) (subst P place is.1)

  abbrev Passed : RingExit → ℕ → Type 0
  Passed r k = list_any (is_copy send) (passes (owner_of run k) (exit_port r) (past_of run k)) ≡ true

  abbrev Came : RingExit → ℕ → Type 0
  Came r k = list_any (is_copy send) (arrivals (exit_port r) (past_of run k)) ≡ true

  -- a node wants the send at an egress when it comes to a port
  abbrev Wants : ℕ → RingExit → Egress → Type 0
  Wants k r e = (t : TaggedFields) → untag_of t ≡ sending.frame → (known : List ℕ → Bool) → wants (Danh (mac_at macs k) (mode_at run k)) known (exit_port r) (Ok (Tagged t)) e ≡ true

  -- what comes to a node and wants an egress was noted there
  pub noted_there : NothingMistaken run → (k : ℕ) (r : RingExit) (e : Egress) → k < length macs → Wants k r e → Came r k →
      list_any (is_note_of (Some send)) (notes (danh k (mac_at macs k) (mode_at run k)) e (past_of run k)) ≡ true
  noted_there sure k r e below wanted came =
      let O : Owner → Type 0 = λ o. Each (λ x past. KnowsOwn run.capacity o past (now (x ∷ past)) x.event) (past_of run k) in
      let in_range : k < length run.places = omega (arith, places run macs closed ring) in
      arrived_noted run.capacity (danh k (mac_at macs k) (mode_at run k)) Any e send (exit_port r) (past_of run k) (legal run macs closed ring k below)
      (subst O (owner_is run macs closed ring k below) (sure k in_range))
      (each_so (Answered run.capacity (danh k (mac_at macs k) (mode_at run k))) (MayKnow (danh k (mac_at macs k) (mode_at run k)) send Any) (past_of run k) (λ x past ok mine. tt) (legal run macs closed ring k below))
      (all_weaker (IsGood run) (WouldGo (danh k (mac_at macs k) (mode_at run k)) Any (exit_port r) e send) (arrivals (exit_port r) (past_of run k)) would (good_at run macs closed ring k r below))
      came
    where
      -- a DANH asks for nothing that is known
      Any : Knowing
      Any known = Unit {0}

      would : (copy : Carried) → IsGood run copy → WouldGo (danh k (mac_at macs k) (mode_at run k)) Any (exit_port r) e send copy
      would copy good mine =
          let two = tagged_of_send run send sending copy good.1 mine is good.0.0 good.0.1 in
          record { tagged = good.0.0; is = good.0.1; wanted = λ known any. wanted good.0.0 two.0 known }

  -- neither the sender nor the only receiver
  pub record IsBetween (k : ℕ) : Type 0 where
    pub not_sender : send.node ≡ k → ⊥
    pub not_source : sending.frame.src ≡ mac_at macs k → ⊥
    pub not_receiver : sending.frame.dst ≡ mac_at macs k → ⊥

  -- what comes to a node between leaves it on the other side, now or before
  pub passed_along : NothingMistaken run → (k : ℕ) (r : RingExit) → k < length macs → IsBetween k → Came r k → Passed (across r) k
  passed_along sure k r below between came =
      let P : Owner → Type 0 = λ o. list_any (is_copy send) (passes o (exit_port (across r)) (past_of run k)) ≡ true in
      subst P (sym (owner_is run macs closed ring k below))
      (noted_passed run.capacity k (mac_at macs k) (mode_at run k) (across r) send (past_of run k) (legal run macs closed ring k below) between.not_sender
      (noted_there sure k r (egress (across r)) below
      (λ t same known. wants_across (mac_at macs k) (mode_at run k) (forwards run macs closed ring k below) known r t (λ e. between.not_source (sym (ap (λ (f : Fields). f.src) same) ∙ e)) (λ e. between.not_receiver (sym (ap (λ (f : Fields). f.dst) same) ∙ e)))
      came))

  -- ---- round the ring from the sender

  abbrev pub at : ℕ → ℕ
  at i = around (length macs) send.node i

  pub at_below : (i : ℕ) → i < length macs → at i < length macs
  at_below i h = around_below (length macs) send.node i sender_below h

  pub at_next : (i : ℕ) → i < length macs → (at i + 1) % length macs ≡ at (suc i)
  at_next i h = let e : i + 1 ≡ suc i = omega arith in around_next (length macs) send.node i sender_below h ∙ ap (around (length macs) send.node) e

  abbrev pub Kept : ℕ → Type 0
  Kept m = any_lost (rows_of run (at m)) ≡ false

  sent_by : (r : RingExit) (k : ℕ) → send.node ≡ k → Passed r k
  sent_by r k e =
      let P : ℕ → Type 0 = λ j. list_any (is_copy send) (passes (owner_of run j) (exit_port r) (past_of run j)) ≡ true in
      let Q : Owner → Type 0 = λ o. list_any (is_copy send) (passes o (exit_port r) (past_of run send.node)) ≡ true in
      subst P e (subst Q (sym (owner_is run macs closed ring send.node sender_below)) (sent.left r))

  step_b : (i : ℕ) → i < length macs → Kept i → Passed by_b (at i) → Came by_a (at (suc i))
  step_b i h kept some =
      let P : ℕ → Type 0 = λ k. list_any (is_copy send) (arrivals 0 (past_of run k)) ≡ true in
      subst P (at_next i h) (hop_b run macs closed ring (at i) (at_below i h) kept (is_copy send) some)

  step_a : (i : ℕ) → i < length macs → Kept i → Passed by_a (at (suc i)) → Came by_b (at i)
  step_a i h kept some =
      let P : ℕ → Type 0 = λ k. list_any (is_copy send) (passes (owner_of run k) 0 (past_of run k)) ≡ true in
      hop_a run macs closed ring (at i) (at_below i h) kept (is_copy send) (subst P (sym (at_next i h)) some)

  -- each other node than the sender and a single receiver is between
  pub between_at : (d : ℕ) → d < length macs → is_addressed macs send.node sending.frame (at d) ≡ true → (m : ℕ) → 0 < m → m < length macs → (m ≡ d → ⊥) → IsBetween (at m)
  between_at d below for_it m some h other =
      record {
        not_sender = λ e. apart e;
        not_source = λ e. apart (ring.differ send.node (at m) sender_below (at_below m h) (sym (sent.source) ∙ e));
        not_receiver = λ e.
            let single : is_group sending.frame.dst ≡ false = ap is_group e ∙ ring.single (at m) (at_below m h) in
            let mine = only (is_group sending.frame.dst) (not (at d == send.node)) (is_same_address (mac_at macs (at d)) sending.frame.dst) single for_it in
            let same = ring.differ (at d) (at m) (at_below d below) (at_below m h) (same_address (mac_at macs (at d)) sending.frame.dst mine ∙ e) in
            other (sym (around_differ (length macs) send.node d m sender_below below h same));
      }
    where
      apart : send.node ≡ at m → ⊥
      apart e =
          let first : at 0 ≡ at m = around_start (length macs) send.node sender_below ∙ e in
          let none = around_differ (length macs) send.node 0 m sender_below (omega arith) h first in
          omega arith

      only : (g a b : Bool) → g ≡ false → (if g then a else b) ≡ true → b ≡ true
      only true a b e h = absurd (false≢true (sym e))
      only false a b e h = h

  -- a send isn't for its sender
  pub not_sender : (k : ℕ) → is_addressed macs send.node sending.frame k ≡ true → k ≡ send.node → ⊥
  not_sender k h e = by_group (is_group sending.frame.dst) refl h
    where
      by_group : (g : Bool) → is_group sending.frame.dst ≡ g → (if g then not (k == send.node) else is_same_address (mac_at macs k) sending.frame.dst) ≡ true → ⊥
      by_group true group h = false≢true (ap not (sym (eq-eqb k send.node e)) ∙ h)
      by_group false group h = sent.elsewhere group (sym (same_address (mac_at macs k) sending.frame.dst h) ∙ ap (mac_at macs) e)

  module _ (sure : NothingMistaken run) where
    -- along B, i steps
    walk_b : (i : ℕ) → i < length macs → ((m : ℕ) → m < i → Kept m) → ((m : ℕ) → 0 < m → m ≤ i → IsBetween (at m)) → Passed by_b (at i)
    walk_b zero below kept between = sent_by by_b (at 0) (sym (around_start (length macs) send.node sender_below))
    walk_b (suc i) below kept between =
        let there = walk_b i (omega arith) (λ m h. kept m (omega arith)) (λ m some h. between m some (omega arith)) in
        passed_along sure (at (suc i)) by_a (at_below (suc i) below) (between (suc i) (omega arith) (omega arith)) (step_b i (omega arith) (kept i (omega arith)) there)

    came_b : (i : ℕ) → suc i < length macs → ((m : ℕ) → m < suc i → Kept m) → ((m : ℕ) → 0 < m → m < suc i → IsBetween (at m)) → Came by_a (at (suc i))
    came_b i below kept between =
        let inside : i < length macs = omega arith in
        step_b i inside (kept i (omega arith)) (walk_b i inside (λ m h. kept m (omega arith)) (λ m some h. between m some (omega arith)))

    -- along A, j steps back to place i
    walk_a : (j i : ℕ) → i + j ≡ length macs → ((m : ℕ) → i ≤ m → m < length macs → Kept m) → ((m : ℕ) → i ≤ m → m < length macs → IsBetween (at m)) → Passed by_a (at i)
    walk_a zero i whole kept between =
        let full : length macs ≡ i = omega arith in
        sent_by by_a (at i) (sym (around_end (length macs) send.node) ∙ ap at full)
    walk_a (suc j) i whole kept between =
        let inside : i < length macs = omega arith in
        let there = walk_a j (suc i) (omega arith) (λ m h g. kept m (omega arith) g) (λ m h g. between m (omega arith) g) in
        passed_along sure (at i) by_b (at_below i inside) (between i (omega arith) inside) (step_a i inside (kept i (omega arith) inside) there)

    came_a : (i : ℕ) → i < length macs → ((m : ℕ) → i ≤ m → m < length macs → Kept m) → ((m : ℕ) → i < m → m < length macs → IsBetween (at m)) → Came by_b (at i)
    came_a i inside kept between =
        let e : suc i + (length macs - suc i) ≡ length macs = omega arith in
        let there = walk_a (length macs - suc i) (suc i) e (λ m h g. kept m (omega arith) g) (λ m h g. between m (omega arith) g) in
        step_a i inside (kept i (omega arith) inside) there

    -- each other node that the send is for has an arrival of it
    pub one_path_whole : OneLossyLink run → (k : ℕ) → k < length macs → (k ≡ send.node → ⊥) → is_addressed macs send.node sending.frame k ≡ true → Came by_a k ⊎ Came by_b k
    one_path_whole one k below other for_it =
        let way = steps_to (length macs) send.node k sender_below below other in
        let F : ℕ → Type 0 = λ j. is_addressed macs send.node sending.frame j ≡ true in
        let for_there : is_addressed macs send.node sending.frame (at way.0) ≡ true = subst F (sym way.3) for_it in
        let R : ℕ → Type 0 = λ j. Came by_a j ⊎ Came by_b j in
        subst R way.3
        (⊎_elim
        (λ kept. inl (along_b way.0 way.1 way.2 for_there kept))
        (λ lost. inr (came_a way.0 way.2
        (λ m h g. ⊎_elim
        (λ again.
        let same = one (at lost.0) (at m) (below_links lost.0 (omega (arith, lost.1, way.2))) (below_links m g) lost.2 again in
        let equal = around_differ (length macs) send.node lost.0 m sender_below (omega (arith, lost.1, way.2)) g same in
        absurd (omega (arith, equal, lost.1, h)))
        (λ fine. fine) (cases_Bool (any_lost (rows_of run (at m)))))
        (λ m h g. between_at way.0 way.2 for_there m (omega arith) g (λ e. omega (arith, e, h)))))
        (search_below (λ i. any_lost (rows_of run (at i))) way.0))
      where
        below_links : (m : ℕ) → m < length macs → at m < length run.links
        below_links m h = link_below run macs closed ring (at m) (at_below m h)

        along_b : (d : ℕ) → 0 < d → d < length macs → is_addressed macs send.node sending.frame (at d) ≡ true → ((i : ℕ) → i < d → any_lost (rows_of run (at i)) ≡ false) → Came by_a (at d)
        along_b zero some below for_it kept = absurd (omega arith)
        along_b (suc i) some below for_it kept = came_b i below kept (λ m h g. between_at (suc i) below for_it m h (omega arith) (λ e. omega arith))

    -- each node that the send is for has an arrival of it that went up
    pub delivered : OneLossyLink run → (k : ℕ) → k < length macs → is_addressed macs send.node sending.frame k ≡ true → list_any (delivers send) (past_of run k) ≡ true
    delivered one k below for_it =
        let other = not_sender k for_it in
        noted_delivered run.capacity k (mac_at macs k) (mode_at run k) send (past_of run k) (legal run macs closed ring k below) (λ e. other (sym e))
        (⊎_elim
        (λ came. noted_there sure k by_a up below (wanted by_a other) came)
        (λ came. noted_there sure k by_b up below (wanted by_b other) came)
        (one_path_whole one k below other for_it))
      where
        for_me : (g : Bool) → is_group sending.frame.dst ≡ g → (if g then not (k == send.node) else is_same_address (mac_at macs k) sending.frame.dst) ≡ true → g ≡ false → sending.frame.dst ≡ mac_at macs k
        for_me true is_so h e = absurd (false≢true (sym e))
        for_me false is_so h e = sym (same_address (mac_at macs k) sending.frame.dst h)

        wanted : (r : RingExit) → (k ≡ send.node → ⊥) → Wants k r up
        wanted r other t same known =
            wants_up (mac_at macs k) (mode_at run k) known r t
            (λ e. other (sym (ring.differ send.node k sender_below below (sym (sent.source) ∙ (sym (ap (λ (f : Fields). f.src) same) ∙ e)))))
            (λ g. ap (λ (f : Fields). f.dst) same ∙ for_me (is_group sending.frame.dst) refl for_it (ap (λ (f : Fields). is_group f.dst) (sym same) ∙ g))
