-- No send went up at any node more than once.
use Rattle.std.proofs.Common.{◌≡◌, ℕ, ◌<◌, ◌≤◌, Bool, true, false, List, [], ◌∷◌, length, count_by, Some, None, Ok, Err, refl, sym, ap, ◌∙◌, subst, arith, ⊎_elim, eqb-true, ◌⊎◌, inl, inr}
use Rattle.std.specs.List.{list_any, AllByRecursion}
use Rattle.std.proofs.lemmas.Bool.{false≢true, or_cases, or_parts, cases_Bool}
use Rattle.hsr_frame.specs.Address.{is_same_address}
use Rattle.hsr_frame.specs.Egress.{up}
use Rattle.hsr_frame.specs.Grammar.{Fields}
use Rattle.hsr_frame.specs.declared.node.Cause.{Cause}
use Rattle.hsr_frame.specs.declared.node.Mode.{Mode}
use Rattle.hsr_tag.specs.declared.seen.Seen.TheVariants.{Plain, Tagged}
use Rattle.hsr_redbox.specs.Step.{number_of}
use Rattle.hsr_node.specs.Flow.{arrivals}
use Rattle.hsr_node.specs.Record.{Each, answer, handling, next_number, now, number_in}
use Rattle.hsr_node.specs.declared.entry.Entry.{Entry}
use Rattle.hsr_node.specs.declared.event.Carried.{Carried}
use Rattle.hsr_node.specs.declared.event.Event.{Event}
use Rattle.hsr_node.specs.declared.event.Event.TheVariants.{Arrive}
use Rattle.hsr_node.specs.declared.event.Outcome.TheVariants.{Judged}
use Rattle.hsr_node.specs.declared.event.Probe.{Probe}
use Rattle.hsr_node.specs.declared.place.Place.{Place}
use Rattle.hsr_node.specs.declared.place.Place.TheVariants.{Danh, RedBox, QuadBox, Station}
use Rattle.hsr_node.specs.declared.sending.Sending.{Sending}
use Rattle.hsr_run_laws.specs.Closed as closed_run
use Rattle.hsr_run_laws.specs.Closed.{IsClosed, IsOfSend, IsSend}
use Rattle.hsr_run_laws.specs.Once.{delivers, is_copy}
use Rattle.hsr_run_laws.specs.Premises.{NothingForgotten, NumberedFirst, is_redbox}
use Rattle.hsr_run_laws.specs.Run.{Run, gives, owner_of, past_of, place_of}
use Rattle.hsr_run_laws.proofs.Keys.{each_of_send, plain_of_send, tagged_of_send}
use Rattle.hsr_run_laws.proofs.Lists.{all_weaker}
use Rattle.hsr_run_laws.proofs.NotedOnce.{noted_once}
use Rattle.hsr_run_laws.proofs.Records.{Answered, OfArrival, each_from_ports, each_so}
use Rattle.hsr_run_laws.proofs.Same.{address_same, probe_is, same_address}
use Rattle.hsr_run_laws.proofs.Views.{Came, came, judged, knows_at, leaves_wanted}
use Rattle.hsr_network_laws.specs.Network.{HasAddress, IsNetwork, is_edge, is_station}
use Rattle.hsr_run_laws.proofs.Delivering.{Delivers}
use Rattle.hsr_network_laws.proofs.Counts.{IsNotOwn, delivered_came, delivered_noted, no_fault_up}
use Rattle.hsr_network_laws.proofs.Fits.{legal}
use Rattle.hsr_network_laws.proofs.Hops.{IsByStation, IsGoodAt, all_by_station, all_fit, comes_once}
use Rattle.hsr_network_laws.proofs.Late.{all_none, gives_none, number_is, numbered_came}
use Rattle.hsr_network_laws.proofs.Leaving.{came_by}
use Rattle.hsr_network_laws.proofs.Sides.{one_port}
use Rattle.hsr_network_laws.proofs.Unwanted.{ring_tagged}
use Rattle.hsr_network_laws.proofs.Wants.{interlink_own}

each_both : (P Q : Entry → List Entry → Type 0) (h : List Entry) → Each P h → Each Q h → Each (λ x past. P x past × Q x past) h
each_both P Q [] p q = tt
each_both P Q (x ∷ past) p q = ((p.0, q.0), each_both P Q past p.1 q.1)

-- one of them is such
record IsOne {X : Type 0} (P : X → Type 0) (p : X → Bool) : Type 0 where
  one : X
  has : P one
  is : p one ≡ true

one_of : {X : Type 0} (P : X → Type 0) (p : X → Bool) (xs : List X) → AllByRecursion P xs → list_any p xs ≡ true → IsOne P p
one_of P p [] all some = absurd (false≢true some)
one_of P p (x ∷ xs) all some = by_cases (or_cases (p x) (list_any p xs) some) (one_of P p xs all.1)
  where
    by_cases : (p x ≡ true) ⊎ (list_any p xs ≡ true) → (list_any p xs ≡ true → IsOne P p) → IsOne P p
    by_cases (inl here) rest = record { one = x; has = all.0; is = here }
    by_cases (inr later) rest = rest later

none_is : {X : Type 0} (p : X → Bool) (xs : List X) → list_any p xs ≡ false → AllByRecursion (λ x. p x ≡ true → ⊥) xs
none_is p [] none = tt
none_is p (x ∷ xs) none = let parts = or_parts (p x) (list_any p xs) none in (λ here. false≢true (sym parts.0 ∙ here), none_is p xs parts.1)

module _ (run : Run) (closed : IsClosed run) (net : IsNetwork run) (send : Probe) (sending : Sending) (is : IsSend run send sending) where
  -- ---- a frame that comes to the interlink of the RedBox with its address

  module _ (k : ℕ) (below : k < length run.places) (mac : List ℕ) (mode : Mode) (box : place_of run k ≡ RedBox mac mode) (own : sending.frame.dst ≡ mac) where
    -- it gets no number there
    none_here : (x : Entry) (past : List Entry) → Answered run.capacity (owner_of run k) x past → OfArrival (IsOfSend run) x.event → gives send x.event x.outcome ≡ None
    none_here x past legal' of = gives_none send x.event x.outcome never
      where
        never : (port : ℕ) (copy : Carried) (up_too : Bool) (ports : List Bool) (seq : ℕ) (why : Cause) → x.event ≡ Arrive port copy → x.outcome ≡ Judged up_too ports (Some seq) why → is_copy send copy ≡ true → ⊥
        never port copy up_too ports seq why event outcome mine =
            let A : Event → Type 0 = λ ev. answer run.capacity (owner_of run k) past (now (x ∷ past)) ev ≡ Ok x.outcome in
            let O : Event → Type 0 = OfArrival (IsOfSend run) in
            let ok = subst A event legal' in
            let o : IsOfSend run copy = subst O event of in
            let two = numbered_came run.capacity (owner_of run k) past (now (x ∷ past)) port copy x.outcome seq o.sending.frame ok (ap number_in outcome) o.frame in
            let frame = plain_of_send run send sending copy o mine is o.sending.frame two.0 in
            let j = judged run.capacity (owner_of run k) past (now (x ∷ past)) port copy x.outcome ok in
            let C : Came → Type 0 = λ s. handling (place_of run k) (knows_at (owner_of run k) past (now (x ∷ past)) port copy) port s ≡ Some j.h in
            let N : ℕ → Type 0 = λ n. handling (place_of run k) (knows_at (owner_of run k) past (now (x ∷ past)) port copy) n (Ok (Plain o.sending.frame)) ≡ Some j.h in
            let L : Place → Type 0 = λ p. handling p (knows_at (owner_of run k) past (now (x ∷ past)) port copy) 2 (Ok (Plain o.sending.frame)) ≡ Some j.h in
            let none = interlink_own mac mode (knows_at (owner_of run k) past (now (x ∷ past)) port copy) o.sending.frame j.h (ap (λ (f : Fields). f.dst) frame ∙ own) (subst L box (subst N two.1.is_two (subst C two.0 j.is))) in
            let no : number_of j.h.source (next_number past) ≡ None = ap (λ s. number_of s (next_number past)) none in
            let has : number_of j.h.source (next_number past) ≡ Some seq = sym (ap number_in j.out) ∙ ap number_in outcome in
            cc

    -- so the send has none
    no_number : list_any (is_copy send) (arrivals 2 (past_of run k)) ≡ true → closed_run.number_of run send sending ≡ None
    no_number came_some =
        let E : Place → Type 0 = λ p. is_edge p 2 ≡ true in
        let S : Place → Type 0 = λ p. is_station p ≡ false in
        let one = one_of (IsByStation run closed net k 2) (is_copy send) (arrivals 2 (past_of run k)) (all_by_station run closed net k 2 below (subst E (sym box) refl) (subst S (sym box) refl)) came_some in
        let none = all_none send (past_of run k)
        (each_so (λ x past. Answered run.capacity (owner_of run k) x past × OfArrival (IsOfSend run) x.event) (λ x past. gives send x.event x.outcome ≡ None) (past_of run k) (λ x past both. none_here x past both.0 both.1)
        (each_both (Answered run.capacity (owner_of run k)) (λ x past. OfArrival (IsOfSend run) x.event) (past_of run k) (legal run closed net k below) (each_of_send run closed k below))) in
        number_is run closed net k one.one send sending one.has (probe_is send one.one.probe one.is) is ∙ none

    -- and all that goes up came there
    by_interlink : list_any (is_copy send) (arrivals 2 (past_of run k)) ≡ true → (x : Entry) (past : List Entry) → OfArrival (IsOfSend run) x.event → (d : Delivers run.capacity (owner_of run k) x past send) → d.port ≡ 2
    by_interlink came_some x past of d = by_came (came d.copy) refl
      where
        there : d.port < Rattle.hsr_node.specs.Place.ports (place_of run k)
        there = came_by run.capacity (owner_of run k) past (now (x ∷ past)) d.port d.copy x.outcome d.ok

        two_at : (place : Place) → place ≡ RedBox mac mode → is_edge place d.port ≡ true → d.port ≡ 2
        two_at place same edge = let E : Place → Type 0 = λ p. is_edge p d.port ≡ true in eqb-true d.port 2 (subst E same edge)

        by_came : (seen : Came) → came d.copy ≡ seen → d.port ≡ 2
        by_came (Err fault) e = absurd (no_fault_up run.capacity (owner_of run k) past (now (x ∷ past)) d.port d.copy x.outcome fault d.ok e d.left)
        by_came (Ok (Tagged t)) e =
            let O : Event → Type 0 = OfArrival (IsOfSend run) in
            let has = (tagged_of_send run send sending d.copy (subst O d.is of) d.mine is t e).1 in
            let no = no_number came_some in
            absurd cc
        by_came (Ok (Plain f)) e =
            ⊎_elim (two_at (place_of run k) box)
            (λ no_edge.
            let wanted = leaves_wanted run.capacity (owner_of run k) past (now (x ∷ past)) d.port d.copy x.outcome up d.ok d.left in
            let t = ring_tagged (place_of run k) (knows_at (owner_of run k) past (now (x ∷ past)) d.port d.copy) d.port (came d.copy) up there no_edge wanted in
            let both = sym e ∙ t.1 in
            absurd cc)
            (cases_Bool (is_edge (place_of run k) d.port))

  -- ---- at any node

  abbrev NoneOwn : ℕ → Type 0
  NoneOwn k = Each (λ x past. OfArrival (IsNotOwn run.capacity (owner_of run k) send) x.event) (past_of run k)

  -- it isn't to a RedBox
  to_other : (k : ℕ) → k < length run.places → (is_redbox (place_of run k) ≡ true → HasAddress (place_of run k) sending.frame.dst → ⊥) → NoneOwn k
  to_other k below other =
      each_from_ports (IsNotOwn run.capacity (owner_of run k) send) (past_of run k)
      (λ port. all_weaker (IsGoodAt run closed net (is_edge (place_of run k) port)) (IsNotOwn run.capacity (owner_of run k) send) (arrivals port (past_of run k))
      (λ copy good mine f plain box own. other box (subst (λ (g : Fields). HasAddress (place_of run k) g.dst) (plain_of_send run send sending copy good.1 mine is f plain) own)) (all_fit run closed net k port below))

  -- or none of it came to its interlink
  none_came : (k : ℕ) → k < length run.places → is_station (place_of run k) ≡ false → (mac : List ℕ) (mode : Mode) → place_of run k ≡ RedBox mac mode → list_any (is_copy send) (arrivals 2 (past_of run k)) ≡ false → NoneOwn k
  none_came k below no_station mac mode box none = each_from_ports (IsNotOwn run.capacity (owner_of run k) send) (past_of run k) (λ port. by_edge port (cases_Bool (is_edge (place_of run k) port)))
    where
      by_edge : (port : ℕ) → (is_edge (place_of run k) port ≡ true) ⊎ (is_edge (place_of run k) port ≡ false) → AllByRecursion (IsNotOwn run.capacity (owner_of run k) send) (arrivals port (past_of run k))
      by_edge port (inl edge) =
          let E : Place → Type 0 = λ p. is_edge p port ≡ true in
          let P : ℕ → Type 0 = λ n. AllByRecursion (IsNotOwn run.capacity (owner_of run k) send) (arrivals n (past_of run k)) in
          subst P (sym (eqb-true port 2 (subst E box edge)))
          (all_weaker (λ copy. is_copy send copy ≡ true → ⊥) (IsNotOwn run.capacity (owner_of run k) send) (arrivals 2 (past_of run k)) (λ copy no mine. absurd (no mine)) (none_is (is_copy send) (arrivals 2 (past_of run k)) none))
      by_edge port (inr no_edge) =
          all_weaker (IsGoodAt run closed net (is_edge (place_of run k) port)) (IsNotOwn run.capacity (owner_of run k) send) (arrivals port (past_of run k))
          (λ copy good mine f plain. let t = good.0.tagged good.1 no_edge in let both = sym plain ∙ t.1 in absurd cc) (all_fit run closed net k port below)

  pub at_most_once : NumberedFirst run → NothingForgotten run → (k : ℕ) → k < length run.places → count_by (delivers send) (past_of run k) ≤ 1
  at_most_once first remembers k below = by_place (place_of run k) refl
    where
      -- all that went up came by one port
      by_port : (n : ℕ) → Each (λ x past. (d : Delivers run.capacity (owner_of run k) x past send) → d.port ≡ n) (past_of run k) → count_by (delivers send) (past_of run k) ≤ 1
      by_port n one =
          let less = delivered_came run.capacity (owner_of run k) n send (past_of run k) (legal run closed net k below) one in
          let most = comes_once run closed net first remembers send k n below in
          omega arith

      -- or was noted
      by_notes : is_station (place_of run k) ≡ false → NoneOwn k → count_by (delivers send) (past_of run k) ≤ 1
      by_notes no_station none =
          let less = delivered_noted run.capacity (owner_of run k) no_station send (past_of run k) (legal run closed net k below) none in
          let most = (noted_once run k send up (past_of run k) (legal run closed net k below) (each_of_send run closed k below) (first k below) (remembers k below)).once in
          omega arith

      by_place : (place : Place) → place_of run k ≡ place → count_by (delivers send) (past_of run k) ≤ 1
      by_place (Danh mac mode) here = by_notes (ap is_station here) (to_other k below (λ box. absurd (false≢true (sym (ap is_redbox here) ∙ box))))
      by_place QuadBox here = by_notes (ap is_station here) (to_other k below (λ box. absurd (false≢true (sym (ap is_redbox here) ∙ box))))
      by_place (Station macs) here =
          by_port 0
          (each_so (Answered run.capacity (owner_of run k)) (λ x past. (d : Delivers run.capacity (owner_of run k) x past send) → d.port ≡ 0) (past_of run k)
          (λ x past ok d. one_port (place_of run k) d.port (ap is_station here) (came_by run.capacity (owner_of run k) past (now (x ∷ past)) d.port d.copy x.outcome d.ok)) (legal run closed net k below))
      by_place (RedBox mac mode) here =
          ⊎_elim
          (λ own. ⊎_elim
          (λ came_some.
          by_port 2
          (each_so (λ x past. OfArrival (IsOfSend run) x.event) (λ x past. (d : Delivers run.capacity (owner_of run k) x past send) → d.port ≡ 2) (past_of run k)
          (λ x past of. by_interlink k below mac mode here (same_address sending.frame.dst mac own) came_some x past of) (each_of_send run closed k below)))
          (λ none. by_notes (ap is_station here) (none_came k below (ap is_station here) mac mode here none))
          (cases_Bool (list_any (is_copy send) (arrivals 2 (past_of run k)))))
          (λ other. by_notes (ap is_station here)
          (to_other k below (λ box has. let H : Place → Type 0 = λ p. HasAddress p sending.frame.dst in false≢true (sym other ∙ address_same sending.frame.dst mac (subst H here has)))))
          (cases_Bool (is_same_address sending.frame.dst mac))
