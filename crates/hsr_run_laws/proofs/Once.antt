-- Exactly once: in a closed run of a ring each node that a send is for took it up once, and nothing else went up.
use Rattle.std.proofs.Common.{◌≡◌, ◌⊎◌, ℕ, ◌<◌, ◌≤◌, ◌==◌, Bool, true, false, not, ◌||◌, cond, if◌then◌else◌, List, [], ◌∷◌, length, reverse, count_by, Some, refl, sym, ap, ◌∙◌, subst, arith, inl, inr, eqb-true}
use Rattle.std.specs.Prelude.{option_map}
use Rattle.std.specs.List.{list_any}
use Rattle.std.proofs.lemmas.List.Sorted.{IsPermutation-reverse, sum_by-IsPermutation}
use Rattle.std.proofs.lemmas.Bool.{false≢true, not-false}
use Rattle.hsr_frame.specs.Address.{is_group, is_same_address}
use Rattle.hsr_frame.specs.Egress.{up}
use Rattle.hsr_frame.specs.Grammar.{Fields, spelling}
use Rattle.hsr_frame.specs.declared.node.Mode.{Mode}
use Rattle.hsr_tag.specs.Seen.{classified}
use Rattle.hsr_tag.specs.Tag.{untag_of}
use Rattle.hsr_node.specs.Copies.{plain_in, up_octets}
use Rattle.hsr_node.specs.Flow.{wants}
use Rattle.hsr_node.specs.declared.sending.Sending.{Sending}
use Rattle.hsr_node.specs.Record.{Each, Owner, leaves, notes, now}
use Rattle.hsr_node.specs.declared.entry.Entry.{Entry}
use Rattle.hsr_node.specs.declared.event.Carried.{Carried}
use Rattle.hsr_node.specs.declared.event.Event.{Event}
use Rattle.hsr_node.specs.declared.event.Event.TheVariants.{Send, Supervise, Arrive, Age}
use Rattle.hsr_node.specs.declared.event.Outcome.{Outcome}
use Rattle.hsr_node.specs.declared.event.Outcome.TheVariants.{Sent, Life, Judged, Aged}
use Rattle.hsr_node.specs.declared.event.Probe.{Probe}
use Rattle.hsr_node.specs.declared.place.Place.TheVariants.{Danh}
use Rattle.hsr_run_laws.specs.Closed.{IsClosed, IsOfSend, IsSend}
use Rattle.hsr_run_laws.specs.Once.{ExactlyOnce, GoesUp, delivers, is_addressed}
use Rattle.hsr_run_laws.specs.Premises.{IsRing, NothingForgotten, NumbersFirst, is_note_of, mac_at}
use Rattle.hsr_run_laws.specs.Run.{Run, owner_of, past_of, record_of}
use Rattle.hsr_run_laws.proofs.Danh.{by_a, by_b, danh, mode_at}
use Rattle.hsr_run_laws.proofs.Delivering.{delivers_is}
use Rattle.hsr_run_laws.proofs.Keys.{each_of_send, tagged_of_send}
use Rattle.hsr_run_laws.proofs.Lists.{count_positive, count_zero}
use Rattle.hsr_run_laws.proofs.NotedOnce.{noted_once}
use Rattle.hsr_run_laws.proofs.Passed.{delivered_counts}
use Rattle.hsr_run_laws.proofs.Records.{Answered, OfArrival, each_so, legal_each}
use Rattle.hsr_run_laws.proofs.Ring.{IsGood, each_arrival, good_at, legal, owner_is, places}
use Rattle.hsr_run_laws.proofs.RingWants.{wants_not_up}
use Rattle.hsr_run_laws.proofs.Same.{other_address}
use Rattle.hsr_run_laws.proofs.Unnumbered.{record_numbers_none}
use Rattle.hsr_run_laws.proofs.Views.{Came, knows_at, leaves_wanted}
use Rattle.hsr_run_laws.proofs.Walk.{delivered, sent}

-- the count over a record is that over its past
pub counted : (run : Run) (send : Probe) (k : ℕ) → count_by (delivers send) (past_of run k) ≡ count_by (delivers send) (record_of run k)
counted run send k = sum_by-IsPermutation (λ x. cond (delivers send x) 1 0) (record_of run k) (reverse (record_of run k)) (IsPermutation-reverse (record_of run k))

-- what went up is the plain frame
frame_up : (port : ℕ) (copy : Carried) (outcome : Outcome) (f : Fields) → plain_in (classified copy.octets) ≡ Some f → leaves outcome up ≡ true → up_octets (Arrive port copy) outcome ≡ Some (spelling f)
unfolding up_octets
frame_up port copy (Sent seq ports) f e left = absurd (false≢true left)
frame_up port copy (Life seq life ports) f e left = absurd (false≢true left)
frame_up port copy Aged f e left = absurd (false≢true left)
frame_up port copy (Judged true ports seq why) f e left = ap (option_map spelling) e
frame_up port copy (Judged false ports seq why) f e left = absurd (false≢true left)

-- all that went up is the frame of a send, in any closed run
pub only_frames : (run : Run) → IsClosed run → (k : ℕ) → k < length run.places → Each (λ x past. GoesUp run x.event x.outcome) (past_of run k)
only_frames run closed k below =
    each_so (λ x past. OfArrival (IsOfSend run) x.event) (λ x past. GoesUp run x.event x.outcome) (past_of run k) (λ x past good. goes_up x.event x.outcome good) (each_of_send run closed k below)
  where
    goes_up : (event : Event) (outcome : Outcome) → OfArrival (IsOfSend run) event → GoesUp run event outcome
    goes_up (Send from dst vlan seen payload) outcome good = tt
    goes_up (Supervise about) outcome good = tt
    goes_up Age outcome good = tt
    goes_up (Arrive port copy) outcome good = λ left. record { of_send = good; plain = frame_up port copy outcome good.sending.frame good.frame left }

-- no arrival of a send that isn't wanted up there went up
none_delivered : (capacity number : ℕ) (mac : List ℕ) (mode : Mode) (send : Probe) (P : Carried → Type 0) (h : List Entry) → Each (Answered capacity (danh number mac mode)) h → Each (λ x past. OfArrival P x.event) h →
    ((copy : Carried) → P copy → Rattle.hsr_run_laws.specs.Once.is_copy send copy ≡ true → (known : List ℕ → Bool) (port : ℕ) → wants (Danh mac mode) known port (classified copy.octets) up ≡ false) →
    list_any (delivers send) h ≡ false
none_delivered capacity number mac mode send P [] legal all never = refl
none_delivered capacity number mac mode send P (x ∷ past) legal all never =
    none_more (delivers send x) refl (none_delivered capacity number mac mode send P past legal.1 all.1 never)
  where
    none_more : (b : Bool) → delivers send x ≡ b → list_any (delivers send) past ≡ false → (b || list_any (delivers send) past) ≡ false
    none_more false is rest = rest
    none_more true is rest =
        let d = delivers_is capacity (danh number mac mode) x past send legal.0 is in
        let A : Event → Type 0 = OfArrival P in
        let good = subst A d.is all.0 in
        let wanted = leaves_wanted capacity (danh number mac mode) past (now (x ∷ past)) d.port d.copy x.outcome up d.ok d.left in
        absurd (false≢true (sym (never d.copy good d.mine (knows_at (danh number mac mode) past (now (x ∷ past)) d.port d.copy) d.port) ∙ wanted))

module _ (run : Run) (macs : List (List ℕ)) (closed : IsClosed run) (ring : IsRing run macs) where
  each_good : (k : ℕ) → k < length macs → Each (λ x past. OfArrival (IsGood run) x.event) (past_of run k)
  each_good k below =
      each_arrival (IsGood run) run.capacity k (mac_at macs k) (mode_at run k) (past_of run k) (legal run macs closed ring k below) (good_at run macs closed ring k by_a below) (good_at run macs closed ring k by_b below)

  -- a node takes a send up once at most
  pub at_most_once : NothingForgotten run → (send : Probe) (k : ℕ) → k < length macs → count_by (delivers send) (past_of run k) ≤ 1
  at_most_once remembers send k below =
      let in_range : k < length run.places = omega (arith, places run macs closed ring) in
      let owner = owner_is run macs closed ring k below in
      let N : Owner → Type 0 = λ o. Each (λ x past. NumbersFirst run o past x.event x.outcome) (past_of run k) in
      let C : Owner → Type 0 = λ o. count_by (delivers send) (past_of run k) ≤ count_by (is_note_of (Some send)) (notes o up (past_of run k)) in
      let first = subst N (sym owner) (record_numbers_none run (danh k (mac_at macs k) (mode_at run k)) (past_of run k) refl (legal run macs closed ring k below)) in
      let less = subst C (sym owner) (delivered_counts run.capacity k (mac_at macs k) (mode_at run k) send (past_of run k) (legal run macs closed ring k below)) in
      let most = (noted_once run k send up (past_of run k) (legal_each run.capacity (owner_of run k) (past_of run k) (closed.legal k in_range)) (each_of_send run closed k in_range) first (remembers k in_range)).once in
      omega arith

  -- what a send isn't for doesn't take it up
  not_for : (send : Probe) (sending : Sending) (k : ℕ) → IsSend run send sending → k < length macs → is_addressed macs send.node sending.frame k ≡ false → list_any (delivers send) (past_of run k) ≡ false
  not_for send sending k is below other =
      none_delivered run.capacity k (mac_at macs k) (mode_at run k) send (IsGood run) (past_of run k) (legal run macs closed ring k below) (each_good k below) unwanted
    where
      why : (f : Fields) → f ≡ sending.frame → (f.src ≡ mac_at macs k) ⊎ ((is_group f.dst ≡ false) × (f.dst ≡ mac_at macs k → ⊥))
      why f same = subst (λ (g : Fields). (g.src ≡ mac_at macs k) ⊎ ((is_group g.dst ≡ false) × (g.dst ≡ mac_at macs k → ⊥))) (sym same) (by_group (is_group sending.frame.dst) refl other)
        where
          by_group : (g : Bool) → is_group sending.frame.dst ≡ g → (if g then not (k == send.node) else is_same_address (mac_at macs k) sending.frame.dst) ≡ false →
              (sending.frame.src ≡ mac_at macs k) ⊎ ((is_group sending.frame.dst ≡ false) × (sending.frame.dst ≡ mac_at macs k → ⊥))
          by_group true group h = inl ((sent run macs closed ring send sending is).source ∙ ap (mac_at macs) (sym (eqb-true k send.node (not-false (k == send.node) h))))
          by_group false group h = inr (group, λ e. other_address (mac_at macs k) sending.frame.dst h (sym e))

      unwanted : (copy : Carried) → IsGood run copy → Rattle.hsr_run_laws.specs.Once.is_copy send copy ≡ true → (known : List ℕ → Bool) (port : ℕ) → wants (Danh (mac_at macs k) (mode_at run k)) known port (classified copy.octets) up ≡ false
      unwanted copy good mine known port =
          let two = tagged_of_send run send sending copy good.1 mine is good.0.0 good.0.1 in
          let W : Came → Type 0 = λ s. wants (Danh (mac_at macs k) (mode_at run k)) known port s up ≡ false in
          subst W (sym good.0.1) (wants_not_up (mac_at macs k) (mode_at run k) known port good.0.0 (why (untag_of good.0.0) two.0))

pub exactly_once : ExactlyOnce
exactly_once run macs closed ring one remembers sure = record {
  once = λ send sending k is below for_it.
      let some = count_positive (delivers send) (past_of run k) (delivered run macs closed ring send sending is sure one k below for_it) in
      let most = at_most_once run macs closed ring remembers send k below in
      let same = counted run send k in
      omega arith;
  none = λ send sending k is below other.
      sym (counted run send k) ∙ count_zero (delivers send) (past_of run k) (not_for run macs closed ring send sending k is below other);
  nothing_else = λ k below. only_frames run closed k (omega (arith, places run macs closed ring));
}
