-- The first doubt, and the certificate.
use Rattle.std.proofs.Common.{◌≡◌, ℕ, ◌<◌, ◌==◌, ◌&&◌, ◌||◌, ◌↔◌, not, Bool, true, false, if◌then◌else◌, List, [], ◌∷◌, length, slice_index_or, Some, refl, sym, ap, ◌∙◌, subst, arith, zero, suc, ◌⊎◌, inl, inr, ⊎_elim, eqb-true}
use Rattle.std.specs.List.{AllByRecursion, list_any}
use Rattle.std.proofs.lemmas.Bool.{and_parts, cases_Bool, false≢true, not-true, or_cases, or_left, or_right}
use Rattle.hsr_frame.specs.Address.{is_among, is_group, is_same_address}
use Rattle.hsr_frame.specs.declared.node.Mode as modes
use Rattle.hsr_frame.specs.Grammar.{Fields}
use Rattle.hsr_node.specs.declared.event.Probe.{Probe}
use Rattle.hsr_node.specs.declared.place.Place.{Place}
use Rattle.hsr_node.specs.declared.place.Place.TheVariants.{Danh, RedBox, QuadBox, Station}
use Rattle.hsr_node.specs.declared.sending.Sending.{Sending}
use Rattle.hsr_frame.specs.Egress.{is_supervision}
use Rattle.hsr_run_laws.specs.Premises.{IsRing, NothingForgotten, NothingMistaken, OneLossyLink, is_redbox}
use Rattle.hsr_deliveries.specs.Delivered.{Delivery, IsComplete, deliveries, is_due, is_for, times}
use Rattle.hsr_deliveries.proofs.Completing.{IsAsDue, all_complete}
use Rattle.hsr_run_laws.specs.Closed.{IsClosed, IsSend}
use Rattle.hsr_link.specs.declared.row.Dir.TheVariants.{Forth}
use Rattle.hsr_topology.specs.declared.end.End.{End}
use Rattle.hsr_run_laws.specs.Run.{Run, from_end, place_of, to_end}
use Rattle.hsr_run_laws.proofs.Same.{same_address}
use Rattle.hsr_network_laws.proofs.Delivered.{not_to_itself}
use Rattle.hsr_network_laws.specs.Delivered.{IsOnceInNetwork, OnceInNetwork, is_covered, is_meant}
use Rattle.hsr_network_laws.specs.Late.{LateDecides}
use Rattle.hsr_network_laws.specs.Lives.{LivesStay, is_joined_with_station, is_station_at, joins_stations}
use Rattle.hsr_network_laws.specs.Rings.{IsCrossed, RingIsCrossed}
use Rattle.hsr_network_laws.specs.Network.{HasAddress, IsNetwork, is_station, is_station_with, start_of}
use Rattle.hsr_network_laws.specs.Stations.{IsReachedBelow, OnceToStation}
use Rattle.hsr_network_laws.proofs.Wants.{among_at}
use Rattle.hsr_table_flaws.specs.Flaws.{IsFirstFlaw}
use Rattle.hsr_table_flaws.specs.declared.flaw.Flaw.{Flaw}
use Rattle.hsr_table_flaws.specs.declared.flaw.Flaw.TheVariants.{Forgot, Late, Mistaken}
use Rattle.hsr_audit.specs.Coming.{Comes, is_to_station}
use Rattle.hsr_audit.specs.Danhs.{HasPremises}
use Rattle.hsr_audit.specs.Doubts.{IsFirst, IsFirstFault, IsNetworkPremised, IsRefused, IsSo, IsSound, doubt_at, of_network}
use Rattle.hsr_audit.specs.NetworkCertificate.{IsNetworkCertified, TakenUpOnce}
use Rattle.hsr_audit.specs.Placed.{HoldsIn}
use Rattle.hsr_audit.specs.Sends.{AreKnown, ArePromised, AreServed, HasSend, IsCoveredAt, IsNoSendAt, IsServedAt, probe_at}
use Rattle.hsr_audit.proofs.Clearing.{not_all_known, not_all_remembered, not_late}
use Rattle.hsr_audit.proofs.Coming.{both, box_below}
use Rattle.hsr_audit.proofs.Sending.{in_record}
use Rattle.hsr_audit.specs.declared.doubt.AuditFault.{AuditFault}
use Rattle.hsr_audit.specs.declared.doubt.AuditFault.TheVariants as fault
use Rattle.hsr_audit.specs.declared.doubt.Doubt.{Doubt}
use Rattle.hsr_audit.specs.declared.doubt.Doubt.TheVariants as doubt

-- ---- all sends

pub all_covered : (run : Run) → HoldsIn run (IsCoveredAt run) (length run.places) → ArePromised run
all_covered run all send sending is = all send.node is.0 send.place (in_record run send sending is) sending is

pub all_served : (run : Run) → HoldsIn run (IsServedAt run) (length run.places) → AreServed run
all_served run all send sending is = all send.node is.0 send.place (in_record run send sending is) sending is

-- where no entry of any record is a send nothing was sent
pub none_sent : (run : Run) → HoldsIn run (IsNoSendAt run) (length run.places) → (false ≡ true) ↔ HasSend run
none_sent run none = (λ e. absurd (false≢true e), λ h. absurd (none h.send.node h.is_send.0 h.send.place (in_record run h.send h.sending h.is_send) h.sending h.is_send))

-- ---- doubts

pub flaw_is : (run : Run) (flaw : Flaw) → HasSend run → IsNetwork run → IsFirstFlaw run (Some flaw) → IsFirst of_network run (doubt_at flaw)
flaw_is run (Forgot k i) some network first = (some, (network.modes, (network.differ, (network, first))))
flaw_is run (Mistaken k i) some network first = (some, (network.modes, (network.differ, (network, (first.0, first.1)))))
flaw_is run (Late k i) some network first = (some, (network.modes, (network.differ, (network, (first.0, (first.1, first.2))))))

-- what is asked of sends, of a run that is sound
pub cut_is : (run : Run) (k i n : ℕ) → IsSound run → IsSo run (doubt.CutOff k i n) → IsFirst of_network run (doubt.CutOff k i n)
cut_is run k i n s is = (s.sends, (s.network.modes, (s.network.differ, (s.network, (s.forgotten, (s.mistaken, (s.in_time, is)))))))

pub unknown_is : (run : Run) (k i : ℕ) → IsSound run → AreServed run → IsSo run (doubt.UnknownStation k i) → IsFirst of_network run (doubt.UnknownStation k i)
unknown_is run k i s served is = (s.sends, (s.network.modes, (s.network.differ, (s.network, (s.forgotten, (s.mistaken, (s.in_time, (served, is))))))))

pub uncovered_is : (run : Run) (k i : ℕ) → IsSound run → AreServed run → AreKnown run → IsSo run (doubt.Uncovered k i) → IsFirst of_network run (doubt.Uncovered k i)
uncovered_is run k i s served known is = (s.sends, (s.network.modes, (s.network.differ, (s.network, (s.forgotten, (s.mistaken, (s.in_time, (served, (known, is)))))))))

refuses : (run : Run) (d : Doubt) → IsFirst of_network run d → IsNetworkPremised run → ⊥
refuses run doubt.NotRing first all = first.1.1.1.1.1.1.1.1.1.1
refuses run doubt.Empty first all = first all.sound.sends
refuses run doubt.Mode first all = first.1 all.sound.network.modes
refuses run doubt.SameAddress first all = first.1.1 all.sound.network.differ
refuses run (doubt.Side l) first all = first.1.1.1.unlike (all.sound.network.sides (record { link = l; dir = Forth }) first.1.1.1.below)
refuses run doubt.TwoLinks first all = first.1.1.1.1.1.1.1.1.1.1
refuses run (doubt.Forgot k i) first all = not_all_remembered run k i first.1.1.1.1 all.sound.forgotten
refuses run (doubt.Mistaken k i) first all = not_all_known run k i first.1.1.1.1.1 all.sound.mistaken
refuses run (doubt.NumberedLate k i) first all = not_late run k i first.1.1.1.1.1.1 all.sound.in_time
refuses run (doubt.CutOff k i n) first all = first.1.1.1.1.1.1.1.0.fails (λ sending is. all.served (probe_at k i) sending is)
refuses run (doubt.UnknownStation k i) first all = first.1.1.1.1.1.1.1.1.fails (λ sending is. all.known (probe_at k i) sending is)
refuses run (doubt.Uncovered k i) first all = first.1.1.1.1.1.1.1.1.1.fails (λ sending is. all.covered (probe_at k i) sending is)

pub fault_refuses : (run : Run) (f : AuditFault) → IsFirstFault of_network run f → IsRefused (IsNetworkPremised run) f
fault_refuses run (fault.Doubt d) first = refuses run d first
fault_refuses run fault.NoMemory first = tt

-- ---- whom a send is due at

-- a list of nodes has one of which a test holds
some_here : (p : Place → Bool) (places : List Place) → list_any p places ≡ true → (k : ℕ) × (k < length places) × (p (slice_index_or places k QuadBox) ≡ true)
some_here p [] any = absurd (false≢true any)
some_here p (x ∷ xs) any =
    ⊎_elim (λ here. (0, omega arith, here))
    (λ later. let rest = some_here p xs later in let low = rest.1 in (suc rest.0, omega (arith, low), rest.2))
    (or_cases (p x) (list_any p xs) any)

any_here : (p : Place → Bool) (places : List Place) (k : ℕ) → k < length places → p (slice_index_or places k QuadBox) ≡ true → list_any p places ≡ true
any_here p [] k low is = absurd (omega (arith, low))
any_here p (x ∷ xs) zero low is = or_left (p x) (list_any p xs) is
any_here p (x ∷ xs) (suc k) low is = or_right (p x) (list_any p xs) (any_here p xs k (omega (arith, low)) is)

-- a node's own address, of what is no Station
own_address : (place : Place) (frame : Fields) → is_station place ≡ false → is_group frame.dst ≡ false → is_for place frame.dst frame.kind ≡ true → HasAddress place frame.dst
own_address (Danh mac mode) frame other single for_it = sym (same_address mac frame.dst (sym (ap (λ b. if b then true else is_same_address mac frame.dst) single) ∙ for_it))
own_address (RedBox mac mode) frame other single for_it = sym (same_address mac frame.dst (sym (ap (λ b. if b then true else is_same_address mac frame.dst) single) ∙ for_it))
own_address QuadBox frame other single for_it = absurd (false≢true (sym (ap (λ b. if b then false else false) single) ∙ for_it))
own_address (Station macs) frame other single for_it = absurd (false≢true (sym other))

-- a Station's own address
station_address : (place : Place) (address : List ℕ) → is_station_with address place ≡ true → HasAddress place address × (is_station place ≡ true)
station_address (Danh mac mode) address own = absurd (false≢true own)
station_address (RedBox mac mode) address own = absurd (false≢true own)
station_address QuadBox address own = absurd (false≢true own)
station_address (Station macs) address own = (among_at macs.items address own, refl)

-- what is due at a node is covered, unless it is a frame to one address and the node a Station
covered_due : (run : Run) → IsNetwork run → (frame : Fields) (k : ℕ) → k < length run.places → is_to_station frame (place_of run k) ≡ false → is_for (place_of run k) frame.dst frame.kind ≡ true → is_covered run.places frame ≡ true
covered_due run net frame k below other for_it =
    ⊎_elim (λ group. or_left (is_group frame.dst) (not (list_any (is_station_with frame.dst) run.places)) group)
    (λ single. or_right (is_group frame.dst) (not (list_any (is_station_with frame.dst) run.places)) (⊎_elim (λ any. absurd (clash single (some_here (is_station_with frame.dst) run.places any))) (λ none. ap not none) (cases_Bool (list_any (is_station_with frame.dst) run.places))))
    (cases_Bool (is_group frame.dst))
  where
    no_station : is_group frame.dst ≡ false → is_station (place_of run k) ≡ false
    no_station single = sym (ap (λ b. not b && is_station (place_of run k)) single) ∙ other

    clash : is_group frame.dst ≡ false → (j : ℕ) × (j < length run.places) × (is_station_with frame.dst (place_of run j) ≡ true) → ⊥
    clash single some =
        let own = station_address (place_of run some.0) frame.dst some.2 in
        let same : some.0 ≡ k = net.differ some.0 k frame.dst some.1 below own.0 (own_address (place_of run k) frame (no_station single) single for_it) in
        let S : ℕ → Type 0 = λ n. is_station (place_of run n) ≡ true in
        false≢true (sym (no_station single) ∙ subst S same own.1)

-- a single frame that is covered is to no Station
not_station : (run : Run) (frame : Fields) (k : ℕ) → is_covered run.places frame ≡ true → is_group frame.dst ≡ false → k < length run.places → is_station_with frame.dst (place_of run k) ≡ true → ⊥
not_station run frame k covered single below own =
    ⊎_elim (λ group. false≢true (sym single ∙ group))
    (λ none. clash (list_any (is_station_with frame.dst) run.places) (any_here (is_station_with frame.dst) run.places k below own) none)
    (or_cases (is_group frame.dst) (not (list_any (is_station_with frame.dst) run.places)) covered)
  where
    clash : (b : Bool) → b ≡ true → not b ≡ true → ⊥
    clash true on h = false≢true h
    clash false on h = false≢true on

due_at : (place : Place) (sender : ℕ) (frame : Fields) (k : ℕ) (group : Bool) → is_group frame.dst ≡ group → (group ≡ false → is_station_with frame.dst place ≡ true → ⊥) → not (k == sender) ≡ true →
    is_for place frame.dst frame.kind ≡ true → is_meant sender frame k place ≡ true
due_at (Danh mac mode) sender frame k true is beyond other due = ap (λ b. if b then not (k == sender) else is_same_address mac frame.dst) is ∙ other
due_at (Danh mac mode) sender frame k false is beyond other due =
    ap (λ b. if b then not (k == sender) else is_same_address mac frame.dst) is
    ∙ (sym (ap (λ b. if b then true else is_same_address mac frame.dst) is) ∙ due)
due_at (RedBox mac mode) sender frame k true is own other due =
    both (not (k == sender)) (is_group frame.dst || is_same_address mac frame.dst) other (or_left (is_group frame.dst) (is_same_address mac frame.dst) is)
due_at (RedBox mac mode) sender frame k false is own other due =
    both (not (k == sender)) (is_group frame.dst || is_same_address mac frame.dst) other
    (or_right (is_group frame.dst) (is_same_address mac frame.dst) (sym (ap (λ b. if b then true else is_same_address mac frame.dst) is) ∙ due))
due_at QuadBox sender frame k true is beyond other due = absurd (false≢true (sym (ap (λ b. if b then false else false) is) ∙ due))
due_at QuadBox sender frame k false is beyond other due = absurd (false≢true (sym (ap (λ b. if b then false else false) is) ∙ due))
due_at (Station macs) sender frame k true is own other due =
    both (not (k == sender)) (is_group frame.dst || is_among macs.items frame.dst) other (or_left (is_group frame.dst) (is_among macs.items frame.dst) is)
due_at (Station macs) sender frame k false is beyond other due =
    absurd (beyond refl (sym (ap (λ b. if b then not (is_supervision frame.dst frame.kind) else is_among macs.items frame.dst) is) ∙ due))

due_is_meant : (run : Run) (send : Probe) (frame : Fields) (k : ℕ) → is_covered run.places frame ≡ true → k < length run.places → is_due run send.node frame.dst frame.kind k ≡ true →
    is_meant send.node frame k (place_of run k) ≡ true
due_is_meant run send frame k covered below due =
    let parts = and_parts (not (k == send.node)) (is_for (place_of run k) frame.dst frame.kind) due in
    due_at (place_of run k) send.node frame k (is_group frame.dst) refl (λ single own. not_station run frame k covered single below own) parts.0 parts.1

-- a frame to one address that is due at a Station is meant for it
station_meant : (place : Place) (sender : ℕ) (frame : Fields) (k : ℕ) → is_station place ≡ true → is_group frame.dst ≡ false → (not (k == sender) && is_for place frame.dst frame.kind) ≡ true → is_meant sender frame k place ≡ true
station_meant (Danh mac mode) sender frame k station single due = absurd (false≢true station)
station_meant (RedBox mac mode) sender frame k station single due = absurd (false≢true station)
station_meant QuadBox sender frame k station single due = absurd (false≢true station)
station_meant (Station macs) sender frame k station single due =
    let parts = and_parts (not (k == sender)) (is_for (Station macs) frame.dst frame.kind) due in
    both (not (k == sender)) (is_group frame.dst || is_among macs.items frame.dst) parts.0
    (or_right (is_group frame.dst) (is_among macs.items frame.dst) (sym (ap (λ b. if b then not (is_supervision frame.dst frame.kind) else is_among macs.items frame.dst) single) ∙ parts.1))

-- ---- whom it isn't due at

-- a frame isn't for a node, or is a supervision frame and the node a Station
abbrev IsUndue : ℕ → Fields → ℕ → Place → Type 0
IsUndue sender frame k place = (is_meant sender frame k place ≡ false) ⊎ ((is_station place ≡ true) × (is_supervision frame.dst frame.kind ≡ true))

-- by whether it is its sender, and whether the frame is to a group
undue_danh : (own group same : Bool) → (own ≡ true → group ≡ false → same ≡ true → ⊥) → (not own && (if group then true else same)) ≡ false → (if group then not own else same) ≡ false
undue_danh true true same never none = refl
undue_danh true false true never none = absurd (never refl refl refl)
undue_danh true false false never none = refl
undue_danh false true same never none = absurd (false≢true (sym none))
undue_danh false false same never none = none

undue_box : (own group same : Bool) → (not own && (if group then true else same)) ≡ false → (not own && (group || same)) ≡ false
undue_box true group same none = refl
undue_box false true same none = none
undue_box false false same none = none

undue_station : (own group life among : Bool) → (not own && (if group then not life else among)) ≡ false → ((not own && (group || among)) ≡ false) ⊎ (life ≡ true)
undue_station true group life among none = inl refl
undue_station false true true among none = inr refl
undue_station false true false among none = absurd (false≢true (sym none))
undue_station false false life among none = inl none

undue_at : (place : Place) (sender : ℕ) (frame : Fields) (k : ℕ) → ((mac : List ℕ) (mode : modes.Mode) → place ≡ Danh mac mode → (k == sender) ≡ true → is_group frame.dst ≡ false → is_same_address mac frame.dst ≡ true → ⊥) →
    (not (k == sender) && is_for place frame.dst frame.kind) ≡ false → IsUndue sender frame k place
undue_at (Danh mac mode) sender frame k never none = inl (undue_danh (k == sender) (is_group frame.dst) (is_same_address mac frame.dst) (never mac mode refl) none)
undue_at (RedBox mac mode) sender frame k never none = inl (undue_box (k == sender) (is_group frame.dst) (is_same_address mac frame.dst) none)
undue_at QuadBox sender frame k never none = inl refl
undue_at (Station macs) sender frame k never none =
    ⊎_elim (λ other. inl other) (λ life. inr (refl, life))
    (undue_station (k == sender) (is_group frame.dst) (is_supervision frame.dst frame.kind) (is_among macs.items frame.dst) none)

-- ---- the certificate

-- no supervision frame is of a Station that is joined with a Station
sends_alone : (run : Run) (send : Probe) (sending : Sending) → IsNetworkPremised run → IsSend run send sending → is_supervision sending.frame.dst sending.frame.kind ≡ true → is_joined_with_station run.places run.links send.node ≡ false
sends_alone run send sending all is life =
    by_test (is_supervision sending.frame.dst sending.frame.kind) (is_joined_with_station run.places run.links send.node) life (all.covered send sending is)
  where
    by_test : (life joined : Bool) → life ≡ true → not (life && joined) ≡ true → joined ≡ false
    by_test true true l h = absurd (false≢true h)
    by_test true false l h = refl
    by_test false joined l h = absurd (false≢true l)

-- each Station took a single frame to it up once if it came to it
abbrev pub IsOnceToStation : Run → Type 0
IsOnceToStation run = (send : Probe) (sending : Sending) (k : ℕ) → IsSend run send sending → is_group sending.frame.dst ≡ false → k < length run.places → is_station (place_of run k) ≡ true →
    is_meant send.node sending.frame k (place_of run k) ≡ true → IsReachedBelow run send sending.frame k → times run send k ≡ 1

module _ (run : Run) (closed : IsClosed run) (once : IsOnceInNetwork run) (to_station : IsOnceToStation run) (stay : LivesStay) (all : IsNetworkPremised run) where
  taken_up : TakenUpOnce run
  taken_up send sending k is below due = by_kind (cases_Bool (is_to_station sending.frame (place_of run k)))
    where
      here : Comes run send sending.frame k
      here = all.served send sending is k below due

      for_it : is_for (place_of run k) sending.frame.dst sending.frame.kind ≡ true
      for_it = (and_parts (not (k == send.node)) (is_for (place_of run k) sending.frame.dst sending.frame.kind) due).1

      below_it : is_to_station sending.frame (place_of run k) ≡ true → times run send k ≡ 1
      below_it station =
          let parts = and_parts (not (is_group sending.frame.dst)) (is_station (place_of run k)) station in
          let single = not-true (is_group sending.frame.dst) parts.0 in
          let last = here.below station in
          let S : ℕ → Type 0 = λ n. is_to_station sending.frame (place_of run n) ≡ true in
          let D : ℕ → Type 0 = λ n. is_due run send.node sending.frame.dst sending.frame.kind n ≡ true in
          to_station send sending k is single below parts.1 (station_meant (place_of run k) send.node sending.frame k parts.1 single due)
          (record {
            last = last.0;
            carries = last.1.carries;
            here = last.1.here;
            comes = last.1.comes;
            found = λ box. all.known send sending is (start_of run last.0).node
                (record {
                  node = box_below run.places (start_of run last.0).node box;
                  box = box;
                  channel = last.0;
                  below = last.1.carries.below;
                  starts = refl;
                  station = subst S (sym last.1.here) station;
                  due = subst D (sym last.1.here) due;
                });
          })

      by_kind : (is_to_station sending.frame (place_of run k) ≡ true) ⊎ (is_to_station sending.frame (place_of run k) ≡ false) → times run send k ≡ 1
      by_kind (inl station) = below_it station
      by_kind (inr other) =
          let covered = covered_due run all.sound.network sending.frame k below other for_it in
          once.once send sending k is covered below (due_is_meant run send sending.frame k covered below due) (here.ring other)

  none_else : (send : Probe) (sending : Sending) (k : ℕ) → IsSend run send sending → k < length run.places → is_due run send.node sending.frame.dst sending.frame.kind k ≡ false → times run send k ≡ 0
  none_else send sending k is below other =
      ⊎_elim
      (λ undue. once.none send sending k is below undue)
      (λ life. stay run closed all.sound.network send sending k is life.1 (sends_alone run send sending all is life.1) below life.0)
      (undue_at (place_of run k) send.node sending.frame k own other)
    where
      own : (mac : List ℕ) (mode : modes.Mode) → place_of run k ≡ Danh mac mode → (k == send.node) ≡ true → is_group sending.frame.dst ≡ false → is_same_address mac sending.frame.dst ≡ true → ⊥
      own mac mode place here single same =
          let P : ℕ → Type 0 = λ j. place_of run j ≡ Danh mac mode in
          not_to_itself run closed all.sound.network send sending is mac mode (subst P (eqb-true k send.node here) place) single (sym (same_address mac sending.frame.dst same))

  all_as_due : IsAsDue run
  all_as_due = record { once = taken_up; none = none_else }

  pub certified_is : (sends : List Delivery) → sends ≡ deliveries run → IsNetworkCertified run sends
  certified_is sends listed = record {
    premised = all;
    listed = listed;
    due = taken_up;
    once = once;
    complete = subst (AllByRecursion IsComplete) (sym listed) (all_complete run all_as_due);
  }

pub once_of : (run : Run) → IsClosed run → OnceInNetwork → LateDecides → IsNetworkPremised run → IsOnceInNetwork run
once_of run closed law decides all = law run closed all.sound.network ((decides run closed all.sound.network).first all.sound.in_time) all.sound.forgotten all.sound.mistaken

pub station_of : (run : Run) → IsClosed run → OnceToStation → LateDecides → IsNetworkPremised run → IsOnceToStation run
station_of run closed law decides all = law run closed all.sound.network ((decides run closed all.sound.network).first all.sound.in_time) all.sound.forgotten all.sound.mistaken

-- ---- a ring

-- what is no Station is joined with none as one
no_station_joined : (places : List Place) (k : ℕ) → is_station (slice_index_or places k QuadBox) ≡ false → (links : List (List End)) → is_joined_with_station places links k ≡ false
no_station_joined places k other [] = refl
no_station_joined places k other (ends ∷ links) = ap (λ b. b || is_joined_with_station places links k) apart ∙ no_station_joined places k other links
  where
    clash : (end : End) → (end.node == k) ≡ true → is_station_at places end ≡ true → ⊥
    clash end here station =
        let S : ℕ → Type 0 = λ n. is_station (slice_index_or places n QuadBox) ≡ true in
        false≢true (sym other ∙ subst S (eqb-true end.node k here) station)

    never : joins_stations places k ends ≡ true → ⊥
    never h =
        let a = from_end Forth ends in
        let b = to_end Forth ends in
        let parts = and_parts ((a.node == k) || (b.node == k)) (is_station_at places a && is_station_at places b) h in
        let stations = and_parts (is_station_at places a) (is_station_at places b) parts.1 in
        ⊎_elim (λ first. clash a first stations.0) (λ second. clash b second stations.1) (or_cases (a.node == k) (b.node == k) parts.0)

    apart : joins_stations places k ends ≡ false
    apart = ⊎_elim (λ yes. absurd (never yes)) (λ no. no) (cases_Bool (joins_stations places k ends))

-- a ring's run that audit certifies is certified here
ring_premised : (run : Run) (macs : List (List ℕ)) → IsClosed run → RingIsCrossed → IsRing run macs → OneLossyLink run → NothingForgotten run → NothingMistaken run → HasSend run → IsNetworkPremised run
ring_premised run macs closed crosses ring losses remembers own some = record {
  sound = record { sends = some; network = crossed.network; forgotten = remembers; mistaken = own; in_time = crossed.in_time };
  served = λ send sending is k below due. record {
    ring = λ other. crossed.reached send sending k is below (due_is_meant run send sending.frame k (crossed.covered send sending is) below due);
    below = λ station. absurd (false≢true (sym (no_station k below) ∙ (and_parts (not (is_group sending.frame.dst)) (is_station (place_of run k)) station).1));
  };
  known = λ send sending is k box. absurd (false≢true (sym (no_box k box.node) ∙ box.box));
  covered = λ send sending is. alone (is_supervision sending.frame.dst sending.frame.kind) (is_joined_with_station run.places run.links send.node) (no_station_joined run.places send.node (no_station send.node is.0) run.links);
}
  where
    crossed : IsCrossed run
    crossed = crosses run macs closed ring losses

    is_node : (k : ℕ) → k < length run.places → k < length macs
    is_node k low = let many = ring.places in omega (arith, low, many)

    no_station : (k : ℕ) → k < length run.places → is_station (place_of run k) ≡ false
    no_station k low = ⊎_elim (λ h. ap is_station h) (λ u. ap is_station u) (ring.nodes k (is_node k low))

    no_box : (k : ℕ) → k < length run.places → is_redbox (place_of run k) ≡ false
    no_box k low = ⊎_elim (λ h. ap is_redbox h) (λ u. ap is_redbox u) (ring.nodes k (is_node k low))

    alone : (life joined : Bool) → joined ≡ false → not (life && joined) ≡ true
    alone true true j = absurd (false≢true (sym j))
    alone true false j = refl
    alone false joined j = refl

pub no_ring : (run : Run) (f : AuditFault) → IsClosed run → RingIsCrossed → IsFirstFault of_network run f → IsRefused (HasPremises run × HasSend run) f
no_ring run (fault.Doubt d) closed crosses first = λ sent.
    let ring = sent.0.1 in
    refuses run d first (ring_premised run sent.0.0 closed crosses ring.ring ring.losses ring.forgotten ring.mistaken sent.1)
no_ring run fault.NoMemory closed crosses first = tt
