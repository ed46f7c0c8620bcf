-- What a node answers leaves by its own ports, and what comes to it comes by one of them. What a DANH, a RedBox or a Station
-- answers is told by its machine, whose type is left open (`_`): its crate isn't one of those that this crate uses.
use Rattle.std.proofs.Common.{◌≡◌, ℕ, ◌<◌, ◌==◌, Bool, true, false, if◌then◌else◌, List, [], ◌∷◌, length, max, zero, suc, Option, Some, None, Result, Ok, Err, is_some, refl, sym, ◌∙◌, subst, arith, eqb-true}
use Rattle.std.specs.Prelude.{◌^◌, option_map, slice_get}
use Rattle.std.proofs.lemmas.Bool.{false≢true}
use Rattle.std.proofs.lemmas.Option.{none-some}
use Rattle.arrayvec.specs.ArrayVec.{ArrayVec}
use Rattle.hsr_frame.specs.Send.{send_refusal}
use Rattle.hsr_frame.specs.declared.fault.SendFault.{SendFault}
use Rattle.hsr_frame.specs.declared.node.Cause.{Cause}
use Rattle.hsr_frame.specs.declared.node.Mode.{Mode}
use Rattle.hsr_frame.specs.declared.node.RingPort.{RingPort}
use Rattle.hsr_frame.specs.declared.node.About.TheVariants.{Own, Proxied}
use Rattle.hsr_redbox.specs.declared.call.BoxPort.{BoxPort}
use Rattle.hsr_redbox.specs.declared.wanted.Handling.{Handling}
use Rattle.hsr_node.specs.Record.{Each, Owner, answer, handling, now, passing, remembers}
use Rattle.hsr_node.specs.Station as station
use Rattle.hsr_node.specs.Step.{box_judged, box_port, box_sent, danh_arrive, danh_judged, danh_send, danh_sent, danh_step, lived, quad_port, redbox_arrive, redbox_send, redbox_step, ring_port, told, wrong}
use Rattle.hsr_node.specs.declared.entry.Entry.{Entry}
use Rattle.hsr_node.specs.declared.event.Carried.{Carried}
use Rattle.hsr_node.specs.declared.event.Event.{Event}
use Rattle.hsr_node.specs.declared.event.Event.TheVariants.{Send, Supervise, Arrive, Age}
use Rattle.hsr_node.specs.declared.event.Outcome.{Outcome}
use Rattle.hsr_node.specs.declared.event.Outcome.TheVariants.{Sent, Judged, Aged}
use Rattle.hsr_node.specs.declared.event.StepFault.{StepFault}
use Rattle.hsr_node.specs.declared.event.StepFault.TheVariants.{WrongEvent}
use Rattle.hsr_node.specs.declared.place.Place.{Place}
use Rattle.hsr_node.specs.declared.place.Place.TheVariants.{Danh, RedBox, QuadBox, Station}
use Rattle.hsr_node.proofs.OfDanh as of_danh
use Rattle.hsr_node.proofs.OfRedBox as of_redbox
use Rattle.hsr_node.proofs.OfStation as of_station
use Rattle.hsr_node.proofs.Told.{Call, Keeps, Stays}
use Rattle.hsr_run_laws.proofs.Records.{Answered}
use Rattle.hsr_run_laws.proofs.Views.{Came, came, judged, knows_at}
use Rattle.hsr_transcript_lines.proofs.Roles.{AreExitsOf, IsOutcomeOf, IsPortOf}

-- ---- the exits of each role

danh_exits : (mac : List ℕ) (mode : Mode) (a b : Bool) → AreExitsOf (Danh mac mode) (a ∷ b ∷ false ∷ false ∷ [])
danh_exits mac mode a b zero h = omega arith
danh_exits mac mode a b (suc zero) h = omega arith
danh_exits mac mode a b (suc (suc zero)) h = absurd (false≢true h)
danh_exits mac mode a b (suc (suc (suc zero))) h = absurd (false≢true h)
danh_exits mac mode a b (suc (suc (suc (suc port)))) h = absurd (false≢true h)

box_exits : (mac : List ℕ) (mode : Mode) (a b c : Bool) → AreExitsOf (RedBox mac mode) (a ∷ b ∷ c ∷ false ∷ [])
box_exits mac mode a b c zero h = omega arith
box_exits mac mode a b c (suc zero) h = omega arith
box_exits mac mode a b c (suc (suc zero)) h = omega arith
box_exits mac mode a b c (suc (suc (suc zero))) h = absurd (false≢true h)
box_exits mac mode a b c (suc (suc (suc (suc port)))) h = absurd (false≢true h)

quad_exits : (a b c d : Bool) → AreExitsOf QuadBox (a ∷ b ∷ c ∷ d ∷ [])
quad_exits a b c d zero h = omega arith
quad_exits a b c d (suc zero) h = omega arith
quad_exits a b c d (suc (suc zero)) h = omega arith
quad_exits a b c d (suc (suc (suc zero))) h = omega arith
quad_exits a b c d (suc (suc (suc (suc port)))) h = absurd (false≢true h)

station_exits : (macs : ArrayVec (List ℕ)) (a : Bool) → AreExitsOf (Station macs) (a ∷ false ∷ false ∷ false ∷ [])
station_exits macs a zero h = omega arith
station_exits macs a (suc zero) h = absurd (false≢true h)
station_exits macs a (suc (suc zero)) h = absurd (false≢true h)
station_exits macs a (suc (suc (suc zero))) h = absurd (false≢true h)
station_exits macs a (suc (suc (suc (suc port)))) h = absurd (false≢true h)

-- ---- what came

-- a port that is number k, or found later
found_at : {X : Type 0} (n k count : ℕ) (some : X) (rest : Option X) → k < count → is_some (if n == k then Some some else rest) ≡ true
    → (is_some rest ≡ true → n < count) → n < count
found_at n k count some rest below found later = by_test (n == k) (eqb-true n k) found
  where
    by_test : (t : Bool) → (t ≡ true → n ≡ k) → is_some (if t then Some some else rest) ≡ true → n < count
    by_test true same found = let is = same refl in omega (arith, is)
    by_test false same found = later found

ring_below : (n : ℕ) → is_some (ring_port n) ≡ true → n < 2
ring_below n h = found_at n 0 2 _ _ (omega arith) h (λ h. found_at n 1 2 _ _ (omega arith) h (λ h. absurd (false≢true h)))

box_below : (n : ℕ) → is_some (box_port n) ≡ true → n < 3
box_below n h = found_at n 0 3 _ _ (omega arith) h (λ h. found_at n 1 3 _ _ (omega arith) h (λ h. found_at n 2 3 _ _ (omega arith) h (λ h. absurd (false≢true h))))

quad_below : (n : ℕ) → is_some (quad_port n) ≡ true → n < 4
quad_below n h =
    found_at n 0 4 _ _ (omega arith) h (λ h. found_at n 1 4 _ _ (omega arith) h (λ h. found_at n 2 4 _ _ (omega arith) h (λ h. found_at n 3 4 _ _ (omega arith) h (λ h. absurd (false≢true h)))))

mapped_some : {X Y : Type 0} (f : X → Y) (o : Option X) (y : Y) → option_map f o ≡ Some y → is_some o ≡ true
mapped_some f None y h = absurd (none-some y h)
mapped_some f (Some x) y h = refl

-- what is handled came by a port of the place
port_handled : (place : Place) (known : List ℕ → Bool) (port : ℕ) (seen : Came) (h : Handling) → handling place known port seen ≡ Some h → IsPortOf place port
port_handled (Danh mac mode) known port seen h is = ring_below port (mapped_some _ (ring_port port) h is)
port_handled (RedBox mac mode) known port seen h is = box_below port (mapped_some _ (box_port port) h is)
port_handled QuadBox known port seen h is = quad_below port (mapped_some _ (quad_port port) h is)
port_handled (Station macs) known port seen h is = found_at port 0 1 _ None (omega arith) (subst (λ o. is_some o ≡ true) (sym is) refl) (λ h. absurd (false≢true h))

-- ---- a machine that answers as its record does

module _ {M : Type 0} (capacity : ℕ) (owner : Owner) (Held : M → List Entry → Type 0) (step : M → ℕ → Event → Result Outcome StepFault × M)
    (keeps : (m : M) (past : List Entry) (worker at : ℕ) (event : Event) → Held m past → Keeps capacity owner Held past (record { worker = worker; at = at; event = event }) (step m at event)) where
  -- the machine after a record
  held_after : (first : M) → Held first [] → (past : List Entry) → Each (Answered capacity owner) past → (m : M) × Held m past
  held_after first begun [] legal = (first, begun)
  held_after first begun (x ∷ past) legal =
      let before = held_after first begun past legal.1 in
      let call : Call = record { worker = x.worker; at = x.at; event = x.event } in
      let k = keeps before.0 past x.worker x.at x.event before.1 in
      let after : M = (step before.0 x.at x.event).1 in
      let same : (step before.0 x.at x.event).0 ≡ Ok x.outcome = sym k.0 ∙ legal.0 in
      (after, subst (λ r. Stays Held past call r after) same k.1)

  -- what the record answers the machine answers
  answered_after : (first : M) → Held first [] → (past : List Entry) → Each (Answered capacity owner) past → (at : ℕ) (event : Event) (outcome : Outcome) →
      answer capacity owner past (max (now past) at) event ≡ Ok outcome → (m : M) × ((step m at event).0 ≡ Ok outcome)
  answered_after first begun past legal at event outcome ok =
      let held = held_after first begun past legal in
      (held.0, sym (keeps held.0 past 0 at event held.1).0 ∙ ok)

-- ---- what each role answers

-- an answer that is told leaves by ports of the place where each that can be told does
told_as : {V E : Type 0} (place : Place) (done : V → Outcome) (fault : E → StepFault) (r : Result V E) (outcome : Outcome)
    → ((v : V) → IsOutcomeOf place (done v)) → told done fault r ≡ Ok outcome → IsOutcomeOf place outcome
told_as place done fault (Ok v) outcome within h = let is : done v ≡ outcome = cc in subst (IsOutcomeOf place) is (within v)
told_as place done fault (Err e) outcome within h = absurd cc

aged_as : (place : Place) (outcome : Outcome) → ◌≡◌ {A = Result Outcome StepFault} (Ok Aged) (Ok outcome) → IsOutcomeOf place outcome
aged_as place outcome h = let is : Aged ≡ outcome = cc in subst (IsOutcomeOf place) is tt

danh_answers : (capacity : ℕ) (mac : List ℕ) (mode : Mode) (machine : _) (at : ℕ) (event : Event) (outcome : Outcome)
    → (danh_step capacity machine at event).0 ≡ Ok outcome → IsOutcomeOf (Danh mac mode) outcome
unfolding danh_step
danh_answers capacity mac mode machine at (Send from dst vlan kind payload) outcome h = by_source (from == 0) h
  where
    by_source : (own : Bool) → (if own then danh_send capacity machine at dst kind (length payload) else wrong machine).0 ≡ Ok outcome → IsOutcomeOf (Danh mac mode) outcome
    by_source true h = told_as (Danh mac mode) danh_sent _ _ outcome (λ v. danh_exits mac mode true true) h
    by_source false h = absurd cc
danh_answers capacity mac mode machine at (Supervise Own) outcome h = told_as (Danh mac mode) lived _ _ outcome (λ v. danh_exits mac mode true true) h
danh_answers capacity mac mode machine at (Supervise (Proxied about)) outcome h = absurd cc
danh_answers capacity mac mode machine at (Arrive port copy) outcome h = by_port (ring_port port) h
  where
    by_port : (o : Option RingPort) → (danh_arrive capacity machine at o copy.octets).0 ≡ Ok outcome → IsOutcomeOf (Danh mac mode) outcome
    by_port None h = absurd cc
    by_port (Some x) h = told_as (Danh mac mode) danh_judged _ _ outcome (λ v. danh_exits mac mode v.a v.b) h
danh_answers capacity mac mode machine at Age outcome h = aged_as (Danh mac mode) outcome h

box_answers : (capacity : ℕ) (mac : List ℕ) (mode : Mode) (machine : _) (at : ℕ) (event : Event) (outcome : Outcome)
    → (redbox_step capacity machine at event).0 ≡ Ok outcome → IsOutcomeOf (RedBox mac mode) outcome
unfolding redbox_step
box_answers capacity mac mode machine at (Send from dst vlan kind payload) outcome h = by_source (from == 0) h
  where
    by_source : (own : Bool) → (if own then redbox_send capacity machine at dst kind (length payload) else wrong machine).0 ≡ Ok outcome → IsOutcomeOf (RedBox mac mode) outcome
    by_source true h = told_as (RedBox mac mode) box_sent _ _ outcome (λ v. box_exits mac mode v.a v.b v.interlink) h
    by_source false h = absurd cc
box_answers capacity mac mode machine at (Supervise about) outcome h = told_as (RedBox mac mode) lived _ _ outcome (λ v. box_exits mac mode true true false) h
box_answers capacity mac mode machine at (Arrive port copy) outcome h = by_port (box_port port) h
  where
    by_port : (o : Option BoxPort) → (redbox_arrive capacity machine at o copy.octets).0 ≡ Ok outcome → IsOutcomeOf (RedBox mac mode) outcome
    by_port None h = absurd cc
    by_port (Some x) h = told_as (RedBox mac mode) box_judged _ _ outcome (λ v. box_exits mac mode v.a v.b v.interlink) h
box_answers capacity mac mode machine at Age outcome h = aged_as (RedBox mac mode) outcome h

station_answers : (macs : ArrayVec (List ℕ)) (machine : station.Machine) (at : ℕ) (event : Event) (outcome : Outcome)
    → (station.station_step machine at event).0 ≡ Ok outcome → IsOutcomeOf (Station macs) outcome
unfolding station.after_send station.after_arrival
station_answers macs machine at (Send from dst vlan kind payload) outcome h = by_source (slice_get machine.macs from) h
  where
    by_fault : (fault : Option SendFault) → (station.send_or_refuse machine at fault).0 ≡ Ok outcome → IsOutcomeOf (Station macs) outcome
    by_fault (Some fault) h = absurd cc
    by_fault None h = let is : Sent None (true ∷ false ∷ false ∷ false ∷ []) ≡ outcome = cc in subst (IsOutcomeOf (Station macs)) is (station_exits macs true)

    by_source : (src : Option (List ℕ)) → (station.send_from machine at src dst kind (length payload)).0 ≡ Ok outcome → IsOutcomeOf (Station macs) outcome
    by_source None h = absurd cc
    by_source (Some src) h = by_fault (send_refusal src machine.accepted dst kind (length payload)) h
station_answers macs machine at (Supervise about) outcome h = absurd cc
station_answers macs machine at (Arrive port copy) outcome h = by_port (port == 0) h
  where
    by_spent : (spent : Bool) → (station.arrive_or_spent machine at copy.octets spent).0 ≡ Ok outcome → IsOutcomeOf (Station macs) outcome
    by_spent true h = absurd cc
    by_spent false h =
        let cause : Cause = station.judged_seen machine.macs (came copy) in
        let is : Judged (station.is_passed cause) (false ∷ false ∷ false ∷ false ∷ []) None cause ≡ outcome = cc in
        subst (IsOutcomeOf (Station macs)) is (station_exits macs false)

    by_port : (own : Bool) → (if own then station.after_arrival machine at copy.octets else (Err WrongEvent, machine)).0 ≡ Ok outcome → IsOutcomeOf (Station macs) outcome
    by_port true h = by_spent (machine.accepted == 2 ^ 62) h
    by_port false h = absurd cc
station_answers macs machine at Age outcome h = aged_as (Station macs) outcome h

quad_answers : (capacity number : ℕ) (past : List Entry) (at : ℕ) (event : Event) (outcome : Outcome)
    → answer capacity (record { number = number; place = QuadBox }) past at event ≡ Ok outcome → IsOutcomeOf QuadBox outcome
quad_answers capacity number past at (Send from dst vlan kind payload) outcome h = absurd cc
quad_answers capacity number past at (Supervise about) outcome h = absurd cc
quad_answers capacity number past at (Arrive port copy) outcome h =
    let owner : Owner = record { number = number; place = QuadBox } in
    let j = judged capacity owner past at port copy outcome h in
    let passes = passing (remembers capacity owner past at) j.h.wants.exits (came copy) in
    subst (IsOutcomeOf QuadBox) (sym j.out) (quad_exits passes.a passes.b passes.c passes.d)
quad_answers capacity number past at Age outcome h = aged_as QuadBox outcome h

-- ---- any node

-- what a legal record answers leaves by ports of its node
pub outcome_of : (capacity number : ℕ) (place : Place) (past : List Entry) → Each (Answered capacity (record { number = number; place = place })) past
    → (at : ℕ) (event : Event) (outcome : Outcome) → answer capacity (record { number = number; place = place }) past (max (now past) at) event ≡ Ok outcome → IsOutcomeOf place outcome
outcome_of capacity number (Danh mac mode) past legal at event outcome ok =
    let same = answered_after capacity (record { number = number; place = Danh mac mode }) (of_danh.Held capacity number mac mode) (danh_step capacity) (of_danh.keeps-held capacity number mac mode)
    _ (of_danh.begins-held capacity number mac mode) past legal at event outcome ok in
    danh_answers capacity mac mode same.0 at event outcome same.1
outcome_of capacity number (RedBox mac mode) past legal at event outcome ok =
    let same = answered_after capacity (record { number = number; place = RedBox mac mode }) (of_redbox.Held capacity number mac mode) (redbox_step capacity) (of_redbox.keeps-held capacity number mac mode)
    _ (of_redbox.begins-held capacity number mac mode) past legal at event outcome ok in
    box_answers capacity mac mode same.0 at event outcome same.1
outcome_of capacity number QuadBox past legal at event outcome ok = quad_answers capacity number past (max (now past) at) event outcome ok
outcome_of capacity number (Station macs) past legal at event outcome ok =
    let same = answered_after capacity (record { number = number; place = Station macs }) (of_station.Held macs) station.station_step (of_station.keeps-held capacity number macs)
    _ (of_station.begins-held macs) past legal at event outcome ok in
    station_answers macs same.0 at event outcome same.1

-- what is answered came by a port of the node
pub port_of : (capacity : ℕ) (owner : Owner) (past : List Entry) (at port : ℕ) (copy : Carried) (outcome : Outcome) → answer capacity owner past at (Arrive port copy) ≡ Ok outcome
    → IsPortOf owner.place port
port_of capacity owner past at port copy outcome ok =
    let j = judged capacity owner past at port copy outcome ok in
    port_handled owner.place (knows_at owner past at port copy) port (came copy) j.h j.is
