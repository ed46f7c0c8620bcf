-- Where a step asks for a send, a play has one at its end.
use Rattle.std.proofs.Common.{◌≡◌, ℕ, ◌+◌, ◌<◌, ◌≤◌, ◌==◌, ◌%◌, nat_lt, Bool, true, false, if◌then◌else◌, List, [], ◌∷◌, ◌++◌, length, Option, Some, None, Ok, Err, refl, sym, ap, ◌∙◌, subst, arith, zero, suc, eq-eqb, ltb-true}
use Rattle.std.specs.Prelude.{replicate, slice_get, slice_index_or}
use Rattle.std.specs.List.{AllByRecursion}
use Rattle.std.specs.Option.{option_and_then}
use Rattle.std.proofs.lemmas.Bool.{cond-true, false_from_ne_true}
use Rattle.std.proofs.lemmas.List.{length-append, length-replicate}
use Rattle.std.proofs.lemmas.List.Elements.{All-get_or, recursion_from_All}
use Rattle.std.proofs.lemmas.Option.{slice_get_within}
use Rattle.hsr_frame.specs.Address.{is_group, supervision_address}
use Rattle.hsr_frame.specs.Grammar.{Fields, pair}
use Rattle.hsr_frame.specs.Layout.{ethertype_supervision, max_payload}
use Rattle.hsr_redbox.specs.declared.call.LifeFault.{LifeFault}
use Rattle.hsr_frame.specs.declared.node.About.{About}
use Rattle.hsr_frame.specs.declared.node.About.TheVariants.{Own, Proxied}
use Rattle.hsr_frame.specs.declared.node.Mode.{Mode}
use Rattle.hsr_supervision.specs.Payload as payload
use Rattle.hsr_node.specs.Copies.{address_at, asked_frame, life_frame, life_said}
use Rattle.hsr_node.specs.Flow.{send_at, sending_of, sent_by}
use Rattle.hsr_node.specs.Record.{Each, Owner, answer, knows, life_answer, lived_or_refused, lives, next_number, now, send_answer, steps}
use Rattle.hsr_node.specs.Record as of_record
use Rattle.hsr_node.specs.declared.entry.Entry.{Entry}
use Rattle.hsr_node.specs.declared.event.Event.{Event}
use Rattle.hsr_node.specs.declared.event.Event.TheVariants as event
use Rattle.hsr_node.specs.declared.event.Outcome.{Outcome}
use Rattle.hsr_node.specs.declared.event.Outcome.TheVariants.{Life}
use Rattle.hsr_node.specs.declared.event.StepFault.TheVariants.{Spent}
use Rattle.hsr_node.specs.declared.place.Place.{Place}
use Rattle.hsr_node.specs.declared.place.Place.TheVariants.{Danh, RedBox, QuadBox, Station}
use Rattle.hsr_node.specs.declared.sending.Sending.{Sending}
use Rattle.hsr_redbox.specs.Step.{number_of}
use Rattle.hsr_run_laws.proofs.Records.{Answered, IsAtPlace, all_at_place}
use Rattle.hsr_run_laws.specs.Run.{owner_of, place_of}
use Rattle.hsr_network_laws.specs.Network.{HasAddress}
use Rattle.hsr_network_laws.proofs.Sending.{sent_outcome}
use Rattle.hsr_audit.specs.Sends.{HasSend}
use Rattle.hsr_scenario.specs.declared.steps.Order.{Order}
use Rattle.hsr_scenario.specs.declared.steps.Order.TheVariants as order
use Rattle.hsr_world_laws.specs.Fit.{FitsPlace}
use Rattle.hsr_world_laws.specs.World.{World, record_at}
use Rattle.hsr_world_steps.specs.declared.step.Step.TheVariants.{Clock, Send, Supervise, Age, Put, Take, Judge, Cut, Mend, Inject}
use Rattle.hsr_plays.specs.Conditions.{IsClear, Speaks}
use Rattle.hsr_plays.specs.Law.{run_in}
use Rattle.hsr_plays.specs.Plays.{IsPlayed}
use Rattle.hsr_plays.specs.Setup.{IsSetup, Setup, asked_by, net_of}
use Rattle.hsr_plays.specs.declared.span.Asked.{Asked}
use Rattle.hsr_plays.proofs.Asking.{asked_at}
use Rattle.hsr_play_laws.specs.Told.{IsTold}
use Rattle.hsr_play_laws.proofs.Brought.{IsBrought, asks_at, asks_of, brought, entry_asked}
use Rattle.hsr_play_laws.proofs.SentFor.{each_under}
use Rattle.hsr_play_laws.proofs.StationOut.{frame_by, has_frame}
use Rattle.hsr_play_laws.proofs.Told.{tells_all}
use Rattle.hsr_play_laws.proofs.Worlds.{answers, past_is, places_are}
use Rattle.hsr_certify.specs.Doubts.{AsksForSend}

-- ---- addresses

has_address : (place : Place) (from : ℕ) (mac : List ℕ) → address_at place from ≡ Some mac → HasAddress place mac
has_address (Danh own mode) from mac is = by_test (from == 0) is
  where
    by_test : (b : Bool) → (if b then Some own else None) ≡ Some mac → mac ≡ own
    by_test true is = let same : own ≡ mac = cc in sym same
    by_test false is = absurd cc
has_address (RedBox own mode) from mac is = by_test (from == 0) is
  where
    by_test : (b : Bool) → (if b then Some own else None) ≡ Some mac → mac ≡ own
    by_test true is = let same : own ≡ mac = cc in sym same
    by_test false is = absurd cc
has_address QuadBox from mac is = absurd cc
has_address (Station macs) from mac is = (from, is)

six_at : (macs : List (List ℕ)) (i : ℕ) (mac : List ℕ) → AllByRecursion (λ (m : List ℕ). length m ≡ 6) macs → slice_get macs i ≡ Some mac → length mac ≡ 6
six_at [] i mac all is = absurd cc
six_at (m ∷ macs) zero mac all is = let same : m ≡ mac = cc in ap length (sym same) ∙ all.0
six_at (m ∷ macs) (suc i) mac all is = six_at macs i mac all.1 is

-- an address has six octets
six : (place : Place) (mac : List ℕ) → FitsPlace place → HasAddress place mac → length mac ≡ 6
six (Danh own mode) mac fit is = ap length is ∙ fit
six (RedBox own mode) mac fit is = ap length is ∙ fit
six QuadBox mac fit is = absurd is
six (Station macs) mac fit (i, is) = six_at macs.items i mac (recursion_from_All (λ (m : List ℕ). length m ≡ 6) macs.items fit) is

-- ---- supervision frames

abbrev IsOfSix : About → Type 0
IsOfSix Own = Unit {0}
IsOfSix (Proxied mac) = length mac ≡ 6

spelling_len : (a b : List ℕ) (kind len : ℕ) (about tail : List ℕ) → length (a ++ (b ++ (kind ∷ len ∷ (about ++ tail)))) ≡ length a + length b + 2 + length about + length tail
spelling_len a b kind len about tail =
    let one = length-append a (b ++ (kind ∷ len ∷ (about ++ tail))) in
    let two = length-append b (kind ∷ len ∷ (about ++ tail)) in
    let three = length-append about tail in
    omega (arith, one, two, three)

pair_len : (n : ℕ) → length (pair n) ≡ 2
pair_len n = refl

-- what is said fits a frame
short : (own : List ℕ) (about : About) (life : ℕ) → length own ≡ 6 → IsOfSix about → length (payload.spelling (life_said own about life)) ≤ 1500
short own Own life six_own of_six =
    let whole = spelling_len (pair 1) (pair life) 23 6 own (replicate 34 0) in
    let version = pair_len 1 in
    let count = pair_len life in
    let end = length-replicate {A = ℕ} 34 0 in
    omega (arith, whole, version, count, end, six_own)
short own (Proxied mac) life six_own of_six =
    let whole = spelling_len (pair 1) (pair life) 23 6 mac (30 ∷ 6 ∷ (own ++ replicate 26 0)) in
    let version = pair_len 1 in
    let count = pair_len life in
    let name = length-append own (replicate 26 0) in
    let end = length-replicate {A = ℕ} 26 0 in
    omega (arith, whole, version, count, name, end, six_own, of_six)

life_there : (own : List ℕ) (about : About) (life : ℕ) → is_group own ≡ false → length own ≡ 6 → IsOfSix about → (f : Fields) × (life_frame (Some own) about life ≡ Some f)
life_there own about life single six_own of_six =
    let f : Fields = record { dst = supervision_address; src = own; vlan = None; kind = ethertype_supervision; rest = payload.spelling (life_said own about life) } in
    let few = short own about life six_own of_six in
    let not_long : nat_lt max_payload (length f.rest) ≡ false = false_from_ne_true (nat_lt max_payload (length f.rest)) (λ long. let over = ltb-true max_payload (length f.rest) long in omega (arith, over, few)) in
    (f, frame_by (is_group own) false false (nat_lt max_payload (length f.rest)) f single refl not_long)

-- ---- entries

-- a node's address is no group's, and has six octets
abbrev AreOwn : Place → Type 0
AreOwn place = (mac : List ℕ) → HasAddress place mac → (is_group mac ≡ false) × (length mac ≡ 6)

abbrev Sends : Place → Event → Outcome → Type 0
Sends place e outcome = (sending : Sending) × (sent_by place e outcome ≡ Some sending)

send_sends : (capacity : ℕ) (owner : Owner) (past : List Entry) (at from : ℕ) (dst : List ℕ) (vlan : Option ℕ) (kind : ℕ) (octets : List ℕ) (outcome : Outcome) → AreOwn owner.place →
    answer capacity owner past at (event.Send from dst vlan kind octets) ≡ Ok outcome → Sends owner.place (event.Send from dst vlan kind octets) outcome
send_sends capacity owner past at from dst vlan kind octets outcome own ok = by_address (address_at owner.place from) refl ok
  where
    seq : Option ℕ
    seq = number_of (of_record.sending owner.place (knows owner.place past at event.Age) dst kind).source (next_number past)

    by_address : (o : Option (List ℕ)) → address_at owner.place from ≡ o → send_answer capacity owner past at o dst kind (length octets) ≡ Ok outcome → Sends owner.place (event.Send from dst vlan kind octets) outcome
    by_address None is ok' = absurd cc
    by_address (Some mac) is ok' =
        let f : Fields = record { dst = dst; src = mac; vlan = vlan; kind = kind; rest = octets } in
        let sending : Sending = record { frame = f; seq = seq } in
        let frame = has_frame capacity owner past at mac dst vlan kind octets outcome (own mac (has_address owner.place from mac is)).0 ok' in
        let made = sent_outcome capacity owner past at from dst vlan kind octets outcome ok in (
          sending,
          ap (λ o. sent_by owner.place (event.Send from dst vlan kind octets) o) made ∙ (ap (λ a. sending_of seq (asked_frame a dst vlan kind octets)) is ∙ ap (sending_of seq) frame),
        )

life_sends : (place : Place) (past : List Entry) (at : ℕ) (about : About) (outcome : Outcome) → AreOwn place → IsOfSix about → life_answer place past at about ≡ Ok outcome → Sends place (event.Supervise about) outcome
life_sends place past at about outcome own of_six ok = by_place place own ok
  where
    lived : (p : Place) (mac : List ℕ) → ((seq life : ℕ) (ports : List Bool) → sent_by p (event.Supervise about) (Life seq life ports) ≡ sending_of (Some seq) (life_frame (Some mac) about life)) →
        (is_group mac ≡ false) × (length mac ≡ 6) → lived_or_refused past None ≡ Ok outcome → Sends p (event.Supervise about) outcome
    lived p mac sends fine ok =
        let frame = life_there mac about (lives past % 65536) fine.0 fine.1 of_six in
        let made : Outcome = Life (next_number past) (lives past % 65536) (true ∷ true ∷ false ∷ false ∷ []) in
        let same : made ≡ outcome = let e : Ok made ≡ Ok outcome = ok in cc in
        let sending : Sending = record { frame = frame.0; seq = Some (next_number past) } in (
          sending,
          ap (λ o. sent_by p (event.Supervise about) o) (sym same) ∙ (sends (next_number past) (lives past % 65536) (true ∷ true ∷ false ∷ false ∷ []) ∙ ap (sending_of (Some (next_number past))) frame.1),
        )

    by_refusal : (p : Place) (mac : List ℕ) → ((seq life : ℕ) (ports : List Bool) → sent_by p (event.Supervise about) (Life seq life ports) ≡ sending_of (Some seq) (life_frame (Some mac) about life)) →
        (is_group mac ≡ false) × (length mac ≡ 6) → (o : Option LifeFault) → lived_or_refused past o ≡ Ok outcome → Sends p (event.Supervise about) outcome
    by_refusal p mac sends fine None ok = lived p mac sends fine ok
    by_refusal p mac sends fine (Some x) ok = absurd cc

    by_steps : (p : Place) (mac : List ℕ) → ((seq life : ℕ) (ports : List Bool) → sent_by p (event.Supervise about) (Life seq life ports) ≡ sending_of (Some seq) (life_frame (Some mac) about life)) →
        (is_group mac ≡ false) × (length mac ≡ 6) → (b : Bool) → (if b then Err Spent else lived_or_refused past None) ≡ Ok outcome → Sends p (event.Supervise about) outcome
    by_steps p mac sends fine true ok = absurd cc
    by_steps p mac sends fine false ok = lived p mac sends fine ok

    by_about : (mac : List ℕ) (mode : Mode) → (is_group mac ≡ false) × (length mac ≡ 6) → (a : About) → a ≡ about → life_answer (Danh mac mode) past at a ≡ Ok outcome → Sends (Danh mac mode) (event.Supervise about) outcome
    by_about mac mode fine Own same ok = by_steps (Danh mac mode) mac (λ seq life ports. refl) fine (steps past == 4611686018427387904) ok
    by_about mac mode fine (Proxied other) same ok = absurd cc

    by_place : (p : Place) → AreOwn p → life_answer p past at about ≡ Ok outcome → Sends p (event.Supervise about) outcome
    by_place (Danh mac mode) own ok = by_about mac mode (own mac refl) about refl ok
    by_place (RedBox mac mode) own ok = by_refusal (RedBox mac mode) mac (λ seq life ports. refl) (own mac refl) _ ok
    by_place QuadBox own ok = absurd cc
    by_place (Station macs) own ok = absurd cc

-- ---- a play

module _ (s : Setup) (setup : IsSetup s) (clear : IsClear s) (n : ℕ) (w : World) (played : IsPlayed s s.orders [] n w) where
  told : IsTold s (length s.orders) n w
  told = tells_all s s.orders [] n w setup clear played

  came : IsBrought s (length s.orders) w
  came = brought s s.orders [] n w setup clear played

  place_same : (k : ℕ) → place_of (run_in s w) k ≡ place_of (net_of s) k
  place_same k = ap (λ (ps : List Place). slice_index_or ps k QuadBox) (places_are s w told.own)

  fits : (k : ℕ) → k < length s.places → FitsPlace (place_of (net_of s) k)
  fits k below = All-get_or FitsPlace s.places k QuadBox below setup.fit_places

  are_own : (k : ℕ) → k < length s.places → AreOwn (place_of (run_in s w) k)
  are_own k below mac has =
      let there = subst (λ (p : Place). HasAddress p mac) (place_same k) has in
      (clear.network.single k mac below there, six (place_of (net_of s) k) mac (fits k below) there)

  -- what is done to a node, if it sends, is a send of the run
  sent_there : (k i : ℕ) (e : Event) → k < length s.places → i < length s.orders → asks_at k s.orders i ≡ Some e →
      ((past : List Entry) (at : ℕ) (outcome : Outcome) → answer s.capacity (owner_of (run_in s w) k) past at e ≡ Ok outcome → Sends (place_of (run_in s w) k) e outcome) → HasSend (run_in s w)
  sent_there k i e below before asks sends =
      let h : List Entry = record_at w k in
      let place : Place = place_of (run_in s w) k in
      let owner : Owner = owner_of (run_in s w) k in
      let o = entry_asked k s.orders i (length s.orders) e h (came.events k) before asks in
      let answered : Answered s.capacity owner o.entry o.past = (each_under (Answered s.capacity owner) o.newer (o.entry ∷ o.past) (subst (Each (Answered s.capacity owner)) o.is (answers s w told.own k))).0 in
      let ok : answer s.capacity owner o.past (now (o.entry ∷ o.past)) e ≡ Ok o.entry.outcome = subst (λ ev. answer s.capacity owner o.past (now (o.entry ∷ o.past)) ev ≡ Ok o.entry.outcome) o.event answered in
      let sent = sends o.past (now (o.entry ∷ o.past)) o.entry.outcome ok in
      let at_place : send_at place (length o.past) h ≡ sent_by place o.entry.event o.entry.outcome = (each_under (IsAtPlace place h) o.newer (o.entry ∷ o.past) (subst (Each (IsAtPlace place h)) o.is (all_at_place place h))).0 in
      let is : send_at place (length o.past) h ≡ Some sent.0 = at_place ∙ (ap (λ ev. sent_by place ev o.entry.outcome) o.event ∙ sent.1) in
      let as_many : length w.places ≡ length s.places = ap length (places_are s w told.own) in
      record {
        send = record { node = k; place = length o.past };
        sending = sent.0;
        is_send = (omega (arith, below, as_many), subst (λ (g : List Entry). send_at place (length o.past) g ≡ Some sent.0) (sym (past_is s.capacity s.links w k)) is);
      }

  -- a RedBox speaks for an address that it heard
  of_six : (i node : ℕ) (place : Place) (about : About) → Speaks s i node place about → IsOfSix about
  of_six i node place Own speaks = tt
  of_six i node (Danh mac mode) (Proxied station) speaks = absurd speaks
  of_six i node (RedBox mac mode) (Proxied station) h =
      let below = subst (λ k. k < length s.places) h.sender (clear.network.ends h.channel h.below).node in
      six (place_of (net_of s) h.span.asked.node) station (fits h.span.asked.node below) (has_address (place_of (net_of s) h.span.asked.node) h.span.asked.from station h.address)
  of_six i node QuadBox (Proxied station) speaks = absurd speaks
  of_six i node (Station macs) (Proxied station) speaks = absurd speaks

  asked_here : (node i : ℕ) (o : Order) (e : Event) → slice_get s.orders i ≡ Some o → asks_of node o ≡ Some e → asks_at node s.orders i ≡ Some e
  asked_here node i o e listed asks = ap (option_and_then (asks_of node)) listed ∙ asks

  by_order : (i : ℕ) (o : Order) → slice_get s.orders i ≡ Some o → (asked : Asked) → asked_by o ≡ Some asked → HasSend (run_in s w)
  by_order i order.Drain listed asked is = absurd cc
  by_order i (order.Step (Clock at)) listed asked is = absurd cc
  by_order i (order.Step (Send node from dst vlan kind octets)) listed asked is =
      let ok = clear.accepted i (order.Step (Send node from dst vlan kind octets)) listed in
      let e : Event = event.Send from dst vlan kind octets in
      sent_there node i e ok.0 (slice_get_within s.orders i (order.Step (Send node from dst vlan kind octets)) listed)
      (asked_here node i (order.Step (Send node from dst vlan kind octets)) e listed (cond-true (node == node) (Some e) None (eq-eqb node node refl)))
      (λ past at outcome answered. send_sends s.capacity (owner_of (run_in s w) node) past at from dst vlan kind octets outcome (are_own node ok.0) answered)
  by_order i (order.Step (Supervise node about)) listed asked is =
      let ok = clear.accepted i (order.Step (Supervise node about)) listed in
      let e : Event = event.Supervise about in
      sent_there node i e ok.0 (slice_get_within s.orders i (order.Step (Supervise node about)) listed)
      (asked_here node i (order.Step (Supervise node about)) e listed (cond-true (node == node) (Some e) None (eq-eqb node node refl)))
      (λ past at outcome answered. life_sends (place_of (run_in s w) node) past at about outcome (are_own node ok.0) (of_six i node (place_of (net_of s) node) about ok.1) answered)
  by_order i (order.Step (Age node)) listed asked is = absurd cc
  by_order i (order.Step (Put node port)) listed asked is = absurd cc
  by_order i (order.Step (Take link dir)) listed asked is = absurd cc
  by_order i (order.Step (Judge node port)) listed asked is = absurd cc
  by_order i (order.Step (Cut link)) listed asked is = absurd cc
  by_order i (order.Step (Mend link)) listed asked is = absurd cc
  by_order i (order.Step (Inject link dir octets)) listed asked is = absurd cc

  pub has_send : AsksForSend s → HasSend (run_in s w)
  has_send asks =
      let p = asked_at s.within 0 0 s.orders asks.at asks.span asks.listed in
      by_order p.at p.order p.listed asks.span.asked p.asked
