-- What leaves a node is of a send, where what came is.
use Rattle.std.proofs.Common.{◌≡◌, ℕ, ◌<◌, ◌%◌, ◌==◌, Bool, true, false, List, [], ◌∷◌, length, set, option_map, option_and_then, Option, Some, None, Result, Ok, Err, refl, sym, ap, ◌∙◌, subst, arith, eqb-true, eq-eqb, ⊎_elim}
use Rattle.std.specs.Prelude.{if◌then◌else◌}
use Rattle.std.specs.Option.{option_or}
use Rattle.std.proofs.lemmas.Bool.{false≢true, cases_Bool, cond-true}
use Rattle.std.proofs.lemmas.List.{get_or-set_same, get_or-set_other}
use Rattle.hsr_frame.specs.Grammar.{Fields}
use Rattle.hsr_frame.specs.declared.fault.SendFault.{SendFault}
use Rattle.hsr_redbox.specs.Step.{number_of}
use Rattle.hsr_frame.specs.declared.node.About.{About}
use Rattle.hsr_frame.specs.declared.node.About.TheVariants.{Own, Proxied}
use Rattle.hsr_redbox.specs.declared.call.LifeFault.{LifeFault}
use Rattle.hsr_redbox.specs.declared.wanted.Handling.{Handling}
use Rattle.hsr_tag.specs.Seen.{classified}
use Rattle.hsr_tag.specs.Tag.{IsPlain, TaggedFields}
use Rattle.hsr_tag.specs.declared.seen.Seen.TheVariants.{Tagged}
use Rattle.hsr_node.specs.Copies.{address_at, asked_frame, copy_octets, life_frame, passed_octets, plain_in, ring_address, side_of, written}
use Rattle.hsr_node.specs.Flow.{pass_of, send_at, sending_of, sent_by}
use Rattle.hsr_node.specs.declared.sending.Sending.{Sending}
use Rattle.hsr_node.specs.Record.{Owner, answer, knows, lived_or_refused, next_number, number_in, probe_handled, send_answer, sending, sent_as, sent_or_refused, steps}
use Rattle.hsr_node.specs.declared.entry.Entry.{Entry}
use Rattle.hsr_node.specs.declared.event.Carried.{Carried}
use Rattle.hsr_node.specs.declared.event.Event.{Event}
use Rattle.hsr_node.specs.declared.event.Event.TheVariants as event
use Rattle.hsr_node.specs.declared.event.Outcome.{Outcome}
use Rattle.hsr_node.specs.declared.event.Outcome.TheVariants as outcome
use Rattle.hsr_node.specs.declared.event.Probe.{Probe}
use Rattle.hsr_node.specs.declared.event.StepFault.{StepFault}
use Rattle.hsr_node.specs.declared.event.StepFault.TheVariants as refused
use Rattle.hsr_node.specs.declared.place.Place.{Place}
use Rattle.hsr_node.specs.declared.place.Place.TheVariants.{Danh, RedBox, QuadBox, Station}
use Rattle.hsr_run_laws.specs.Run.{given_at, gives, owner_in, peer_in, record_in}
use Rattle.hsr_topology.specs.declared.end.End.{End}
use Rattle.hsr_run_laws.proofs.Views.{judged}
use Rattle.hsr_world_laws.proofs.Origin.{copy_passed, send_kept, written_none}
use Rattle.hsr_world_laws.proofs.Spelled.{Fits, IsWritten, forwarded_is, written_is}

-- ---- numbers have 16 bits

next_fits : (past : List Entry) → next_number past < 65536
next_fits past = below _
  where
    below : (n : ℕ) → n % 65536 < 65536
    below n = omega arith

none_fits : Fits None
none_fits k e = absurd cc

number_fits : (source : Option (List ℕ)) (past : List Entry) → Fits (number_of source (next_number past))
number_fits None past k e = absurd cc
number_fits (Some src) past k e = let same : next_number past ≡ k = cc in subst (λ n. n < 65536) same (next_fits past)

life_fits : (past : List Entry) → Fits (Some (next_number past))
life_fits past k e = let same : next_number past ≡ k = cc in subst (λ n. n < 65536) same (next_fits past)

outcome_fits : (r : Result Outcome StepFault) (first outcome : Outcome) → r ≡ Ok outcome → Fits (number_in first) → Ok first ≡ r → Fits (number_in outcome)
outcome_fits r first outcome is fits e = let same : first ≡ outcome = cc in subst (λ o. Fits (number_in o)) same fits

pub numbers_fit : (capacity : ℕ) (owner : Owner) (past : List Entry) (at : ℕ) (event : Event) (o : Outcome) → answer capacity owner past at event ≡ Ok o → Fits (number_in o)
numbers_fit capacity owner past at (event.Send from dst vlan ethertype payload) o ok = by_address (address_at owner.place from) ok
  where
    by_refusal : (h : Handling) (f : Option SendFault) → sent_or_refused f (sent_as h (next_number past)) ≡ Ok o → Fits (number_in o)
    by_refusal h (Some fault) e = absurd cc
    by_refusal h None e = outcome_fits _ (sent_as h (next_number past)) o e (number_fits h.source past) refl

    by_address : (a : Option (List ℕ)) → send_answer capacity owner past at a dst ethertype (length payload) ≡ Ok o → Fits (number_in o)
    by_address None e = absurd cc
    by_address (Some src) e = by_refusal (sending owner.place (knows owner.place past at event.Age) dst ethertype) _ e
numbers_fit capacity owner past at (event.Supervise about) o ok = by_place owner.place about ok
  where
    lived : (f : Option LifeFault) → lived_or_refused past f ≡ Ok o → Fits (number_in o)
    lived (Some fault) e = absurd cc
    lived None e = outcome_fits _ (outcome.Life (next_number past) _ _) o e (life_fits past) refl

    spent_or : (b : Bool) → (if b then Err refused.Spent else lived_or_refused past None) ≡ Ok o → Fits (number_in o)
    spent_or true e = absurd cc
    spent_or false e = lived None e

    by_place : (place : Place) (about : About) → Rattle.hsr_node.specs.Record.life_answer place past at about ≡ Ok o → Fits (number_in o)
    by_place (Danh mac mode) Own e = spent_or _ e
    by_place (Danh mac mode) (Proxied other) e = absurd cc
    by_place (RedBox mac mode) about e = lived _ e
    by_place QuadBox about e = absurd cc
    by_place (Station macs) about e = absurd cc
numbers_fit capacity owner past at (event.Arrive port copy) o ok =
    let j = judged capacity owner past at port copy o ok in
    subst (λ v. Fits (number_in v)) (sym j.out) (number_fits j.h.source past)
numbers_fit capacity owner past at event.Age o ok = outcome_fits _ outcome.Aged o ok none_fits refl

-- ---- what a RedBox gave to a send

abbrev pub given_in : List (List Entry) → List (List End) → Probe → Option ℕ
given_in records links send = option_and_then (λ (end : End). given_at send (record_in records end.node)) (peer_in (record { node = send.node; port = 0 }) links)

-- it stays when an entry is added
pub given_kept : (records : List (List Entry)) (links : List (List End)) (n : ℕ) (x : Entry) (send : Probe) (k : ℕ) → n < length records →
    given_in records links send ≡ Some k → given_in (set records n (x ∷ record_in records n)) links send ≡ Some k
given_kept records links n x send k below h = by_peer (peer_in (record { node = send.node; port = 0 }) links) h
  where
    more : List (List Entry)
    more = set records n (x ∷ record_in records n)

    by_peer : (o : Option End) → option_and_then (λ (end : End). given_at send (record_in records end.node)) o ≡ Some k →
        option_and_then (λ (end : End). given_at send (record_in (set records n (x ∷ record_in records n)) end.node)) o ≡ Some k
    by_peer None e = absurd cc
    by_peer (Some end) e = ⊎_elim
        (λ here. let same = eqb-true end.node n here in
        subst (λ m. given_at send (record_in (set records n (x ∷ record_in records n)) m) ≡ Some k) (sym same)
        (ap (given_at send) (get_or-set_same records n (x ∷ record_in records n) [] below)
        ∙ ap (λ o. option_or o (gives send x.event x.outcome)) (subst (λ m. given_at send (record_in records m) ≡ Some k) same e)))
        (λ other. ap (given_at send) (get_or-set_other records n end.node (x ∷ record_in records n) [] (λ s. false≢true (sym other ∙ eq-eqb end.node n s))) ∙ e)
        (cases_Bool (end.node == n))

-- ---- a copy is of a send

pub record IsCopyOf (places : List Place) (records : List (List Entry)) (links : List (List End)) (copy : Carried) : Type 0 where
  pub send : Probe
  pub sending : Sending
  pub named : copy.probe ≡ Some send
  pub sent : send_at (owner_in places send.node).place send.place (record_in records send.node) ≡ Some sending
  pub frame : plain_in (classified copy.octets) ≡ Some sending.frame
  pub number : (tagged : TaggedFields) → classified copy.octets ≡ Ok (Tagged tagged) → option_or sending.seq (given_in records links send) ≡ Some tagged.seq

pub number_kept : (seq a b : Option ℕ) (k : ℕ) → (a ≡ Some k → b ≡ Some k) → option_or seq a ≡ Some k → option_or seq b ≡ Some k
number_kept None a b k f h = f h
number_kept (Some n) a b k f h = h

-- a send stays one when an entry is added
pub sent_kept : (places : List Place) (records : List (List Entry)) (n : ℕ) (x : Entry) (send : Probe) (s : Sending) → n < length records →
    send_at (owner_in places send.node).place send.place (record_in records send.node) ≡ Some s →
    send_at (owner_in places send.node).place send.place (record_in (set records n (x ∷ record_in records n)) send.node) ≡ Some s
sent_kept places records n x send s below h = ⊎_elim
    (λ here. let same = eqb-true send.node n here in
    subst (λ m. send_at (owner_in places m).place send.place (record_in (set records n (x ∷ record_in records n)) m) ≡ Some s) (sym same)
    (ap (send_at (owner_in places n).place send.place) (get_or-set_same records n (x ∷ record_in records n) [] below)
    ∙ send_kept (owner_in places n).place send.place x (record_in records n) s (subst (λ m. send_at (owner_in places m).place send.place (record_in records m) ≡ Some s) same h)))
    (λ other. ap (send_at (owner_in places send.node).place send.place) (get_or-set_other records n send.node (x ∷ record_in records n) [] (λ e. false≢true (sym other ∙ eq-eqb send.node n e))) ∙ h)
    (cases_Bool (send.node == n))

-- it stays one when an entry is added
pub copy_kept : (places : List Place) (records : List (List Entry)) (links : List (List End)) (n : ℕ) (x : Entry) (c : Carried) → n < length records →
    IsCopyOf places records links c → IsCopyOf places (set records n (x ∷ record_in records n)) links c
copy_kept places records links n x c below h =
    record {
      send = h.send;
      sending = h.sending;
      named = h.named;
      sent = sent_kept places records n x h.send h.sending below h.sent;
      frame = h.frame;
      number = λ t e. number_kept h.sending.seq (given_in records links h.send) _ t.seq (given_kept records links n x h.send t.seq below) (h.number t e);
    }

-- ---- what leaves with a send

-- the octets of a send's frame
record OwnWritten (place : Place) (e : Event) (o : Outcome) (octets : List ℕ) : Type 0 where
  pub sending : Sending
  pub sent : sent_by place e o ≡ Some sending
  pub written : IsPlain sending.frame → Fits (number_in o) → IsWritten sending.frame sending.seq octets

nothing_written : (place : Place) (port : ℕ) (seq : Option ℕ) (octets : List ℕ) → written (side_of place port) seq None ≡ Some octets → ⊥
nothing_written place port seq octets h = let none = written_none place port seq in absurd cc

own_written : (place : Place) (e : Event) (o : Outcome) (port : ℕ) (octets : List ℕ) → ((x : ℕ) (copy : Carried) → e ≡ event.Arrive x copy → ⊥) →
    passed_octets place e o port ≡ Some octets → OwnWritten place e o octets
unfolding passed_octets
own_written place (event.Send from dst vlan ethertype payload) (outcome.Sent seq ports) port octets away h = by_frame (asked_frame (address_at place from) dst vlan ethertype payload) refl h
  where
    by_frame : (f : Option Fields) → asked_frame (address_at place from) dst vlan ethertype payload ≡ f → written (side_of place port) seq f ≡ Some octets → OwnWritten place (event.Send from dst vlan ethertype payload) (outcome.Sent seq ports) octets
    by_frame None e h = absurd (nothing_written place port seq octets h)
    by_frame (Some f) e h = record { sending = record { frame = f; seq = seq }; sent = ap (sending_of seq) e; written = λ plain fits. written_is place port seq f octets plain fits h }
own_written place (event.Send from dst vlan ethertype payload) (outcome.Life seq life ports) port octets away h = absurd cc
own_written place (event.Send from dst vlan ethertype payload) (outcome.Judged up ports seq cause) port octets away h = absurd cc
own_written place (event.Send from dst vlan ethertype payload) outcome.Aged port octets away h = absurd cc
own_written place (event.Supervise about) (outcome.Sent seq ports) port octets away h = absurd cc
own_written place (event.Supervise about) (outcome.Life seq life ports) port octets away h = by_frame (life_frame (ring_address place) about life) refl h
  where
    by_frame : (f : Option Fields) → life_frame (ring_address place) about life ≡ f → written (side_of place port) (Some seq) f ≡ Some octets → OwnWritten place (event.Supervise about) (outcome.Life seq life ports) octets
    by_frame None e h = absurd (nothing_written place port (Some seq) octets h)
    by_frame (Some f) e h = record { sending = record { frame = f; seq = Some seq }; sent = ap (sending_of (Some seq)) e; written = λ plain fits. written_is place port (Some seq) f octets plain fits h }
own_written place (event.Supervise about) (outcome.Judged up ports seq cause) port octets away h = absurd cc
own_written place (event.Supervise about) outcome.Aged port octets away h = absurd cc
own_written place (event.Arrive x copy) o port octets away h = absurd (away x copy refl)
own_written place event.Age o port octets away h = absurd cc

-- ---- what leaves with an entry

-- the number that an arrival got is its send's
abbrev pub NumberedAs : List Place → List (List Entry) → List (List End) → Outcome → Carried → Type 0
NumberedAs places records links o copy = (k : ℕ) → number_in o ≡ Some k → (q : IsCopyOf places records links copy) → option_or q.sending.seq (given_in records links q.send) ≡ Some k

-- the octets of what came leave as they came, or written anew
arrived_copy : (places : List Place) (records : List (List Entry)) (links : List (List End)) (place : Place) (x port : ℕ) (copy c : Carried) (o : Outcome) →
    Fits (number_in o) → ((send : Probe) (s : Sending) → send_at (owner_in places send.node).place send.place (record_in records send.node) ≡ Some s → IsPlain s.frame) →
    NumberedAs places records links o copy → c.probe ≡ copy.probe → passed_octets place (event.Arrive x copy) o port ≡ Some c.octets →
    IsCopyOf places records links copy → IsCopyOf places records links c
unfolding passed_octets
arrived_copy places records links place x port copy c (outcome.Sent seq ports) fits frames numbered probe h q = absurd cc
arrived_copy places records links place x port copy c (outcome.Life seq life ports) fits frames numbered probe h q = absurd cc
arrived_copy places records links place x port copy c outcome.Aged fits frames numbered probe h q = absurd cc
arrived_copy places records links place x port copy c (outcome.Judged up ports seq cause) fits frames numbered probe h q =
    ⊎_elim
    (λ same. record {
      send = q.send;
      sending = q.sending;
      named = probe ∙ q.named;
      sent = q.sent;
      frame = ap (λ octets. plain_in (classified octets)) same ∙ q.frame;
      number = λ t e. q.number t (ap classified (sym same) ∙ e);
    })
    (λ anew. let w = written_is place port seq q.sending.frame c.octets (frames q.send q.sending q.sent) fits (ap (written (side_of place port) seq) (sym q.frame) ∙ anew) in
    record {
      send = q.send;
      sending = q.sending;
      named = probe ∙ q.named;
      sent = q.sent;
      frame = w.read;
      number = λ t e. numbered t.seq (w.number t e) q;
    })
    (forwarded_is place x port seq copy.octets c.octets h)

-- a copy that leaves with the newest entry of node n
pub passed_copy : (places : List Place) (records : List (List Entry)) (links : List (List End)) (n port : ℕ) (x : Entry) (past : List Entry) (c : Carried) →
    record_in records n ≡ x ∷ past → Fits (number_in x.outcome) →
    ((send : Probe) (s : Sending) → send_at (owner_in places send.node).place send.place (record_in records send.node) ≡ Some s → IsPlain s.frame) →
    ((m : ℕ) (copy : Carried) → x.event ≡ event.Arrive m copy → IsCopyOf places records links copy × NumberedAs places records links x.outcome copy) →
    pass_of (owner_in places n) port x past ≡ Some c → IsCopyOf places records links c
passed_copy places records links n port x past c newest fits frames arrived h = by_octets (copy_octets (owner_in places n).place x.event x.outcome port) refl h
  where
    place : Place
    place = (owner_in places n).place

    here : Probe
    here = record { node = n; place = length past }

    Goal : Type 0
    Goal = IsCopyOf places records links c

    own : (e : Event) → x.event ≡ e → ((m : ℕ) (copy : Carried) → e ≡ event.Arrive m copy → ⊥) → c.probe ≡ Some (record { node = n; place = length past }) →
        passed_octets (owner_in places n).place e x.outcome port ≡ Some c.octets → IsCopyOf places records links c
    own e is away named passed =
        let w = own_written (owner_in places n).place e x.outcome port c.octets away passed in
        let sent : send_at (owner_in places n).place (length past) (record_in records n) ≡ Some w.sending =
        ap (send_at (owner_in places n).place (length past)) newest
        ∙ (cond-true (length past == length past) _ _ (eq-eqb (length past) (length past) refl) ∙ (ap (λ v. sent_by (owner_in places n).place v x.outcome) is ∙ w.sent)) in
        let written = w.written (frames (record { node = n; place = length past }) w.sending sent) fits in
        record {
          send = record { node = n; place = length past };
          sending = w.sending;
          named = named;
          sent = sent;
          frame = written.read;
          number = λ t f. ap (λ o. option_or o (given_in records links (record { node = n; place = length past }))) (written.number t f);
        }

    by_event : (e : Event) → x.event ≡ e → c.probe ≡ probe_handled (record { node = n; place = length past }) e → passed_octets (owner_in places n).place e x.outcome port ≡ Some c.octets → IsCopyOf places records links c
    by_event (event.Arrive m copy) is named passed =
        let both = arrived m copy is in
        arrived_copy places records links (owner_in places n).place m port copy c x.outcome fits frames both.1 named passed both.0
    by_event (event.Send from dst vlan ethertype payload) is named passed = own (event.Send from dst vlan ethertype payload) is (λ m copy e. absurd (cc)) named passed
    by_event (event.Supervise about) is named passed = own (event.Supervise about) is (λ m copy e. absurd (cc)) named passed
    by_event event.Age is named passed = own event.Age is (λ m copy e. absurd (cc)) named passed

    by_octets : (r : Option (List ℕ)) → copy_octets (owner_in places n).place x.event x.outcome port ≡ r →
        option_map (λ octets. record { probe = probe_handled (record { node = n; place = length past }) x.event; octets = octets }) r ≡ Some c → IsCopyOf places records links c
    by_octets None e h = absurd cc
    by_octets (Some octets) e h =
        let made : Carried = record { probe = probe_handled (record { node = n; place = length past }) x.event; octets = octets } in
        let same : made ≡ c = cc in
        by_event x.event refl (ap (λ (z : Carried). z.probe) (sym same))
        (copy_passed (owner_in places n).place x.event x.outcome port octets e ∙ ap (λ (z : Carried). Some z.octets) same)
