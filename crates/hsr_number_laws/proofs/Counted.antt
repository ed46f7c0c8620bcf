-- Where a node numbers no more frames than there are numbers, a source and a number tell one send.
use Rattle.std.proofs.Common.{◌≡◌, ◌⊎◌, ℕ, ◌+◌, ◌-◌, ◌<◌, ◌≤◌, ◌==◌, nat_lt, Bool, true, false, not, ◌&&◌, if◌then◌else◌, List, [], ◌∷◌, length, take, Option, Some, None, Result, Ok, Err, refl, sym, ap, ◌∙◌, subst, arith, ⊎_elim, eq-eqb, ne_eqb, reverse, zero, suc}
use Rattle.std.specs.Prelude.{slice_index_or}
use Rattle.std.specs.Option.{option_and_then, option_or}
use Rattle.std.specs.List.{AllByRecursion, list_any}
use Rattle.std.proofs.lemmas.Bool.{and_parts, cases_eq, cases_lt, cond-false, cond-true, false_from_ne_true, false≢true, not-true}
use Rattle.hsr_frame.specs.Egress.{Egress}
use Rattle.hsr_frame.specs.Grammar.{Fields}
use Rattle.hsr_frame.specs.declared.node.Cause.{Cause}
use Rattle.hsr_tag.specs.Tag.{TaggedFields}
use Rattle.hsr_tag.specs.declared.seen.Seen.TheVariants.{Plain, Tagged}
use Rattle.hsr_duptable.specs.Key.{Key, is_same_key}
use Rattle.hsr_forwarding.specs.Arrival.{key_of}
use Rattle.hsr_node.specs.Copies.{plain_in, ring_address}
use Rattle.hsr_node.specs.Flow.{send_at}
use Rattle.hsr_node.specs.Record.{Each, Noted, Owner, answer, key_handled, key_in, notes, now, number_in, own_key, remembered}
use Rattle.hsr_node.specs.declared.entry.Entry.{Entry}
use Rattle.hsr_node.specs.declared.event.Carried.{Carried}
use Rattle.hsr_node.specs.declared.event.Event.{Event}
use Rattle.hsr_node.specs.declared.event.Event.TheVariants.{Send, Supervise, Arrive, Age}
use Rattle.hsr_node.specs.declared.event.Outcome.{Outcome}
use Rattle.hsr_node.specs.declared.event.Outcome.TheVariants.{Judged}
use Rattle.hsr_node.specs.declared.event.Probe.{Probe}
use Rattle.hsr_node.specs.declared.place.Place.{Place}
use Rattle.hsr_node.specs.declared.place.Place.TheVariants.{Danh, RedBox, QuadBox, Station}
use Rattle.hsr_node.specs.declared.sending.Sending.{Sending}
use Rattle.hsr_topology.specs.declared.end.End.{End}
use Rattle.hsr_run_laws.specs.Budget.{is_sending}
use Rattle.hsr_run_laws.specs.Closed.{IsClosed, IsOfSend, IsSend, number_of}
use Rattle.hsr_run_laws.specs.Premises.{KnowsOwn, NumberedFirst, NumbersFirst, is_mistaken, is_note_of}
use Rattle.hsr_run_laws.specs.Run.{Run, given, given_at, is_of, is_same_send, owner_of, past_of, peer_in, place_of}
use Rattle.hsr_run_laws.proofs.Keys.{each_of_send, tagged_of_send}
use Rattle.hsr_run_laws.proofs.Lists.{any_with}
use Rattle.hsr_run_laws.proofs.Noting.{CameNumbered, CameTagged, IsNoteOf, NoteCame}
use Rattle.hsr_run_laws.proofs.Records.{Answered, IsSource, OfArrival, all_notes_more, any_remembered}
use Rattle.hsr_run_laws.proofs.Same.{is_of_itself, probes_same, same_key}
use Rattle.hsr_run_laws.proofs.Timely.{note_kind}
use Rattle.hsr_run_laws.proofs.Views.{Came, came}
use Rattle.hsr_run_laws.proofs.Wanted.{source_of}
use Rattle.hsr_network_laws.specs.Network.{HasAddress, IsNetwork, is_edge, is_station, start_of}
use Rattle.hsr_network_laws.proofs.Fits.{legal}
use Rattle.hsr_network_laws.proofs.Hops.{FromEdge, IsByStation, each_from_edge}
use Rattle.hsr_network_laws.proofs.Late.{numbered_came}
use Rattle.hsr_number_laws.specs.Counted.{CountedTells, FewNumbers}
use Rattle.hsr_number_laws.proofs.Next.{Gave, counted, each_next, gave, given_one, own_at, own_is, own_one, station_own}

-- ---- addresses

its_own : (place : Place) (src : List ℕ) → IsSource place src → HasAddress place src
its_own (Danh mac mode) src is = is
its_own (RedBox mac mode) src is = is
its_own QuadBox src is = is
its_own (Station macs) src is = is

of_ring : (place : Place) (seq : Option ℕ) (key : Key) → own_key (ring_address place) seq ≡ Some key → HasAddress place key.src × (seq ≡ Some key.seq)
of_ring (Danh mac mode) None key is = absurd cc
of_ring (Danh mac mode) (Some n) key is =
    let made : Key = record { src = mac; seq = n } in
    let same : made ≡ key = let e : Some made ≡ Some key = is in cc in
    (sym (ap (λ (k : Key). k.src) same), ap (λ (k : Key). Some k.seq) same)
of_ring (RedBox mac mode) None key is = absurd cc
of_ring (RedBox mac mode) (Some n) key is =
    let made : Key = record { src = mac; seq = n } in
    let same : made ≡ key = let e : Some made ≡ Some key = is in cc in
    (sym (ap (λ (k : Key). k.src) same), ap (λ (k : Key). Some k.seq) same)
of_ring QuadBox seq key is = absurd cc
of_ring (Station macs) seq key is = absurd cc

own_handled : (place : Place) (event : Event) (outcome : Outcome) → is_sending event ≡ true → key_handled place event outcome ≡ own_key (ring_address place) (number_in outcome)
own_handled place (Send from dst vlan ethertype payload) outcome is = refl
own_handled place (Supervise about) outcome is = refl
own_handled place (Arrive port copy) outcome is = absurd (false≢true is)
own_handled place Age outcome is = absurd (false≢true is)

-- ---- the entry at a place has its number

abbrev IsOwnAt : List Entry → Entry → List Entry → Type 0
IsOwnAt whole x past = is_sending x.event ≡ true → own_at (length past) whole ≡ number_in x.outcome

all_own_at : (whole h : List Entry) → ((n : ℕ) → n < length h → own_at n whole ≡ own_at n h) → Each (IsOwnAt whole) h
all_own_at whole [] agree = tt
all_own_at whole (x ∷ past) agree = (
  λ is. agree (length past) (omega arith) ∙ (cond-true (length past == length past) _ _ (eq-eqb (length past) (length past) refl) ∙ cond-true (is_sending x.event) _ _ is),
  all_own_at whole past (λ n below. agree n (omega (arith, below)) ∙ cond-false (n == length past) _ _ (ne_eqb n (length past) (λ e. omega (arith, e, below)))),
)

module _ (run : Run) (closed : IsClosed run) (net : IsNetwork run) (few : FewNumbers run) where
  few_at : (k : ℕ) → k < length run.places → Rattle.hsr_run_laws.proofs.Numbers.numbered (past_of run k) ≤ 65536
  few_at k below = let a = few k below in let b = counted (past_of run k) in omega (arith, a, b)

  -- ---- the number of a send

  abbrev pub seq_of : Probe → Option ℕ
  seq_of send = option_or (own_at send.place (past_of run send.node)) (given run send)

  -- a send has this source and number
  pub record IsKey (send : Probe) (key : Key) : Type 0 where
    pub below : send.node < length run.places
    pub src : HasAddress (place_of run send.node) key.src
    pub seq : seq_of send ≡ Some key.seq

  -- past the last node there is no record
  no_record : (k : ℕ) → length run.places ≤ k → past_of run k ≡ []
  no_record k past = ap reverse (by_records run.records k (omega (arith, past, closed.records)))
    where
      by_records : (records : List (List Entry)) (k : ℕ) → length records ≤ k → slice_index_or records k [] ≡ []
      by_records [] k past = refl
      by_records (h ∷ records) zero past = absurd (omega (arith, past))
      by_records (h ∷ records) (suc k) past = by_records records k (omega (arith, past))

  -- only a Station's sends are given numbers
  given_station : (k : ℕ) (send : Probe) (n : ℕ) (h : List Entry) → Each (Answered run.capacity (owner_of run k)) h → Each (λ x past. OfArrival (IsOfSend run) x.event) h → Each (λ x past. FromEdge run closed net k x.event) h →
      given_at send h ≡ Some n → is_station (place_of run send.node) ≡ true
  given_station k send n [] legal of_send edge is = absurd cc
  given_station k send n (x ∷ past) legal of_send edge is = by_past (given_at send past) refl is (given_station k send n past legal.1 of_send.1 edge.1)
    where
      by_past : (o : Option ℕ) → given_at send past ≡ o → option_or o (Rattle.hsr_run_laws.specs.Run.gives send x.event x.outcome) ≡ Some n → (given_at send past ≡ Some n → is_station (place_of run send.node) ≡ true) → is_station (place_of run send.node) ≡ true
      by_past (Some m) e is rest = rest (e ∙ is)
      by_past None e is rest =
          let g = gave send n x.event x.outcome is in
          let ok : answer run.capacity (owner_of run k) past (now (x ∷ past)) (Arrive g.port g.copy) ≡ Ok x.outcome = subst (λ ev. answer run.capacity (owner_of run k) past (now (x ∷ past)) ev ≡ Ok x.outcome) g.is legal.0 in
          let o : IsOfSend run g.copy = subst (OfArrival (IsOfSend run)) g.is of_send.0 in
          let box = (numbered_came run.capacity (owner_of run k) past (now (x ∷ past)) g.port g.copy x.outcome n o.sending.frame ok g.number o.frame).1 in
          let from : FromEdge run closed net k (Arrive g.port g.copy) = subst (FromEdge run closed net k) g.is edge.0 in
          let edge_so : is_edge (place_of run k) g.port ≡ true = subst (λ (p : Place). is_edge p g.port ≡ true) (sym box.is_box) (eq-eqb g.port 2 box.is_two) in
          let no_station : is_station (place_of run k) ≡ false = subst (λ (p : Place). is_station p ≡ false) (sym box.is_box) refl in
          let by = from edge_so no_station in
          let both : Some by.from.0 ≡ Some send = sym by.from.1 ∙ g.mine in
          let same : by.from.0 ≡ send = cc in
          let node : (start_of run by.channel).node ≡ send.node = sym by.from.2 ∙ ap (λ (p : Probe). p.node) same in
          subst (λ (j : ℕ). is_station (place_of run j) ≡ true) node by.station

  -- where a number was given
  given_where : (send : Probe) (n : ℕ) → given run send ≡ Some n → (end : End) × (peer_in (record { node = send.node; port = 0 }) run.links ≡ Some end) × (given_at send (past_of run end.node) ≡ Some n) × (end.node < length run.places)
  given_where send n is = by_peer (peer_in (record { node = send.node; port = 0 }) run.links) refl is
    where
      by_peer : (o : Option End) → peer_in (record { node = send.node; port = 0 }) run.links ≡ o → option_and_then (λ (end : End). given_at send (past_of run end.node)) o ≡ Some n →
          (end : End) × (peer_in (record { node = send.node; port = 0 }) run.links ≡ Some end) × (given_at send (past_of run end.node) ≡ Some n) × (end.node < length run.places)
      by_peer None e is = absurd cc
      by_peer (Some end) e is = (
        end,
        e,
        is,
        ⊎_elim (λ inside. inside) (λ past. let none : given_at send [] ≡ Some n = ap (given_at send) (sym (no_record end.node past)) ∙ is in absurd cc) (cases_lt end.node (length run.places)),
      )

  is_stations : (send : Probe) (n : ℕ) → given run send ≡ Some n → is_station (place_of run send.node) ≡ true
  is_stations send n is =
      let w = given_where send n is in
      given_station w.0.node send n (past_of run w.0.node) (legal run closed net w.0.node w.3) (each_of_send run closed w.0.node w.3) (each_from_edge run closed net w.0.node w.3) w.2

  -- sends of one node with one number are one
  one_number : (p q : Probe) (n : ℕ) → p.node ≡ q.node → p.node < length run.places → seq_of p ≡ Some n → seq_of q ≡ Some n → p ≡ q
  one_number p q n node below is_p is_q = by_own (own_at p.place (past_of run p.node)) (own_at q.place (past_of run q.node)) refl refl is_p is_q
    where
      -- what has a number of its own isn't a Station's
      apart : (r s : Probe) (m : ℕ) → r.node ≡ s.node → r.node < length run.places → own_at r.place (past_of run r.node) ≡ Some m → given run s ≡ Some n → ⊥
      apart r s m same inside own is =
          let station : is_station (place_of run r.node) ≡ true = ap (λ k. is_station (place_of run k)) same ∙ is_stations s n is in
          let none = station_own run.capacity (owner_of run r.node) r.place (past_of run r.node) station (legal run closed net r.node inside) in
          let both : None ≡ Some m = sym none ∙ own in
          cc

      by_own : (o u : Option ℕ) → own_at p.place (past_of run p.node) ≡ o → own_at q.place (past_of run q.node) ≡ u → option_or o (given run p) ≡ Some n → option_or u (given run q) ≡ Some n → p ≡ q
      by_own (Some a) (Some b) e f is_p is_q =
          probes_same p q node
          (own_one p.place q.place n (past_of run p.node) (each_next run.capacity (owner_of run p.node) (past_of run p.node) (legal run closed net p.node below)) (few_at p.node below)
          (e ∙ is_p) (ap (λ k. own_at q.place (past_of run k)) node ∙ (f ∙ is_q)))
      by_own (Some a) None e f is_p is_q = absurd (apart p q a node below e is_q)
      by_own None (Some b) e f is_p is_q = absurd (apart q p b (sym node) (subst (λ k. k < length run.places) node below) f is_p)
      by_own None None e f is_p is_q =
          let a = given_where p n is_p in
          let b = given_where q n is_q in
          let ends : Some a.0 ≡ Some b.0 = sym a.1 ∙ (ap (λ k. peer_in (record { node = k; port = 0 }) run.links) node ∙ b.1) in
          let same : a.0 ≡ b.0 = cc in
          given_one p q n (past_of run a.0.node) (each_next run.capacity (owner_of run a.0.node) (past_of run a.0.node) (legal run closed net a.0.node a.3)) (few_at a.0.node a.3)
          a.2 (ap (λ (end : End). given_at q (past_of run end.node)) same ∙ b.2)

  one_send : (p q : Probe) (key : Key) → IsKey p key → IsKey q key → p ≡ q
  one_send p q key a b = one_number p q key.seq (net.differ p.node q.node key.src a.below b.below a.src b.src) a.below a.seq b.seq

  -- ---- what is of a send has its key

  number_is : (send : Probe) (s : Sending) → IsSend run send s → number_of run send s ≡ seq_of send
  number_is send s is = ap (λ o. option_or o (given run send)) (own_is (place_of run send.node) send.place s (past_of run send.node) is.1)

  made_key : (send : Probe) (s : Sending) (key : Key) → IsSend run send s → key.src ≡ s.frame.src → number_of run send s ≡ Some key.seq → IsKey send key
  made_key send s key is src seq = record {
    below = is.0;
    src = subst (HasAddress (place_of run send.node)) (sym src) (its_own (place_of run send.node) s.frame.src (source_of (place_of run send.node) send.place (past_of run send.node) s is.1));
    seq = sym (number_is send s is) ∙ seq;
  }

  copy_key : (copy : Carried) (o : IsOfSend run copy) (t : TaggedFields) → came copy ≡ Ok (Tagged t) → IsKey o.send (key_of t)
  copy_key copy o t tagged =
      let two = tagged_of_send run o.send o.sending copy o (ap (is_of o.send) o.named ∙ is_of_itself o.send) o.is_send t tagged in
      made_key o.send o.sending (key_of t) o.is_send (ap (λ (f : Fields). f.src) two.0) two.1

  -- ---- each note has the key of its send

  pub record IsKeyed (note : Noted) : Type 0 where
    pub send : Probe
    pub named : note.probe ≡ Some send
    pub key : IsKey send note.key

  note_keyed : (k : ℕ) → k < length run.places → (e : Egress) (x : Entry) (past : List Entry) (note : Noted) → Answered run.capacity (owner_of run k) x past → OfArrival (IsOfSend run) x.event →
      NumbersFirst run (owner_of run k) past x.event x.outcome → IsOwnAt (past_of run k) x past → IsNoteOf (owner_of run k) e x past note → IsKeyed note
  note_keyed k below e x past note ok of_send first own_here n =
      ⊎_elim
      (λ own.
      let two = of_ring (place_of run k) (number_in x.outcome) note.key (sym (own_handled (place_of run k) x.event x.outcome own.1) ∙ n.key) in
      let here : Probe = record { node = k; place = length past } in
      let seq : seq_of here ≡ Some note.key.seq = ap (λ o. option_or o (given run here)) (own_here own.1 ∙ two.1) in
      record { send = here; named = own.0; key = record { below = below; src = two.0; seq = seq } })
      (λ c.
      let o : IsOfSend run c.copy = subst (OfArrival (IsOfSend run)) c.is of_send in
      record {
        send = o.send;
        named = c.probe ∙ o.named;
        key = ⊎_elim (λ t. subst (IsKey o.send) (sym t.key_is) (copy_key c.copy o t.tagged t.is)) (λ m. by_number c o m) c.how;
      })
      (note_kind run.capacity (owner_of run k) e x past note ok n)
    where
      by_number : (c : NoteCame run.capacity (owner_of run k) e x past note) (o : IsOfSend run c.copy) → CameNumbered c.port c.copy x.outcome note.key → IsKey o.send note.key
      by_number c o m =
          let there : NumbersFirst run (owner_of run k) past (Arrive c.port c.copy) (Judged m.up_too m.out_ports (Some m.seq) m.cause) =
          subst (λ out. NumbersFirst run (owner_of run k) past (Arrive c.port c.copy) out) m.out (subst (λ ev. NumbersFirst run (owner_of run k) past ev x.outcome) c.is first) in
          let number = (there o.send o.named).0 o.sending o.is_send in
          let frame : Some m.frame ≡ Some o.sending.frame = ap plain_in (sym m.is) ∙ o.frame in
          let same : m.frame ≡ o.sending.frame = cc in
          made_key o.send o.sending note.key o.is_send (ap (λ (q : Key). q.src) m.key_is ∙ ap (λ (f : Fields). f.src) same) (number ∙ ap (λ (q : Key). Some q.seq) (sym m.key_is))

  notes_keyed : (k : ℕ) → k < length run.places → (e : Egress) (h : List Entry) → Each (Answered run.capacity (owner_of run k)) h → Each (λ x past. OfArrival (IsOfSend run) x.event) h →
      Each (λ x past. NumbersFirst run (owner_of run k) past x.event x.outcome) h → Each (IsOwnAt (past_of run k)) h → AllByRecursion IsKeyed (notes (owner_of run k) e h)
  notes_keyed k below e [] legal of_send first own = tt
  notes_keyed k below e (x ∷ past) legal of_send first own =
      all_notes_more IsKeyed (owner_of run k) e x past (λ note n. note_keyed k below e x past note legal.0 of_send.0 first.0 own.0 n) (notes_keyed k below e past legal.1 of_send.1 first.1 own.1)

  -- ---- so none is mistaken

  knows_own : (k : ℕ) → k < length run.places → (h : List Entry) → Each (Answered run.capacity (owner_of run k)) h → Each (λ x past. OfArrival (IsOfSend run) x.event) h →
      Each (λ x past. NumbersFirst run (owner_of run k) past x.event x.outcome) h → Each (IsOwnAt (past_of run k)) h →
      Each (λ x past. KnowsOwn run.capacity (owner_of run k) past (now (x ∷ past)) x.event) h
  knows_own k below [] legal of_send first own = tt
  knows_own k below (x ∷ past) legal of_send first own = (by_event x.event of_send.0, knows_own k below past legal.1 of_send.1 first.1 own.1)
    where
      by_event : (event : Event) → OfArrival (IsOfSend run) event → KnowsOwn run.capacity (owner_of run k) past (now (x ∷ past)) event
      by_event (Send from dst vlan ethertype payload) o = tt
      by_event (Supervise about) o = tt
      by_event Age o = tt
      by_event (Arrive port copy) o = λ ring e wanted key tagged.
          false_from_ne_true (list_any (is_mistaken key copy.probe) (remembered run.capacity (now (x ∷ past)) (notes (owner_of run k) e past)))
          (λ some. mistaken e key tagged (any_remembered run.capacity (now (x ∷ past)) (notes (owner_of run k) e past) (is_mistaken key copy.probe) some))
        where
          key_here : (key : Key) (seen : Came) → came copy ≡ seen → key_in seen None ≡ Some key → IsKey o.send key
          key_here key (Err fault) is h = absurd cc
          key_here key (Ok (Plain frame)) is h = absurd cc
          key_here key (Ok (Tagged t)) is h =
              let same : key_of t ≡ key = let e : Some (key_of t) ≡ Some key = h in cc in
              subst (IsKey o.send) same (copy_key copy o t is)

          mistaken : (e : Egress) (key : Key) → key_in (came copy) None ≡ Some key → list_any (is_mistaken key copy.probe) (notes (owner_of run k) e past) ≡ true → ⊥
          mistaken e key tagged some =
              let found = any_with IsKeyed (is_mistaken key copy.probe) (notes (owner_of run k) e past) (notes_keyed k below e past legal.1 of_send.1 first.1 own.1) some in
              let note = found.0 in
              let keyed = found.1 in
              let parts = and_parts (is_same_key note.key key) (not (is_note_of copy.probe note)) found.2 in
              let equal = same_key note.key key parts.0 in
              let same = one_send o.send keyed.send key (key_here key (came copy) refl tagged) (subst (IsKey keyed.send) equal keyed.key) in
              let mine : is_same_send copy.probe note.probe ≡ true =
              ap (λ p. is_same_send p note.probe) o.named ∙ (ap (is_of o.send) (keyed.named ∙ ap (λ q. Some q) (sym same)) ∙ is_of_itself o.send) in
              false≢true (sym (not-true _ parts.1) ∙ mine)

pub counted_tells : CountedTells
counted_tells run closed net first few k below =
    knows_own run closed net few k below (past_of run k) (legal run closed net k below) (each_of_send run closed k below) (first k below) (all_own_at (past_of run k) (past_of run k) (λ n low. refl))
