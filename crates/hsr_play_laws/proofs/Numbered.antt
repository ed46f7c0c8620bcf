-- How many frames a node numbers in a play: no more than sends are asked for that it numbers.
use Rattle.std.proofs.Common.{◌≡◌, ◌⊎◌, ℕ, ◌+◌, ◌<◌, ◌≤◌, ◌==◌, ◌&&◌, nat_le, Bool, true, false, cond, if◌then◌else◌, List, [], ◌∷◌, length, count_by, Option, Some, None, Result, Ok, Err, refl, sym, ap, ◌∙◌, subst, arith, ⊎_elim, zero, suc, eq-eqb, eqb-true, le-leb, ne_eqb}
use Rattle.std.specs.Prelude.{is_some, slice_get, slice_index_or}
use Rattle.std.specs.List.{AllByRecursion, cons_option, list_any}
use Rattle.std.proofs.lemmas.Bool.{and_from, cases_Bool, cases_eq, cases_lt, false≢true, or_cases, or_parts}
use Rattle.hsr_frame.specs.Egress.{c as interlink, cause_of}
use Rattle.hsr_frame.specs.declared.egress.Exits.{Exits}
use Rattle.hsr_node.specs.Record as record_of
use Rattle.hsr_redbox.specs.Step.{number_of}
use Rattle.hsr_redbox.specs.declared.wanted.Handling.{Handling}
use Rattle.hsr_frame.specs.Grammar.{Fields}
use Rattle.hsr_frame.specs.declared.node.Cause.{Cause}
use Rattle.hsr_tag.specs.declared.seen.Seen.TheVariants.{Plain}
use Rattle.hsr_duptable.specs.Key.{Key}
use Rattle.hsr_node.specs.Record.{Each, Noted, Owner, answer, is_noted, key_handled, key_in, note_if, judged_as, next_number, note_of, notes, now, number_in, passing, ports, probe_handled}
use Rattle.hsr_node.specs.declared.entry.Entry.{Entry}
use Rattle.hsr_node.specs.declared.event.Carried.{Carried}
use Rattle.hsr_node.specs.declared.event.Event.{Event}
use Rattle.hsr_node.specs.declared.event.Event.TheVariants.{Send, Supervise, Arrive, Age}
use Rattle.hsr_node.specs.declared.event.Outcome.{Outcome}
use Rattle.hsr_node.specs.declared.event.Outcome.TheVariants.{Sent, Life, Judged, Aged}
use Rattle.hsr_node.specs.declared.event.Probe.{Probe}
use Rattle.hsr_node.specs.declared.place.Place.{Place}
use Rattle.hsr_node.specs.declared.place.Place.TheVariants.{Danh, RedBox, QuadBox, Station}
use Rattle.hsr_topology.specs.declared.end.End.{End}
use Rattle.hsr_run_laws.specs.Budget.{is_sending}
use Rattle.hsr_run_laws.specs.Closed.{IsClosed, IsOfSend}
use Rattle.hsr_run_laws.specs.Premises.{is_note_of, is_redbox}
use Rattle.hsr_run_laws.specs.Run.{Run, is_of, owner_of, past_of, peer_in, place_of}
use Rattle.hsr_run_laws.proofs.Lists.{all_weaker, count_more, count_zero, one_if, zero_if}
use Rattle.hsr_run_laws.proofs.NotedOnce.{noted_once}
use Rattle.hsr_run_laws.proofs.Pigeon.{pigeon}
use Rattle.hsr_run_laws.proofs.Records.{Answered, OfArrival}
use Rattle.hsr_run_laws.proofs.Same.{any_one_more, is_of_itself, probe_is}
use Rattle.hsr_run_laws.proofs.Views.{judged}
use Rattle.hsr_run_laws.proofs.Views as views
use Rattle.hsr_network_laws.specs.Network.{IsNetwork, is_edge, is_station, start_of, stop_of}
use Rattle.hsr_network_laws.proofs.Hops.{FromEdge, IsByStation, each_from_edge}
use Rattle.hsr_network_laws.proofs.Late.{numbered_came, peer_is}
use Rattle.hsr_network_laws.proofs.Leaving.{IsInterlink}
use Rattle.hsr_number_laws.specs.Counted.{FewNumbers, numbered_in}
use Rattle.hsr_number_laws.proofs.Next.{station_none}
use Rattle.hsr_world_laws.specs.World.{World, record_at}
use Rattle.hsr_plays.specs.Conditions.{IsClear, box_at, is_numbered_by_then, is_same_counter, numbers_of}
use Rattle.hsr_plays.specs.Law.{run_in}
use Rattle.hsr_plays.specs.Setup.{Setup, net_of}
use Rattle.hsr_plays.specs.Spans.{spans}
use Rattle.hsr_plays.specs.declared.span.SendSpan.{SendSpan}
use Rattle.hsr_play_laws.specs.Told.{IsAt, IsOpenCopy, IsOpenSend, IsTold, Timed}
use Rattle.hsr_play_laws.proofs.OneSpan.{IsNamed, all_apart, is_span_of, listed_any, tested}
use Rattle.hsr_play_laws.proofs.Worlds.{answers, is_record, of_sends, past_is, places_are}
use Rattle.hsr_play_laws.proofs.Remembers.{remembers}

-- ---- the sends that a node numbered

abbrev pub if_numbered : Bool → Option Probe → List (Option Probe) → List (Option Probe)
if_numbered true probe probes = probe ∷ probes
if_numbered false probe probes = probes

abbrev pub numbered_sends : ℕ → List Entry → List (Option Probe)
numbered_sends k [] = []
numbered_sends k (x ∷ past) = if_numbered (is_some (number_in x.outcome)) (probe_handled (record { node = k; place = length past }) x.event) (numbered_sends k past)

as_many : (k : ℕ) (h : List Entry) → length (numbered_sends k h) ≡ numbered_in h
as_many k [] = refl
as_many k (x ∷ past) = by_number (is_some (number_in x.outcome)) refl (as_many k past)
  where
    by_number : (b : Bool) → is_some (number_in x.outcome) ≡ b → length (numbered_sends k past) ≡ numbered_in past → length (if_numbered b (probe_handled (record { node = k; place = length past }) x.event) (numbered_sends k past)) ≡ numbered_in (x ∷ past)
    by_number true is rest =
        let more = count_more (λ (y : Entry). is_some (number_in y.outcome)) x past in
        let one = one_if (is_some (number_in x.outcome)) is in
        omega (arith, more, one, rest)
    by_number false is rest =
        let more = count_more (λ (y : Entry). is_some (number_in y.outcome)) x past in
        let none = zero_if (is_some (number_in x.outcome)) is in
        omega (arith, more, none, rest)

-- ---- the last of a counter

-- one that passes, and no other that does stands later
record IsLast (q : SendSpan → Bool) (xs : List SendSpan) : Type 0 where
  at : ℕ
  span : SendSpan
  listed : slice_get xs at ≡ Some span
  is : q span ≡ true
  last : AllByRecursion (λ (y : SendSpan). q y ≡ true → y.index ≤ span.index) xs

find_last : (q : SendSpan → Bool) (xs : List SendSpan) → list_any q xs ≡ true → IsLast q xs
find_last q [] some = absurd (false≢true some)
find_last q (x ∷ xs) some = by_rest (list_any q xs) refl (find_last q xs)
  where
    none_later : (ys : List SendSpan) → list_any q ys ≡ false → AllByRecursion (λ (y : SendSpan). q y ≡ true → y.index ≤ x.index) ys
    none_later [] none = tt
    none_later (y ∷ ys) none =
        let parts = or_parts (q y) (list_any q ys) none in
        (λ is. absurd (false≢true (sym parts.0 ∙ is)), none_later ys parts.1)

    by_rest : (b : Bool) → list_any q xs ≡ b → (list_any q xs ≡ true → IsLast q xs) → IsLast q (x ∷ xs)
    by_rest false none rest =
        record {
          at = zero;
          span = x;
          listed = refl;
          is = ⊎_elim (λ here. here) (λ later. absurd (false≢true (sym none ∙ later))) (or_cases (q x) (list_any q xs) some);
          last = (λ is. omega arith, none_later xs none);
        }
    by_rest true later rest =
        let l = rest later in
        ⊎_elim
        (λ above. by_first l above (q x) refl)
        (λ below. record { at = suc l.at; span = l.span; listed = l.listed; is = l.is; last = (λ is. below, l.last) })
        (cases_lt l.span.index x.index)
      where
        by_first : (l : IsLast q xs) → l.span.index < x.index → (b : Bool) → q x ≡ b → IsLast q (x ∷ xs)
        by_first l above true is =
            record {
              at = zero;
              span = x;
              listed = refl;
              is = is;
              last = (
                λ e. omega arith,
                all_weaker (λ (y : SendSpan). q y ≡ true → y.index ≤ l.span.index) (λ (y : SendSpan). q y ≡ true → y.index ≤ x.index) xs
                    (λ y less e. let low = less e in omega (arith, low, above)) l.last,
              );
            }
        by_first l above false is =
            record { at = suc l.at; span = l.span; listed = l.listed; is = l.is; last = (λ e. absurd (false≢true (sym is ∙ e)), l.last) }

fewer : (p q : SendSpan → Bool) (xs : List SendSpan) → AllByRecursion (λ x. p x ≡ true → q x ≡ true) xs → count_by p xs ≤ count_by q xs
fewer p q [] all = omega arith
fewer p q (x ∷ xs) all =
    let rest = fewer p q xs all.1 in
    let a = count_more p x xs in
    let b = count_more q x xs in
    ⊎_elim (λ yes. let one = one_if (p x) yes in let two = one_if (q x) (all.0 yes) in omega (arith, rest, a, b, one, two))
    (λ no. let none = zero_if (p x) no in omega (arith, rest, a, b, none)) (cases_Bool (p x))

none_counted : (p : SendSpan → Bool) (xs : List SendSpan) → list_any p xs ≡ false → count_by p xs ≤ 0
none_counted p xs none = let zero_of = count_zero p xs none in omega (arith, zero_of)

-- the sends of one counter are no more than there are numbers
counted_few : (s : Setup) → IsClear s → (k : ℕ) → count_by (λ (y : SendSpan). is_same_counter (Some k) (numbers_of (net_of s) y.asked.node)) (spans s) ≤ 65536
counted_few s clear k = by_any (list_any q (spans s)) refl
  where
    q : SendSpan → Bool
    q y = is_same_counter (Some k) (numbers_of (net_of s) y.asked.node)

    counter_is : (o : Option ℕ) → is_same_counter (Some k) o ≡ true → o ≡ Some k
    counter_is None is = absurd (false≢true is)
    counter_is (Some j) is = ap (λ m. Some m) (sym (eqb-true k j is))

    by_any : (b : Bool) → list_any q (spans s) ≡ b → count_by q (spans s) ≤ 65536
    by_any false none = let few = none_counted q (spans s) none in omega (arith, few)
    by_any true some =
        let l = find_last q (spans s) some in
        let span = l.span in
        let number = counter_is (numbers_of (net_of s) span.asked.node) l.is in
        let few : count_by (is_numbered_by_then (net_of s) span) (spans s) ≤ 65536 = clear.unwrapped l.at span l.listed in
        let less = fewer q (is_numbered_by_then (net_of s) span) (spans s)
        (all_weaker (λ (y : SendSpan). q y ≡ true → y.index ≤ span.index) (λ (y : SendSpan). q y ≡ true → is_numbered_by_then (net_of s) span y ≡ true) (spans s)
        (λ y low is. and_from (is_same_counter (numbers_of (net_of s) span.asked.node) (numbers_of (net_of s) y.asked.node)) (nat_le y.index span.index)
        (ap (λ o. is_same_counter o (numbers_of (net_of s) y.asked.node)) number ∙ is) (le-leb y.index span.index (low is))) l.last) in
        omega (arith, few, less)

-- ---- at the end of a play

module _ (s : Setup) (clear : IsClear s) (time n : ℕ) (w : World) (told : IsTold s time n w) (closed : IsClosed (run_in s w)) (net : IsNetwork (run_in s w)) (k : ℕ) (inside : k < length w.places) where
  edge : Each (λ x past. FromEdge (run_in s w) closed net k x.event) (record_at w k)
  edge = subst (Each (λ x past. FromEdge (run_in s w) closed net k x.event)) (past_is s.capacity s.links w k) (each_from_edge (run_in s w) closed net k inside)

  abbrev counts : SendSpan → Bool
  counts y = is_same_counter (Some k) (numbers_of (net_of s) y.asked.node)

  place_same : (j : ℕ) → place_of (net_of s) j ≡ place_of (run_in s w) j
  place_same j = ap (λ (ps : List Place). slice_index_or ps j QuadBox) (sym (places_are s w told.own))

  -- what gets a number where it comes
  record IsNumberedCopy (copy : Carried) : Type 0 where
    frame : Fields
    plain : views.came copy ≡ Ok (Plain frame)
    box : is_redbox (place_of (run_in s w) k) ≡ true
    by : IsByStation (run_in s w) closed net k 2 copy

  numbered_copy : (x : Entry) (past : List Entry) (port : ℕ) (copy : Carried) (seq : ℕ) → Answered s.capacity (owner_of (run_in s w) k) x past → OfArrival (IsOfSend (run_in s w)) x.event → FromEdge (run_in s w) closed net k x.event →
      x.event ≡ Arrive port copy → number_in x.outcome ≡ Some seq → IsNumberedCopy copy
  numbered_copy x past port copy seq ok of_send from is number =
      let o : IsOfSend (run_in s w) copy = subst (OfArrival (IsOfSend (run_in s w))) is of_send in
      let ok_here : answer s.capacity (owner_of (run_in s w) k) past (now (x ∷ past)) (Arrive port copy) ≡ Ok x.outcome = subst (λ ev. answer s.capacity (owner_of (run_in s w) k) past (now (x ∷ past)) ev ≡ Ok x.outcome) is ok in
      let both = numbered_came s.capacity (owner_of (run_in s w) k) past (now (x ∷ past)) port copy x.outcome seq o.sending.frame ok_here number o.frame in
      let box = both.1 in
      let there : FromEdge (run_in s w) closed net k (Arrive port copy) = subst (FromEdge (run_in s w) closed net k) is from in
      let edge_so : is_edge (place_of (run_in s w) k) port ≡ true = subst (λ (p : Place). is_edge p port ≡ true) (sym box.is_box) (eq-eqb port 2 box.is_two) in
      let no_station : is_station (place_of (run_in s w) k) ≡ false = subst (λ (p : Place). is_station p ≡ false) (sym box.is_box) refl in
      record {
        frame = o.sending.frame;
        plain = both.0;
        box = subst (λ (p : Place). is_redbox p ≡ true) (sym box.is_box) refl;
        by = subst (λ m. IsByStation (run_in s w) closed net k m copy) box.is_two (there edge_so no_station);
      }

  -- it is of a Station, which this node numbers for
  from_station : (copy : Carried) (numbered : IsNumberedCopy copy) (send : Probe) → copy.probe ≡ Some send → (is_station (place_of (run_in s w) send.node) ≡ true) × (numbers_of (net_of s) send.node ≡ Some k)
  from_station copy numbered send named = (station, numbers)
    where
      by : IsByStation (run_in s w) closed net k 2 copy
      by = numbered.by

      node : (start_of (run_in s w) by.channel).node ≡ send.node
      node =
          let both : Some by.from.0 ≡ Some send = sym by.from.1 ∙ named in
          let same : by.from.0 ≡ send = cc in
          sym by.from.2 ∙ ap (λ (p : Probe). p.node) same

      station : is_station (place_of (run_in s w) send.node) ≡ true
      station = subst (λ (j : ℕ). is_station (place_of (run_in s w) j) ≡ true) node by.station

      begins : start_of (run_in s w) by.channel ≡ record { node = send.node; port = 0 }
      begins = begin_at (start_of (run_in s w) by.channel) node by.first
        where
          begin_at : (end : End) → end.node ≡ send.node → end.port ≡ 0 → end ≡ record { node = send.node; port = 0 }
          begin_at end n p = λ i. record { node = n i; port = p i }

      peer : peer_in (record { node = send.node; port = 0 }) s.links ≡ Some (record { node = k; port = 2 })
      peer = peer_is s.links (record { node = send.node; port = 0 }) (record { node = k; port = 2 }) by.channel.link by.channel.dir by.below begins
          (λ m dir below starts. net.apart (record { link = m; dir = dir }) by.channel below by.below (starts ∙ sym begins) ∙ by.stops)

      numbers : numbers_of (net_of s) send.node ≡ Some k
      numbers =
          ap (λ b. if b then box_at (net_of s) (peer_in (record { node = send.node; port = 0 }) s.links) else Some send.node) (ap is_station (place_same send.node) ∙ station)
          ∙ (ap (box_at (net_of s)) peer ∙ ap (λ b. if b then Some k else None) (ap is_redbox (place_same k) ∙ numbered.box))

  -- ---- each has a span that counts

  record IsCounted (probe : Option Probe) : Type 0 where
    named : IsNamed s w probe
    listed : list_any (λ y. is_span_of s w probe y && counts y) (spans s) ≡ true

  has_span : (probe : Option Probe) (send : Probe) (at : ℕ) (o : IsOpenSend s w send at) → probe ≡ Some send → numbers_of (net_of s) send.node ≡ Some k → IsCounted probe
  has_span probe send at o named number =
      let of_it = o.is in
      let named_so : IsNamed s w probe = record { of_send = send; named = named; main = o.main } in
      record {
        named = named_so;
        listed = listed_any (λ y. is_span_of s w probe y && counts y) (spans s) of_it.at o.span of_it.listed
            (and_from (is_span_of s w probe o.span) (counts o.span) (ap (λ q. is_span_of s w q o.span) named ∙ tested s w send o.span of_it)
            (ap (λ j. is_same_counter (Some k) (numbers_of (net_of s) j)) (sym of_it.node) ∙ (ap (is_same_counter (Some k)) number ∙ eq-eqb k k refl)));
      }

  -- a node that numbers what it sends isn't a Station
  own_counter : is_station (place_of (run_in s w) k) ≡ false → numbers_of (net_of s) k ≡ Some k
  own_counter no_station = ap (λ b. if b then box_at (net_of s) (peer_in (record { node = k; port = 0 }) s.links) else Some k) (ap is_station (place_same k) ∙ no_station)

  no_station : (x : Entry) (past : List Entry) → Answered s.capacity (owner_of (run_in s w) k) x past → is_sending x.event ≡ true → is_some (number_in x.outcome) ≡ true → is_station (place_of (run_in s w) k) ≡ false
  no_station x past ok sends some =
      ⊎_elim
      (λ yes. absurd (false≢true (sym (ap is_some (station_none s.capacity (owner_of (run_in s w) k) past (now (x ∷ past)) x.event x.outcome yes ok sends)) ∙ some)))
      (λ no. no)
      (cases_Bool (is_station (place_of (run_in s w) k)))

  the_number : (o : Option ℕ) → is_some o ≡ true → (seq : ℕ) × (o ≡ Some seq)
  the_number None is = absurd (false≢true is)
  the_number (Some seq) is = (seq, refl)

  not_aged : (x : Entry) (past : List Entry) → Answered s.capacity (owner_of (run_in s w) k) x past → x.event ≡ Age → is_some (number_in x.outcome) ≡ true → ⊥
  not_aged x past ok is some =
      let aged : Ok Aged ≡ Ok x.outcome = subst (λ ev. answer s.capacity (owner_of (run_in s w) k) past (now (x ∷ past)) ev ≡ Ok x.outcome) is ok in
      let same : Aged ≡ x.outcome = cc in
      false≢true (ap (λ o. is_some (number_in o)) same ∙ some)

  all_counted : (last : ℕ) (h : List Entry) → Timed s w k last h → Each (Answered s.capacity (owner_of (run_in s w) k)) h → Each (λ x past. OfArrival (IsOfSend (run_in s w)) x.event) h →
      Each (λ x past. FromEdge (run_in s w) closed net k x.event) h → AllByRecursion IsCounted (numbered_sends k h)
  all_counted last [] timed legal of_send from = tt
  all_counted last (x ∷ past) (at, low, given, is, timed) legal of_send from = by_number (is_some (number_in x.outcome)) refl (all_counted at past timed legal.1 of_send.1 from.1)
    where
      here : Probe
      here = record { node = k; place = length past }

      by_event : (event : Event) → x.event ≡ event → is_some (number_in x.outcome) ≡ true → IsAt s w k at event past → IsCounted (probe_handled (record { node = k; place = length past }) event)
      by_event (Send from dst vlan ethertype payload) e some sent =
          has_span (Some (record { node = k; place = length past })) (record { node = k; place = length past }) at sent.0 refl (own_counter (no_station x past legal.0 (ap is_sending e) some))
      by_event (Supervise about) e some sent =
          has_span (Some (record { node = k; place = length past })) (record { node = k; place = length past }) at sent.0 refl (own_counter (no_station x past legal.0 (ap is_sending e) some))
      by_event (Arrive port copy) e some opens =
          let number = the_number (number_in x.outcome) some in
          let o : IsOfSend (run_in s w) copy = subst (OfArrival (IsOfSend (run_in s w))) e of_send.0 in
          let so = numbered_copy x past port copy number.0 legal.0 of_send.0 from.0 e number.1 in
          has_span copy.probe o.send at (opens o.send o.named) o.named (from_station copy so o.send o.named).1
      by_event Age e some at = absurd (not_aged x past legal.0 e some)

      by_number : (b : Bool) → is_some (number_in x.outcome) ≡ b → AllByRecursion IsCounted (numbered_sends k past) → AllByRecursion IsCounted (if_numbered b (probe_handled (record { node = k; place = length past }) x.event) (numbered_sends k past))
      by_number true some rest = (by_event x.event refl some is, rest)
      by_number false none rest = rest

  -- ---- none is numbered twice

  judged_note : (place : Place) (port : ℕ) (copy : Carried) (f : Fields) (seq moment : ℕ) (up_too : Bool) (out : List Bool) (why : Cause) (o : Option ℕ) → o ≡ Some seq → views.came copy ≡ Ok (Plain f) →
      note_if (is_noted (Judged up_too out o why) interlink) (key_handled place (Arrive port copy) (Judged up_too out o why)) moment copy.probe ≡ Some (record { key = record { src = f.src; seq = seq }; moment = moment; probe = copy.probe })
  judged_note place port copy f seq moment up_too out why None is plain = absurd cc
  judged_note place port copy f seq moment up_too out why (Some m) is plain =
      let same : m ≡ seq = let e : Some m ≡ Some seq = is in cc in
      ap (λ seen. note_if true (key_in seen (Some m)) moment copy.probe) plain
      ∙ ap (λ q. let note : Noted = record { key = record { src = f.src; seq = q }; moment = moment; probe = copy.probe } in Some note) same

  as_judged : (place : Place) (port : ℕ) (copy : Carried) (f : Fields) (seq moment : ℕ) (h : Handling) (passes : Exits) (next : ℕ) → number_of h.source next ≡ Some seq → views.came copy ≡ Ok (Plain f) →
      note_if (is_noted (judged_as h passes next) interlink) (key_handled place (Arrive port copy) (judged_as h passes next)) moment copy.probe
      ≡ Some (record { key = record { src = f.src; seq = seq }; moment = moment; probe = copy.probe })
  as_judged place port copy f seq moment h passes next is plain =
      judged_note place port copy f seq moment passes.up (ports passes) (cause_of h.wants passes) (number_of h.source next) is plain

  noted_so : (x : Entry) (past : List Entry) (port : ℕ) (copy : Carried) (seq : ℕ) (f : Fields) → Answered s.capacity (owner_of (run_in s w) k) x past → x.event ≡ Arrive port copy → number_in x.outcome ≡ Some seq →
      views.came copy ≡ Ok (Plain f) →
      note_of (owner_of (run_in s w) k) interlink x past ≡ Some (record { key = record { src = f.src; seq = seq }; moment = now (x ∷ past); probe = copy.probe })
  noted_so x past port copy seq f ok e number plain =
      let ok_here : answer s.capacity (owner_of (run_in s w) k) past (now (x ∷ past)) (Arrive port copy) ≡ Ok x.outcome = subst (λ ev. answer s.capacity (owner_of (run_in s w) k) past (now (x ∷ past)) ev ≡ Ok x.outcome) e ok in
      let j = judged s.capacity (owner_of (run_in s w) k) past (now (x ∷ past)) port copy x.outcome ok_here in
      ap (λ ev. note_if (is_noted x.outcome interlink) (key_handled (place_of (run_in s w) k) ev x.outcome) (now (x ∷ past)) (probe_handled (record { node = k; place = length past }) ev)) e
      ∙ (ap (λ out. note_if (is_noted out interlink) (key_handled (place_of (run_in s w) k) (Arrive port copy) out) (now (x ∷ past)) copy.probe) j.out
      ∙ as_judged (place_of (run_in s w) k) port copy f seq (now (x ∷ past)) j.h
      (passing (record_of.remembers s.capacity (owner_of (run_in s w) k) past (now (x ∷ past))) j.h.wants.exits (views.came copy)) (next_number past) (sym (ap number_in j.out) ∙ number) plain)

  -- of another node's send no more are numbered than are noted on the interlink
  no_more : (send : Probe) → (send.node ≡ k → ⊥) → (h : List Entry) → Each (Answered s.capacity (owner_of (run_in s w) k)) h → Each (λ x past. OfArrival (IsOfSend (run_in s w)) x.event) h →
      Each (λ x past. FromEdge (run_in s w) closed net k x.event) h → count_by (is_of send) (numbered_sends k h) ≤ count_by (is_note_of (Some send)) (notes (owner_of (run_in s w) k) interlink h)
  no_more send other [] legal of_send from = omega arith
  no_more send other (x ∷ past) legal of_send from = by_number (is_some (number_in x.outcome)) refl (no_more send other past legal.1 of_send.1 from.1)
    where
      Less : Type 0
      Less = count_by (is_of send) (numbered_sends k past) ≤ count_by (is_note_of (Some send)) (notes (owner_of (run_in s w) k) interlink past)

      never_less : (o : Option Noted) → count_by (is_note_of (Some send)) (notes (owner_of (run_in s w) k) interlink past) ≤ count_by (is_note_of (Some send)) (cons_option o (notes (owner_of (run_in s w) k) interlink past))
      never_less None = omega arith
      never_less (Some note) = let more = count_more (is_note_of (Some send)) note (notes (owner_of (run_in s w) k) interlink past) in omega (arith, more)

      own : Less → count_by (is_of send) (Some (record { node = k; place = length past }) ∷ numbered_sends k past) ≤ count_by (is_note_of (Some send)) (notes (owner_of (run_in s w) k) interlink (x ∷ past))
      own less =
          let not_mine : is_of send (Some (record { node = k; place = length past })) ≡ false =
          ap (λ b. b && (length past == send.place)) (ne_eqb k send.node (λ e. other (sym e))) in
          let more = count_more (is_of send) (Some (record { node = k; place = length past })) (numbered_sends k past) in
          let none = zero_if (is_of send (Some (record { node = k; place = length past }))) not_mine in
          let grows = never_less (note_of (owner_of (run_in s w) k) interlink x past) in
          omega (arith, less, more, none, grows)

      came : (port : ℕ) (copy : Carried) → x.event ≡ Arrive port copy → (seq : ℕ) → number_in x.outcome ≡ Some seq → Less →
          count_by (is_of send) (copy.probe ∷ numbered_sends k past) ≤ count_by (is_note_of (Some send)) (notes (owner_of (run_in s w) k) interlink (x ∷ past))
      came port copy e seq number less =
          let i = numbered_copy x past port copy seq legal.0 of_send.0 from.0 e number in
          let noted = noted_so x past port copy seq i.frame legal.0 e number i.plain in
          let a = count_more (is_of send) copy.probe (numbered_sends k past) in
          let b = count_more (is_note_of (Some send)) (record { key = record { src = i.frame.src; seq = seq }; moment = now (x ∷ past); probe = copy.probe }) (notes (owner_of (run_in s w) k) interlink past) in
          let f = ap (λ (o : Option Noted). count_by (is_note_of (Some send)) (cons_option o (notes (owner_of (run_in s w) k) interlink past))) noted in
          omega (arith, less, a, b, f)

      by_event : (event : Event) → x.event ≡ event → is_some (number_in x.outcome) ≡ true → Less →
          count_by (is_of send) (probe_handled (record { node = k; place = length past }) event ∷ numbered_sends k past) ≤ count_by (is_note_of (Some send)) (notes (owner_of (run_in s w) k) interlink (x ∷ past))
      by_event (Send from dst vlan ethertype payload) e some less = own less
      by_event (Supervise about) e some less = own less
      by_event Age e some less = own less
      by_event (Arrive port copy) e some less = let number = the_number (number_in x.outcome) some in came port copy e number.0 number.1 less

      by_number : (b : Bool) → is_some (number_in x.outcome) ≡ b → Less →
          count_by (is_of send) (if_numbered b (probe_handled (record { node = k; place = length past }) x.event) (numbered_sends k past)) ≤ count_by (is_note_of (Some send)) (notes (owner_of (run_in s w) k) interlink (x ∷ past))
      by_number true some less = by_event x.event refl some less
      by_number false none less = let grows = never_less (note_of (owner_of (run_in s w) k) interlink x past) in omega (arith, less, grows)

  -- of an own send one at most, and none before it is sent
  record IsOwnOnce (send : Probe) (h : List Entry) : Type 0 where
    once : count_by (is_of send) (numbered_sends k h) ≤ 1
    not_yet : length h ≤ send.place → count_by (is_of send) (numbered_sends k h) ≡ 0

  own_sent : (send : Probe) (x : Entry) (past : List Entry) → IsOwnOnce send past →
      (count_by (is_of send) (Some (record { node = k; place = length past }) ∷ numbered_sends k past) ≤ 1)
      × (suc (length past) ≤ send.place → count_by (is_of send) (Some (record { node = k; place = length past }) ∷ numbered_sends k past) ≡ 0)
  own_sent send x past rest =
      let more = count_more (is_of send) (Some (record { node = k; place = length past })) (numbered_sends k past) in
      let once = rest.once in
      ⊎_elim
      (λ mine.
      let both : Some (let p : Probe = record { node = k; place = length past } in p) ≡ Some send = probe_is send (Some (record { node = k; place = length past })) mine in
      let here : Probe = record { node = k; place = length past } in
      let same : here ≡ send = cc in
      let place : length past ≡ send.place = ap (λ (q : Probe). q.place) same in
      let one = one_if (is_of send (Some (record { node = k; place = length past }))) mine in
      let none = rest.not_yet (omega (arith, place)) in
      (omega (arith, more, one, none), λ low. absurd (omega (arith, low, place))))
      (λ other.
      let zero_more = zero_if (is_of send (Some (record { node = k; place = length past }))) other in
      (omega (arith, more, once, zero_more), λ low. let none = rest.not_yet (omega (arith, low)) in omega (arith, more, zero_more, none)))
      (cases_Bool (is_of send (Some (record { node = k; place = length past }))))

  own_once : (send : Probe) → send.node ≡ k → (h : List Entry) → Each (Answered s.capacity (owner_of (run_in s w) k)) h → Each (λ x past. OfArrival (IsOfSend (run_in s w)) x.event) h →
      Each (λ x past. FromEdge (run_in s w) closed net k x.event) h → IsOwnOnce send h
  own_once send own [] legal of_send from = record { once = omega arith; not_yet = λ low. refl }
  own_once send own (x ∷ past) legal of_send from =
      let both = by_number (is_some (number_in x.outcome)) refl (own_once send own past legal.1 of_send.1 from.1) in
      record { once = both.0; not_yet = both.1 }
    where
      Goal : List (Option Probe) → Type 0
      Goal probes = (count_by (is_of send) probes ≤ 1) × (suc (length past) ≤ send.place → count_by (is_of send) probes ≡ 0)

      by_event : (event : Event) → x.event ≡ event → is_some (number_in x.outcome) ≡ true → IsOwnOnce send past → Goal (probe_handled (record { node = k; place = length past }) event ∷ numbered_sends k past)
      by_event (Send from' dst vlan ethertype payload) e some rest = own_sent send x past rest
      by_event (Supervise about) e some rest = own_sent send x past rest
      by_event Age e some rest = own_sent send x past rest
      by_event (Arrive port copy) e some rest =
          let number = the_number (number_in x.outcome) some in
          let i = numbered_copy x past port copy number.0 legal.0 of_send.0 from.0 e number.1 in
          let more = count_more (is_of send) copy.probe (numbered_sends k past) in
          let once = rest.once in
          ⊎_elim
          (λ mine.
          let station = (from_station copy i send (probe_is send copy.probe mine)).0 in
          let here : is_station (place_of (run_in s w) k) ≡ true = subst (λ (m : ℕ). is_station (place_of (run_in s w) m) ≡ true) own station in
          absurd (box_no_station (place_of (run_in s w) k) i.box here))
          (λ other.
          let zero_more = zero_if (is_of send copy.probe) other in
          (omega (arith, more, once, zero_more), λ low. let none = rest.not_yet (omega (arith, low)) in omega (arith, more, zero_more, none)))
          (cases_Bool (is_of send copy.probe))
        where
          box_no_station : (place : Place) → is_redbox place ≡ true → is_station place ≡ true → ⊥
          box_no_station (Danh mac mode) box station = false≢true box
          box_no_station (RedBox mac mode) box station = false≢true station
          box_no_station QuadBox box station = false≢true box
          box_no_station (Station macs) box station = false≢true box

      by_number : (b : Bool) → is_some (number_in x.outcome) ≡ b → IsOwnOnce send past → Goal (if_numbered b (probe_handled (record { node = k; place = length past }) x.event) (numbered_sends k past))
      by_number true some rest = by_event x.event refl some rest
      by_number false none rest = (rest.once, λ low. rest.not_yet (omega (arith, low)))

  numbered_once : (send : Probe) → count_by (is_of send) (numbered_sends k (record_at w k)) ≤ 1
  numbered_once send =
      ⊎_elim
      (λ own. (own_once send own (record_at w k) (answers s w told.own k) (of_sends s w told.own k) edge).once)
      (λ other.
      let less = no_more send other (record_at w k) (answers s w told.own k) (of_sends s w told.own k) edge in
      let noted = (noted_once (run_in s w) k send interlink (record_at w k) (answers s w told.own k) (of_sends s w told.own k) (is_record s w told.own k).first (remembers s clear time n w told k)).once in
      omega (arith, less, noted))
      (cases_eq send.node k)

  pub few_numbered : numbered_in (record_at w k) ≤ 65536
  few_numbered =
      let all = all_counted time (record_at w k) (told.timed k) (answers s w told.own k) (of_sends s w told.own k) edge in
      let apart = all_apart s w {X = Option Probe} (λ p. p) (numbered_sends k (record_at w k)) (all_weaker IsCounted (λ (p : Option Probe). IsNamed s w p) (numbered_sends k (record_at w k)) (λ p i. i.named) all) numbered_once in
      let most = pigeon (λ (p : Option Probe) (y : SendSpan). is_span_of s w p y) counts (numbered_sends k (record_at w k)) (spans s) apart
      (all_weaker IsCounted (λ (p : Option Probe). list_any (λ y. is_span_of s w p y && counts y) (spans s) ≡ true) (numbered_sends k (record_at w k)) (λ p i. i.listed) all) in
      let many = as_many k (record_at w k) in
      let few = counted_few s clear k in
      omega (arith, most, many, few)

pub few_numbers : (s : Setup) → IsClear s → (time n : ℕ) (w : World) → IsTold s time n w → IsClosed (run_in s w) → IsNetwork (run_in s w) → FewNumbers (run_in s w)
few_numbers s clear time n w told closed net k inside =
    subst (λ (h : List Entry). numbered_in h ≤ 65536) (sym (past_is s.capacity s.links w k)) (few_numbered s clear time n w told closed net k inside)
