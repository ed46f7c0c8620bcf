-- Within budget no number is mistaken in a ring.
use Rattle.std.proofs.Common.{◌≡◌, ◌⊎◌, ℕ, ◌+◌, ◌-◌, ◌%◌, ◌<◌, ◌≤◌, ◌==◌, nat_lt, Bool, true, false, not, ◌&&◌, if◌then◌else◌, List, [], ◌∷◌, length, take, filter, cond, count_by, Option, Some, None, Result, Ok, Err, refl, sym, ap, ◌∙◌, subst, arith, inl, inr, ⊎_elim, eq-eqb, eqb-true, ne_eqb, ltb-true}
use Rattle.std.specs.Option.{option_or}
use Rattle.std.specs.List.{list_any, AllByRecursion}
use Rattle.std.proofs.lemmas.Bool.{false≢true, and_parts, not-true, cases_order, false_from_ne_true}
use Rattle.hsr_frame.specs.Egress.{Egress}
use Rattle.hsr_frame.specs.Grammar.{Fields}
use Rattle.hsr_tag.specs.Tag.{TaggedFields}
use Rattle.hsr_tag.specs.declared.seen.Seen.TheVariants.{Plain, Tagged}
use Rattle.hsr_duptable.specs.Key.{Key, is_same_key}
use Rattle.hsr_forwarding.specs.Arrival.{key_of}
use Rattle.hsr_node.specs.Flow.{send_at}
use Rattle.hsr_node.specs.Record.{Each, Noted, Owner, answer, key_in, next_number, notes, now, own_key, remembered}
use Rattle.hsr_node.specs.declared.entry.Entry.{Entry}
use Rattle.hsr_node.specs.declared.event.Carried.{Carried}
use Rattle.hsr_node.specs.declared.event.Event.{Event}
use Rattle.hsr_node.specs.declared.event.Event.TheVariants.{Send, Supervise, Arrive, Age}
use Rattle.hsr_node.specs.declared.event.Outcome.{Outcome}
use Rattle.hsr_node.specs.declared.event.Probe.{Probe}
use Rattle.hsr_node.specs.declared.place.Place.{Place}
use Rattle.hsr_node.specs.declared.place.Place.TheVariants.{Danh}
use Rattle.hsr_run_laws.specs.Budget.{BudgetTells, IsBudgetHeld, IsInTime, is_sending, is_within, moment_at, moment_of, sends_of}
use Rattle.hsr_run_laws.specs.Closed.{IsClosed, IsOfSend}
use Rattle.hsr_run_laws.specs.Premises.{IsRing, KnowsOwn, is_mistaken, is_note_of, mac_at}
use Rattle.hsr_run_laws.specs.Run.{Run, given, is_of, is_same_send, past_of, place_of}
use Rattle.hsr_run_laws.proofs.Danh.{danh, mode_at}
use Rattle.hsr_run_laws.proofs.InBudget.{notes_below}
use Rattle.hsr_run_laws.proofs.Keys.{each_of_send, tagged_of_send}
use Rattle.hsr_run_laws.proofs.Lists.{all_both, all_filter, all_take, any_so, any_with, filter_holds}
use Rattle.hsr_run_laws.proofs.Numbers.{count_below, danh_number, later_number, numbered, numbered_at, send_numbered, sends_between}
use Rattle.hsr_run_laws.proofs.Passed.{danh_numbers_none}
use Rattle.hsr_run_laws.proofs.Records.{Answered, OfArrival, all_notes_more}
use Rattle.hsr_run_laws.proofs.SentNumbers.{each_counted, own_key_is, seq_at}
use Rattle.hsr_run_laws.proofs.Ring.{legal, owner_is, places}
use Rattle.hsr_run_laws.proofs.Same.{is_of_itself, probes_same, same_key}
use Rattle.hsr_run_laws.proofs.Timely.{IsTimely, StandsAt, all_stand, is_listed, is_send_at, is_sent, note_kind, notes_timely, send_is_at}
use Rattle.hsr_run_laws.proofs.Views.{Came, came}
use Rattle.hsr_run_laws.proofs.Noting.{CameNumbered, IsNoteOf}
use Rattle.hsr_run_laws.proofs.Wanted.{source_of}

module _ (run : Run) (macs : List (List ℕ)) (closed : IsClosed run) (ring : IsRing run macs) (budget : IsBudgetHeld run) where
  -- a send has this source and number
  pub record IsKey (send : Probe) (key : Key) : Type 0 where
    pub below : send.node < length macs
    pub is : is_send_at send.place (past_of run send.node) ≡ true
    pub src : key.src ≡ mac_at macs send.node
    pub seq : key.seq ≡ numbered_at send.place (past_of run send.node) % 65536

  copy_key : (copy : Carried) (o : IsOfSend run copy) (t : TaggedFields) → came copy ≡ Ok (Tagged t) → IsKey o.send (key_of t)
  copy_key copy o t tagged =
      let below : o.send.node < length macs = omega (arith, o.is_send.0, places run macs closed ring) in
      let M : Option Probe → Type 0 = λ p. is_of o.send p ≡ true in
      let two = tagged_of_send run o.send o.sending copy o (subst M (sym o.named) (is_of_itself o.send)) o.is_send t tagged in
      let place = ap (λ (w : Owner). w.place) (owner_is run macs closed ring o.send.node below) in
      let P : Place → Type 0 = λ p. send_at p o.send.place (past_of run o.send.node) ≡ Some o.sending in
      let there = subst P place o.is_send.1 in
      let source : o.sending.frame.src ≡ mac_at macs o.send.node = source_of (Danh (mac_at macs o.send.node) (mode_at run o.send.node)) o.send.place (past_of run o.send.node) o.sending there in
      let seq = seq_at run.capacity o.send.node (mac_at macs o.send.node) (mode_at run o.send.node) o.send.place o.sending (past_of run o.send.node) (legal run macs closed ring o.send.node below) there in
      let number : Some (numbered_at o.send.place (past_of run o.send.node) % 65536) ≡ Some t.seq = ap (λ n. option_or n (given run o.send)) (sym seq) ∙ two.1 in
      let equal : numbered_at o.send.place (past_of run o.send.node) % 65536 ≡ t.seq = cc in
      record {
        below = below;
        is = send_is_at (place_of run o.send.node) o.send.place o.sending (past_of run o.send.node) o.is_send.1;
        src = ap (λ (f : Fields). f.src) two.0 ∙ source;
        seq = sym equal;
      }

  -- two sends of a node with one number are further apart than a table remembers
  wraps : (k lo hi : ℕ) → k < length macs → is_send_at lo (past_of run k) ≡ true → is_send_at hi (past_of run k) ≡ true → lo < hi → moment_at hi (past_of run k) < moment_at lo (past_of run k) + 800000 →
      numbered_at lo (past_of run k) % 65536 ≡ numbered_at hi (past_of run k) % 65536 → ⊥
  wraps k lo hi inside first second before close same =
      let ok = legal run macs closed ring k inside in
      let in_range : k < length run.places = omega (arith, places run macs closed ring) in
      let there = send_numbered run.capacity k (mac_at macs k) (mode_at run k) hi (past_of run k) ok second in
      let more = later_number run.capacity k (mac_at macs k) (mode_at run k) lo hi (past_of run k) ok first before there.below in
      let some = sends_between run.capacity k (mac_at macs k) (mode_at run k) lo hi (moment_at lo (past_of run k)) 800000 (past_of run k) ok before there.below (Rattle.std.proofs.Common.le_refl _) close in
      let all = count_below run (is_within (moment_at lo (past_of run k)) 800000) k (length run.places) in_range in
      let at_start = any_so (is_sent (record { node = k; place = lo }) (moment_at lo (past_of run k))) (λ s. s.moment == moment_at lo (past_of run k)) (sends_of run)
      (λ s h. (and_parts (is_of (record { node = k; place = lo }) (Some s.send)) (s.moment == moment_at lo (past_of run k)) h).1)
      (is_listed run (record { node = k; place = lo }) in_range first) in
      let most = budget.not_crowded (moment_at lo (past_of run k)) at_start in
      omega (arith, closed.tables.1, same, more, some, all, most)

  one_send : (p q : Probe) (key : Key) → IsKey p key → IsKey q key → moment_of run q < moment_of run p + 800000 → moment_of run p < moment_of run q + 800000 → p ≡ q
  one_send p q key first second near close =
      let node = ring.differ p.node q.node first.below second.below (sym first.src ∙ second.src) in
      let S : ℕ → Type 0 = λ k. is_send_at q.place (past_of run k) ≡ true in
      let M : ℕ → Type 0 = λ k. moment_at q.place (past_of run k) < moment_of run p + 800000 in
      let N : ℕ → Type 0 = λ k. moment_of run p < moment_at q.place (past_of run k) + 800000 in
      let Q : ℕ → Type 0 = λ k. numbered_at p.place (past_of run p.node) % 65536 ≡ numbered_at q.place (past_of run k) % 65536 in
      let same = subst Q (sym node) (sym first.seq ∙ second.seq) in
      ⊎_elim
      (λ place. probes_same p q node place)
      (λ order. ⊎_elim
      (λ earlier. absurd (wraps p.node p.place q.place first.below first.is (subst S (sym node) second.is) earlier (subst M (sym node) near) same))
      (λ later. absurd (wraps p.node q.place p.place first.below (subst S (sym node) second.is) first.is later (subst N (sym node) close) (sym same)))
      order)
      (cases_order p.place q.place)

  -- ---- each note has the source and number of its send

  pub record IsKeyed (note : Noted) : Type 0 where
    pub send : Probe
    pub named : note.probe ≡ Some send
    pub key : IsKey send note.key

  notes_keyed : (k : ℕ) (e : Egress) (h : List Entry) → k < length macs → Each (Answered run.capacity (danh k (mac_at macs k) (mode_at run k))) h → Each (StandsAt (past_of run k)) h →
      Each (λ x past. numbered_at (length past) (past_of run k) ≡ numbered past) h → Each (λ x past. OfArrival (IsOfSend run) x.event) h → AllByRecursion IsKeyed (notes (danh k (mac_at macs k) (mode_at run k)) e h)
  notes_keyed k e [] below legal stands counted of_send = tt
  notes_keyed k e (x ∷ past) below legal stands counted of_send =
      all_notes_more IsKeyed (danh k (mac_at macs k) (mode_at run k)) e x past one (notes_keyed k e past below legal.1 stands.1 counted.1 of_send.1)
    where
      own_is : (note : Noted) → IsNoteOf (danh k (mac_at macs k) (mode_at run k)) e x past note → is_sending x.event ≡ true → (note.key.src ≡ mac_at macs k) × (note.key.seq ≡ next_number past)
      own_is note n is =
          let number = danh_number run.capacity k (mac_at macs k) (mode_at run k) past (now (x ∷ past)) x.event x.outcome legal.0 is in
          let key : Some (let made : Key = record { src = mac_at macs k; seq = next_number past } in made) ≡ Some note.key =
          ap (own_key (Some (mac_at macs k))) (sym number) ∙ (sym (own_key_is (mac_at macs k) (mode_at run k) x.event x.outcome is) ∙ n.key) in
          let made : Key = record { src = mac_at macs k; seq = next_number past } in
          let same : made ≡ note.key = cc in
          (ap (λ (q : Key). q.src) (sym same), ap (λ (q : Key). q.seq) (sym same))

      not_given : (key : Key) (port : ℕ) (copy : Carried) → CameNumbered port copy x.outcome key → answer run.capacity (danh k (mac_at macs k) (mode_at run k)) past (now (x ∷ past)) (Arrive port copy) ≡ Ok x.outcome → ⊥
      not_given key port copy m ok =
          danh_numbers_none run.capacity k (mac_at macs k) (mode_at run k) past (now (x ∷ past)) port copy m.up_too m.out_ports m.seq m.cause (ok ∙ ap (λ (o : Outcome). Ok o) m.out)

      one : (note : Noted) → IsNoteOf (danh k (mac_at macs k) (mode_at run k)) e x past note → IsKeyed note
      one note n =
          ⊎_elim
          (λ own.
          let two = own_is note n own.1 in
          let at = stands.0 in
          record {
            send = record { node = k; place = length past };
            named = own.0;
            key = record { below = below; is = at.0 ∙ own.1; src = two.0; seq = two.1 ∙ ap (λ m. m % 65536) (sym counted.0) };
          })
          (λ c.
          let E : Event → Type 0 = OfArrival (IsOfSend run) in
          let o : IsOfSend run c.copy = subst E c.is of_send.0 in
          let K : Key → Type 0 = λ q. IsKey o.send q in
          record {
            send = o.send;
            named = c.probe ∙ o.named;
            key = ⊎_elim
                (λ t. subst K (sym t.key_is) (copy_key c.copy o t.tagged t.is))
                (λ m. absurd (not_given note.key c.port c.copy m c.ok))
                c.how;
          })
          (note_kind run.capacity (danh k (mac_at macs k) (mode_at run k)) e x past note legal.0 n)

  -- ---- what is remembered with the source and number of an arrival is of its send

  knows_own : (k : ℕ) → k < length macs → (h : List Entry) → Each (Answered run.capacity (danh k (mac_at macs k) (mode_at run k))) h → Each (StandsAt (past_of run k)) h →
      Each (λ x past. numbered_at (length past) (past_of run k) ≡ numbered past) h → Each (λ x past. OfArrival (IsOfSend run) x.event) h → Each (λ x past. IsInTime run (now (x ∷ past)) x.event) h →
      Each (λ x past. KnowsOwn run.capacity (danh k (mac_at macs k) (mode_at run k)) past (now (x ∷ past)) x.event) h
  knows_own k below [] legal stands counted of_send in_time = tt
  knows_own k below (x ∷ past) legal stands counted of_send in_time =
      (by_event x.event of_send.0 in_time.0, knows_own k below past legal.1 stands.1 counted.1 of_send.1 in_time.1)
    where
      Fact : Noted → Type 0
      Fact note = IsTimely run note × (IsKeyed note × ((note.moment ≤ now past) × (nat_lt (now (x ∷ past) - note.moment) 400000 ≡ true)))

      facts : (e : Egress) → AllByRecursion Fact (remembered run.capacity (now (x ∷ past)) (notes (danh k (mac_at macs k) (mode_at run k)) e past))
      facts e =
          let kept = λ (P : Noted → Type 0) (all : AllByRecursion P (notes (danh k (mac_at macs k) (mode_at run k)) e past)).
          all_filter P (λ n. nat_lt (now (x ∷ past) - n.moment) 400000) (take run.capacity (notes (danh k (mac_at macs k) (mode_at run k)) e past)) (all_take P run.capacity (notes (danh k (mac_at macs k) (mode_at run k)) e past) all) in
          let in_range : k < length run.places = omega (arith, places run macs closed ring) in
          let T : Owner → Type 0 = λ o. Each (Answered run.capacity o) past in
          let U : Owner → Type 0 = λ o. AllByRecursion (IsTimely run) (notes o e past) in
          let owner = owner_is run macs closed ring k below in
          let timely = subst U owner (notes_timely run k e past in_range (subst T (sym owner) legal.1) stands.1 of_send.1 in_time.1) in
          all_both (IsTimely run) (λ (n : Noted). IsKeyed n × ((n.moment ≤ now past) × (nat_lt (now (x ∷ past) - n.moment) 400000 ≡ true))) (remembered run.capacity (now (x ∷ past)) (notes (danh k (mac_at macs k) (mode_at run k)) e past))
          (kept (IsTimely run) timely)
          (all_both IsKeyed (λ (n : Noted). (n.moment ≤ now past) × (nat_lt (now (x ∷ past) - n.moment) 400000 ≡ true)) (remembered run.capacity (now (x ∷ past)) (notes (danh k (mac_at macs k) (mode_at run k)) e past))
          (kept IsKeyed (notes_keyed k e past below legal.1 stands.1 counted.1 of_send.1))
          (all_both (λ (n : Noted). n.moment ≤ now past) (λ (n : Noted). nat_lt (now (x ∷ past) - n.moment) 400000 ≡ true) (remembered run.capacity (now (x ∷ past)) (notes (danh k (mac_at macs k) (mode_at run k)) e past))
          (kept (λ (n : Noted). n.moment ≤ now past) (notes_below (danh k (mac_at macs k) (mode_at run k)) e past))
          (filter_holds (λ n. nat_lt (now (x ∷ past) - n.moment) 400000) (take run.capacity (notes (danh k (mac_at macs k) (mode_at run k)) e past)))))

      key_here : (copy : Carried) (o : IsOfSend run copy) (key : Key) → key_in (came copy) None ≡ Some key → IsKey o.send key
      key_here copy o key h = by_came (came copy) refl h
        where
          by_came : (seen : Came) → came copy ≡ seen → key_in seen None ≡ Some key → IsKey o.send key
          by_came (Err fault) is h = absurd cc
          by_came (Ok (Plain frame)) is h = absurd cc
          by_came (Ok (Tagged t)) is h =
              let same : key_of t ≡ key = cc in
              let K : Key → Type 0 = λ q. IsKey o.send q in
              subst K same (copy_key copy o t is)

      same : (copy : Carried) (o : IsOfSend run copy) → IsInTime run (now (x ∷ past)) (Arrive 0 copy) → (key : Key) → key_in (came copy) None ≡ Some key → (note : Noted) → Fact note → is_same_key note.key key ≡ true →
          is_note_of copy.probe note ≡ true
      same copy o t key is note f h =
          let timely = f.0 in
          let keyed = (f.1).0 in
          let before = ((f.1).1).0 in
          let fresh = ltb-true (now (x ∷ past) - note.moment) 400000 ((f.1).1).1 in
          let bounds = t o.send o.named in
          let K : Key → Type 0 = λ q. IsKey keyed.send q in
          let one : timely.send ≡ keyed.send = let named = timely.named in let named' = keyed.named in let both : Some timely.send ≡ Some keyed.send = sym named ∙ named' in cc in
          let F : Probe → Type 0 = λ p. moment_of run p ≤ note.moment in
          let G : Probe → Type 0 = λ p. note.moment < moment_of run p + 400000 in
          let after = subst F one timely.after in
          let limit = subst G one timely.before in
          let equal = one_send o.send keyed.send key (key_here copy o key is) (subst K (same_key note.key key h) keyed.key)
          (omega (arith, bounds.0, bounds.1, before, fresh, after, limit)) (omega (arith, bounds.0, bounds.1, before, fresh, after, limit)) in
          let P : Option Probe → Type 0 = λ p. is_same_send p note.probe ≡ true in
          let Q : Option Probe → Type 0 = λ p. is_same_send (Some o.send) p ≡ true in
          let R : Probe → Type 0 = λ p. is_of o.send (Some p) ≡ true in
          subst P (sym o.named) (subst Q (sym keyed.named) (subst R equal (is_of_itself o.send)))

      by_event : (event : Event) → OfArrival (IsOfSend run) event → IsInTime run (now (x ∷ past)) event → KnowsOwn run.capacity (danh k (mac_at macs k) (mode_at run k)) past (now (x ∷ past)) event
      by_event (Send from dst vlan ethertype payload) o t = tt
      by_event (Supervise about) o t = tt
      by_event Age o t = tt
      by_event (Arrive port copy) o t = λ on_ring e wanted key is.
          false_from_ne_true (list_any (is_mistaken key copy.probe) (remembered run.capacity (now (x ∷ past)) (notes (danh k (mac_at macs k) (mode_at run k)) e past)))
          (λ bad.
          let found = any_with Fact (is_mistaken key copy.probe) (remembered run.capacity (now (x ∷ past)) (notes (danh k (mac_at macs k) (mode_at run k)) e past)) (facts e) bad in
          let parts = and_parts (is_same_key (found.0).key key) (not (is_note_of copy.probe found.0)) found.2 in
          false≢true (sym (not-true (is_note_of copy.probe found.0) parts.1) ∙ same copy o t key is found.0 found.1 parts.0))

pub budget_tells : BudgetTells
budget_tells run macs closed ring budget k below =
    let inside : k < length macs = omega (arith, places run macs closed ring) in
    let P : Owner → Type 0 = λ o. Each (λ x past. KnowsOwn run.capacity o past (now (x ∷ past)) x.event) (past_of run k) in
    subst P (sym (owner_is run macs closed ring k inside))
    (knows_own run macs closed ring budget k inside (past_of run k) (legal run macs closed ring k inside) (all_stand (past_of run k))
    (each_counted (past_of run k) (past_of run k) (λ n h. refl)) (each_of_send run closed k below) (budget.in_time k below))
