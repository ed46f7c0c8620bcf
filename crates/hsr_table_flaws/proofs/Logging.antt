-- What is kept of a node tells of its past, entry by entry.
use Rattle.std.proofs.Common.{◌≡◌, ℕ, ◌≤◌, Bool, max, if◌then◌else◌, List, [], ◌∷◌, length, reverse, Option, Some, None, refl, sym, ap, ◌∙◌, subst, arith}
use Rattle.std.specs.Prelude.{is_some}
use Rattle.std.specs.List.{cons_option, list_any}
use Rattle.std.proofs.lemmas.List.{reverse-append, reverse-reverse}
use Rattle.std.proofs.Math.Nat.{le-max_left}
use Rattle.hsr_frame.specs.Egress.{Egress, up, a, b, c, d, has_exit, no_exits}
use Rattle.hsr_frame.specs.declared.egress.Exits.{Exits}
use Rattle.hsr_duptable.specs.Key.{Key}
use Rattle.hsr_node.specs.Record.{Noted, Owner, is_noted, key_handled, knows, note_if, note_of, notes, now, probe_handled}
use Rattle.hsr_node.specs.declared.entry.Entry.{Entry}
use Rattle.hsr_node.specs.declared.event.Event.{Event}
use Rattle.hsr_node.specs.declared.event.Event.TheVariants.{Age, Arrive, Send, Supervise}
use Rattle.hsr_node.specs.declared.event.Outcome.{Outcome}
use Rattle.hsr_node.specs.declared.event.Outcome.TheVariants.{Aged, Judged, Life, Sent}
use Rattle.hsr_node.specs.declared.event.Probe.{Probe}
use Rattle.hsr_tables.specs.Proxies.{Proxies, is_known, no_proxies}
use Rattle.hsr_run_laws.specs.Premises.{is_note_of}
use Rattle.hsr_network_laws.specs.Late.{is_numbered_late, was_noted}
use Rattle.hsr_table_demand.specs.Read.{heard_in, noted_at, wanted_in}
use Rattle.hsr_table_demand.proofs.Hearing.{heard_last, known_after, stations_after}
use Rattle.hsr_table_demand.proofs.Sufficing.{up_to_later}
use Rattle.hsr_table_flaws.specs.Looked.{IsLogOf, IsLoggedAfter, IsReadyFor, any_wanted, came_in, forgets_by, forgets_of, is_late_by, lates_of, marks_at, mistakes_by, mistakes_of, moment_of, read_by, was_marked}
use Rattle.hsr_table_demand.specs.Needs.{AreUpTo}
use Rattle.hsr_table_flaws.specs.Places.{is_gone, is_mixed_up, noted_after}
use Rattle.hsr_table_flaws.specs.declared.log.Log.{Log}
use Rattle.hsr_table_flaws.proofs.Placing.{noted_up_to}

-- ---- one more entry

abbrev pub here_of : Owner → List Entry → Probe
here_of owner past = record { node = owner.number; place = length past }

-- what has no number isn't noted
note_same : (o : Option Key) (outcome : Outcome) (e : Egress) (m : ℕ) (p : Option Probe) →
    note_if (has_exit (if is_some o then noted_at outcome else no_exits) e) o m p ≡ note_if (is_noted outcome e) o m p
note_same None outcome e m p = refl
note_same (Some key) outcome up m p = refl
note_same (Some key) outcome a m p = refl
note_same (Some key) outcome b m p = refl
note_same (Some key) outcome c m p = refl
note_same (Some key) outcome d m p = refl

turned : (xs : List Noted) (o : Option Noted) → noted_after (reverse xs) o ≡ reverse (cons_option o xs)
turned xs None = refl
turned xs (Some note) = sym (reverse-append (note ∷ []) xs)

ready_at : (log : Log) (m : ℕ) → IsReadyFor log m → (e : Egress) → AreUpTo m (reverse (marks_at log e))
ready_at log m r up = r.at_up
ready_at log m r a = r.at_a
ready_at log m r b = r.at_b
ready_at log m r c = r.at_c
ready_at log m r d = r.at_d

-- what is kept goes on to be up to the effective moment of the next entry
pub ready_later : (log : Log) (stations : Proxies) (at moment : ℕ) → moment ≡ max log.moment at → IsReadyFor log log.moment → IsReadyFor (record log { moment = moment; stations = stations }) moment
ready_later log stations at moment is r =
    let later : log.moment ≤ moment = omega (arith, is) in
    record {
      at_up = up_to_later log.moment moment (reverse log.up) later r.at_up;
      at_a = up_to_later log.moment moment (reverse log.a) later r.at_a;
      at_b = up_to_later log.moment moment (reverse log.b) later r.at_b;
      at_c = up_to_later log.moment moment (reverse log.c) later r.at_c;
      at_d = up_to_later log.moment moment (reverse log.d) later r.at_d;
    }

pub log_more : (owner : Owner) (past : List Entry) (old new : Log) (here : Probe) (x : Entry) → IsLogOf owner past old → here ≡ record { node = owner.number; place = length past } →
    IsLoggedAfter old owner.place here x new → IsLogOf owner (x ∷ past) new
log_more owner past old new here x is at_here after = record {
  moment = after.moment ∙ moment;
  stations = after.stations ∙ stations_after owner.place past x old.moment old.stations is.moment is.stations;
  marks = marks;
  aged = record {
    stations =
        let heard = heard_last owner.place old.moment (moment_of old x) x.event old.stations is.aged.stations (le-max_left old.moment x.at) in
        let same = ap (λ (s : Proxies). s.last) after.stations in
        let at = after.moment in
        omega (arith, heard, same, at);
    marks = record { at_up = aged up; at_a = aged a; at_b = aged b; at_c = aged c; at_d = aged d };
  };
}
  where
    moment : moment_of old x ≡ now (x ∷ past)
    moment = ap (λ n. max n x.at) is.moment

    marks : (e : Egress) → marks_at new e ≡ reverse (notes owner e (x ∷ past))
    marks e =
        let key = key_handled owner.place x.event x.outcome in
        after.noted e
        ∙ (ap (λ ms. noted_after ms (note_if (has_exit (read_by old owner.place here x).noted e) key (moment_of old x) (probe_handled here x.event))) (is.marks e)
        ∙ (ap (noted_after (reverse (notes owner e past))) (note_same key x.outcome e (moment_of old x) (probe_handled here x.event))
        ∙ (ap (λ m. noted_after (reverse (notes owner e past)) (note_if (is_noted x.outcome e) key m (probe_handled here x.event))) moment
        ∙ (ap (λ p. noted_after (reverse (notes owner e past)) (note_if (is_noted x.outcome e) key (now (x ∷ past)) (probe_handled p x.event))) at_here
        ∙ turned (notes owner e past) (note_of owner e x past)))))

    aged : (e : Egress) → AreUpTo new.moment (reverse (marks_at new e))
    aged e =
        let key = key_handled owner.place x.event x.outcome in
        subst (λ m. AreUpTo m (reverse (marks_at new e))) (sym after.moment)
        (subst (λ ms. AreUpTo (moment_of old x) (reverse ms)) (sym (after.noted e))
        (noted_up_to old.moment x.at (marks_at old e) (has_exit (read_by old owner.place here x).noted e) key (probe_handled here x.event) (ready_at old old.moment is.aged.marks e)))

-- ---- what an entry is found to forget or mistake

pub any_same : (exits : Exits) (f g : Egress → Bool) → ((e : Egress) → f e ≡ g e) → any_wanted exits f ≡ any_wanted exits g
any_same exits f g same = λ i. any_wanted exits (λ e. same e i)

module _ (capacity : ℕ) (owner : Owner) (past : List Entry) (log : Log) (here : Probe) (x : Entry) (is : IsLogOf owner past log) (at_here : here ≡ record { node = owner.number; place = length past }) where
  moment_is : moment_of log x ≡ now (x ∷ past)
  moment_is = ap (λ n. max n x.at) is.moment

  known_is : is_known (moment_of log x) (heard_in owner.place (moment_of log x) x.event log.stations).heard ≡ knows owner.place past (now (x ∷ past)) x.event
  known_is = known_after owner.place past x log.moment log.stations is.moment is.stations

  marks_back : (e : Egress) → reverse (marks_at log e) ≡ notes owner e past
  marks_back e = ap reverse (is.marks e) ∙ reverse-reverse (notes owner e past)

  pub forgets_same : forgets_by capacity log (read_by log owner.place here x) (moment_of log x) ≡ forgets_of capacity owner (x ∷ past)
  forgets_same =
      ap (λ k. any_wanted (wanted_in owner.place k x.event) (λ e. is_gone capacity (moment_of log x) (probe_handled here x.event) (reverse (marks_at log e)))) known_is
      ∙ (ap (λ n. any_wanted (wanted_in owner.place (knows owner.place past (now (x ∷ past)) x.event) x.event) (λ e. is_gone capacity n (probe_handled here x.event) (reverse (marks_at log e)))) moment_is
      ∙ (ap (λ p. any_wanted (wanted_in owner.place (knows owner.place past (now (x ∷ past)) x.event) x.event) (λ e. is_gone capacity (now (x ∷ past)) (probe_handled p x.event) (reverse (marks_at log e)))) at_here
      ∙ any_same (wanted_in owner.place (knows owner.place past (now (x ∷ past)) x.event) x.event)
      (λ e. is_gone capacity (now (x ∷ past)) (probe_handled (here_of owner past) x.event) (reverse (marks_at log e)))
      (λ e. is_gone capacity (now (x ∷ past)) (probe_handled (here_of owner past) x.event) (notes owner e past))
      (λ e. ap (is_gone capacity (now (x ∷ past)) (probe_handled (here_of owner past) x.event)) (marks_back e))))

  pub mistakes_same : mistakes_by capacity log (read_by log owner.place here x) (came_in x.event) (moment_of log x) ≡ mistakes_of capacity owner (x ∷ past)
  mistakes_same =
      ap (λ k. any_wanted (wanted_in owner.place k x.event) (λ e. is_mixed_up capacity (moment_of log x) (came_in x.event) (probe_handled here x.event) (reverse (marks_at log e)))) known_is
      ∙ (ap (λ n. any_wanted (wanted_in owner.place (knows owner.place past (now (x ∷ past)) x.event) x.event) (λ e. is_mixed_up capacity n (came_in x.event) (probe_handled here x.event) (reverse (marks_at log e)))) moment_is
      ∙ (ap (λ p. any_wanted (wanted_in owner.place (knows owner.place past (now (x ∷ past)) x.event) x.event) (λ e. is_mixed_up capacity (now (x ∷ past)) (came_in x.event) (probe_handled p x.event) (reverse (marks_at log e)))) at_here
      ∙ any_same (wanted_in owner.place (knows owner.place past (now (x ∷ past)) x.event) x.event)
      (λ e. is_mixed_up capacity (now (x ∷ past)) (came_in x.event) (probe_handled (here_of owner past) x.event) (reverse (marks_at log e)))
      (λ e. is_mixed_up capacity (now (x ∷ past)) (came_in x.event) (probe_handled (here_of owner past) x.event) (notes owner e past))
      (λ e. ap (is_mixed_up capacity (now (x ∷ past)) (came_in x.event) (probe_handled (here_of owner past) x.event)) (marks_back e))))

-- ---- what an entry is found to number late

module _ (owner : Owner) (past : List Entry) (log : Log) (is : IsLogOf owner past log) where
  marked_same : (send : Option Probe) → was_marked log send ≡ was_noted owner send past
  marked_same send = λ i. list_any (λ e. list_any (is_note_of send) (back e i)) (up ∷ a ∷ b ∷ c ∷ d ∷ [])
    where
      back : (e : Egress) → reverse (marks_at log e) ≡ notes owner e past
      back e = ap reverse (is.marks e) ∙ reverse-reverse (notes owner e past)

  late_by : (event : Event) (outcome : Outcome) → is_late_by log event outcome ≡ is_numbered_late owner past event outcome
  late_by (Arrive port copy) (Judged up_too ports (Some seq) cause) = marked_same copy.probe
  late_by (Arrive port copy) (Judged up_too ports None cause) = refl
  late_by (Arrive port copy) (Sent seq ports) = refl
  late_by (Arrive port copy) (Life seq life ports) = refl
  late_by (Arrive port copy) Aged = refl
  late_by (Send from dst vlan kind payload) outcome = refl
  late_by (Supervise about) outcome = refl
  late_by Age outcome = refl

  pub late_same : (x : Entry) → is_late_by log x.event x.outcome ≡ lates_of 0 owner (x ∷ past)
  late_same x = late_by x.event x.outcome

pub log_start : (owner : Owner) (log : Log) → log.moment ≡ 0 → log.stations ≡ no_proxies → ((e : Egress) → marks_at log e ≡ []) → IsLogOf owner [] log
log_start owner log moment stations marks = record {
  moment = moment;
  stations = stations;
  marks = marks;
  aged = record {
    stations = let last = ap (λ (s : Proxies). s.last) stations in omega (arith, last);
    marks = record { at_up = none up; at_a = none a; at_b = none b; at_c = none c; at_d = none d };
  };
}
  where
    none : (e : Egress) → AreUpTo log.moment (reverse (marks_at log e))
    none e = subst (λ ms. AreUpTo log.moment (reverse ms)) (sym (marks e)) tt
