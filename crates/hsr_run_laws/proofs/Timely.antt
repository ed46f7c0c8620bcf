-- The notes of a run within budget: each is of a send that is listed, and was made in time.
use Rattle.std.proofs.Common.{◌≡◌, ◌⊎◌, ℕ, ◌+◌, ◌<◌, ◌≤◌, ◌==◌, Bool, true, false, ◌&&◌, if◌then◌else◌, List, [], ◌∷◌, length, Some, None, Ok, refl, ap, ◌∙◌, subst, arith, inl, inr, ⊎_elim, zero, suc, eq-eqb, eqb-true, ne_eqb}
use Rattle.std.specs.List.{list_any, AllByRecursion, cons_option}
use Rattle.std.proofs.lemmas.List.Folds.{list_any-append}
use Rattle.std.proofs.lemmas.Bool.{or_left, or_right, and_from, false≢true, cases_eq, cond-true, cond-false}
use Rattle.hsr_frame.specs.Egress.{Egress}
use Rattle.hsr_node.specs.Flow.{send_at, sent_by}
use Rattle.hsr_node.specs.declared.sending.Sending.{Sending}
use Rattle.hsr_node.specs.Record.{Each, Noted, Owner, answer, is_noted, notes, now}
use Rattle.hsr_node.specs.declared.entry.Entry.{Entry}
use Rattle.hsr_node.specs.declared.event.Event.{Event}
use Rattle.hsr_node.specs.declared.event.Event.TheVariants.{Send, Supervise, Arrive, Age}
use Rattle.hsr_node.specs.declared.event.Outcome.{Outcome}
use Rattle.hsr_node.specs.declared.event.Outcome.TheVariants.{Aged}
use Rattle.hsr_node.specs.declared.event.Probe.{Probe}
use Rattle.hsr_node.specs.declared.place.Place.{Place}
use Rattle.hsr_run_laws.specs.Budget.{IsInTime, is_sending, moment_at, moment_of, sends_at, sends_below, sends_of, sent_in}
use Rattle.hsr_run_laws.specs.Budget as budget
use Rattle.hsr_run_laws.specs.Closed.{IsOfSend, IsSend}
use Rattle.hsr_run_laws.specs.Run.{Run, is_of, owner_of, past_of, place_of}
use Rattle.hsr_run_laws.proofs.Records.{Answered, OfArrival, all_notes_more}
use Rattle.hsr_run_laws.proofs.Same.{any_one_more, is_of_itself}
use Rattle.hsr_run_laws.proofs.Noting.{IsNoteOf, NoteCame, came_with, note_from}

-- a note is of a send of the node's own, at this entry, or of what came
pub note_kind : (capacity : ℕ) (owner : Owner) (e : Egress) (x : Entry) (past : List Entry) (note : Noted) → Answered capacity owner x past → IsNoteOf owner e x past note →
    ((note.probe ≡ Some (record { node = owner.number; place = length past })) × (is_sending x.event ≡ true)) ⊎ NoteCame capacity owner e x past note
note_kind capacity owner e x past note ok n = by_event x.event refl (note_from capacity owner e x past note ok n)
  where
    Own : Type 0
    Own = note.probe ≡ Some (record { node = owner.number; place = length past })

    Goal : Type 0
    Goal = (Own × (is_sending x.event ≡ true)) ⊎ NoteCame capacity owner e x past note

    by_event : (event : Event) → x.event ≡ event → Own ⊎ NoteCame capacity owner e x past note → Goal
    by_event event is (inr came) = inr came
    by_event (Send from dst vlan ethertype payload) is (inl own) = inl (own, ap is_sending is)
    by_event (Supervise about) is (inl own) = inl (own, ap is_sending is)
    by_event Age is (inl own) =
        let A : Event → Type 0 = λ ev. answer capacity owner past (now (x ∷ past)) ev ≡ Ok x.outcome in
        let aged : Ok Aged ≡ Ok x.outcome = subst A is ok in
        let same : Aged ≡ x.outcome = cc in
        absurd (false≢true (ap (λ o. is_noted o e) same ∙ n.noted))
    by_event (Arrive port copy) is (inl own) = inr (came_with capacity owner e x past note port copy ok n is)

-- whether the entry at a place is a send
abbrev pub is_send_at : ℕ → List Entry → Bool
is_send_at n [] = false
is_send_at n (x ∷ past) = if n == length past then is_sending x.event else is_send_at n past

pub sent_is_sending : (place : Place) (event : Event) (outcome : Outcome) (s : Sending) → sent_by place event outcome ≡ Some s → is_sending event ≡ true
sent_is_sending place (Send from dst vlan ethertype payload) outcome s h = refl
sent_is_sending place (Supervise about) outcome s h = refl
sent_is_sending place (Arrive port copy) outcome s h = absurd cc
sent_is_sending place Age outcome s h = absurd cc

pub send_is_at : (place : Place) (n : ℕ) (s : Sending) (h : List Entry) → send_at place n h ≡ Some s → is_send_at n h ≡ true
send_is_at place n s [] is = absurd cc
send_is_at place n s (x ∷ past) is = by_test (n == length past) is (send_is_at place n s past)
  where
    by_test : (t : Bool) → (if t then sent_by place x.event x.outcome else send_at place n past) ≡ Some s → (send_at place n past ≡ Some s → is_send_at n past ≡ true) →
        (if t then is_sending x.event else is_send_at n past) ≡ true
    by_test true is rest = sent_is_sending place x.event x.outcome s is
    by_test false is rest = rest is

-- the entry at its place
abbrev pub StandsAt : List Entry → Entry → List Entry → Type 0
StandsAt whole x past = (is_send_at (length past) whole ≡ is_sending x.event) × (moment_at (length past) whole ≡ now (x ∷ past))

each_stands : (whole h : List Entry) → ((n : ℕ) → n < length h → (is_send_at n whole ≡ is_send_at n h) × (moment_at n whole ≡ moment_at n h)) → Each (StandsAt whole) h
each_stands whole [] agree = tt
each_stands whole (x ∷ past) agree =
    let here = agree (length past) (omega arith) in
    let is = eq-eqb (length past) (length past) refl in (
      (here.0 ∙ cond-true (length past == length past) _ _ is, here.1 ∙ cond-true (length past == length past) _ _ is),
      each_stands whole past (λ n below.
          let r = agree n (omega arith) in
          let other = ne_eqb n (length past) (λ e. omega arith) in
          (r.0 ∙ cond-false (n == length past) _ _ other, r.1 ∙ cond-false (n == length past) _ _ other)),
    )

pub all_stand : (h : List Entry) → Each (StandsAt h) h
all_stand h = each_stands h h (λ n below. (refl, refl))

-- ---- each send is listed, with its moment

abbrev pub is_sent : Probe → ℕ → budget.Sent → Bool
is_sent send moment s = is_of send (Some s.send) && s.moment == moment

send_listed : (k n : ℕ) (h : List Entry) → is_send_at n h ≡ true → list_any (is_sent (record { node = k; place = n }) (moment_at n h)) (sends_at k h) ≡ true
send_listed k n [] is = absurd (false≢true is)
send_listed k n (x ∷ past) is = step (n == length past) (eqb-true n (length past)) is (send_listed k n past)
  where
    first : (b : Bool) → b ≡ true → n ≡ length past →
        list_any (is_sent (record { node = k; place = n }) (now (x ∷ past)))
        (cons_option (if b then Some (let s : budget.Sent = record { send = record { node = k; place = length past }; moment = now (x ∷ past) } in s) else None) (sends_at k past)) ≡ true
    first false e same = absurd (false≢true e)
    first true e same =
        let P : ℕ → Type 0 = λ m. is_of (record { node = k; place = n }) (Some (record { node = k; place = m })) ≡ true in
        or_left _ _ (and_from _ _ (subst P same (is_of_itself (record { node = k; place = n }))) (eq-eqb (now (x ∷ past)) (now (x ∷ past)) refl))

    step : (b : Bool) → (b ≡ true → n ≡ length past) → (if b then is_sending x.event else is_send_at n past) ≡ true →
        (is_send_at n past ≡ true → list_any (is_sent (record { node = k; place = n }) (moment_at n past)) (sends_at k past) ≡ true) →
        list_any (is_sent (record { node = k; place = n }) (if b then now (x ∷ past) else moment_at n past)) (sends_at k (x ∷ past)) ≡ true
    step true same is rest = first (is_sending x.event) is (same refl)
    step false same is rest = any_one_more (is_sent (record { node = k; place = n }) (moment_at n past)) (sent_in k x past) (sends_at k past) (rest is)

listed_below : (run : Run) (p : budget.Sent → Bool) (k m : ℕ) → k < m → list_any p (sends_at k (past_of run k)) ≡ true → list_any p (sends_below run m) ≡ true
listed_below run p k zero below some = absurd (omega arith)
listed_below run p k (suc m) below some =
    list_any-append p (sends_at m (past_of run m)) (sends_below run m) ∙
    ⊎_elim
    (λ same. let P : ℕ → Type 0 = λ j. list_any p (sends_at j (past_of run j)) ≡ true in or_left _ _ (subst P same some))
    (λ other. or_right _ _ (listed_below run p k m (lower other) some))
    (cases_eq k m)
  where
    lower : (k ≡ m → ⊥) → k < m
    lower other = omega arith

pub is_listed : (run : Run) (send : Probe) → send.node < length run.places → is_send_at send.place (past_of run send.node) ≡ true → list_any (is_sent send (moment_of run send)) (sends_of run) ≡ true
is_listed run send below is = listed_below run (is_sent send (moment_of run send)) send.node (length run.places) below (send_listed send.node send.place (past_of run send.node) is)

pub send_is_listed : (run : Run) (send : Probe) (s : Sending) → IsSend run send s → list_any (is_sent send (moment_of run send)) (sends_of run) ≡ true
send_is_listed run send s is = is_listed run send is.0 (send_is_at (place_of run send.node) send.place s (past_of run send.node) is.1)

-- ---- a note of a send that is listed, and in time

pub record IsTimely (run : Run) (note : Noted) : Type 0 where
  pub send : Probe
  pub named : note.probe ≡ Some send
  pub listed : list_any (is_sent send (moment_of run send)) (sends_of run) ≡ true
  pub after : moment_of run send ≤ note.moment
  pub before : note.moment < moment_of run send + 400000

pub notes_timely : (run : Run) (k : ℕ) (e : Egress) (h : List Entry) → k < length run.places → Each (Answered run.capacity (owner_of run k)) h → Each (StandsAt (past_of run k)) h →
    Each (λ x past. OfArrival (IsOfSend run) x.event) h → Each (λ x past. IsInTime run (now (x ∷ past)) x.event) h → AllByRecursion (IsTimely run) (notes (owner_of run k) e h)
notes_timely run k e [] below legal stands of_send in_time = tt
notes_timely run k e (x ∷ past) below legal stands of_send in_time =
    all_notes_more (IsTimely run) (owner_of run k) e x past one (notes_timely run k e past below legal.1 stands.1 of_send.1 in_time.1)
  where
    one : (note : Noted) → IsNoteOf (owner_of run k) e x past note → IsTimely run note
    one note n =
        let m = n.moment in
        ⊎_elim
        (λ own.
        let at = stands.0 in
        let when = at.1 in
        record {
          send = record { node = k; place = length past };
          named = own.0;
          listed = is_listed run (record { node = k; place = length past }) below (at.0 ∙ own.1);
          after = omega (arith, when, m);
          before = omega (arith, when, m);
        })
        (λ c.
        let E : Event → Type 0 = OfArrival (IsOfSend run) in
        let T : Event → Type 0 = λ ev. IsInTime run (now (x ∷ past)) ev in
        let o = subst E c.is of_send.0 in
        let t : IsInTime run (now (x ∷ past)) (Arrive c.port c.copy) = subst T c.is in_time.0 in
        let bounds = t o.send o.named in
        record {
          send = o.send;
          named = c.probe ∙ o.named;
          listed = send_is_listed run o.send o.sending o.is_send;
          after = omega (arith, bounds.0, m);
          before = omega (arith, bounds.1, m);
        })
        (note_kind run.capacity (owner_of run k) e x past note legal.0 n)
