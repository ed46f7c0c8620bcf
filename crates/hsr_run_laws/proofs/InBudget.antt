-- Within budget nothing is forgotten that is needed.
use Rattle.std.proofs.Common.{◌≡◌, ℕ, ◌+◌, ◌-◌, ◌<◌, ◌≤◌, ◌==◌, nat_lt, Bool, true, false, ◌&&◌, ◌||◌, List, [], ◌∷◌, ◌++◌, length, take, drop, count_by, Option, Some, sym, ◌∙◌, subst, arith, ⊎_elim, zero, suc, eqb-true, lt-ltb, length-take, length-drop, take-append-drop}
use Rattle.std.specs.List.{list_any, AllByRecursion}
use Rattle.std.proofs.lemmas.List.Folds.{list_any-append}
use Rattle.std.proofs.lemmas.Bool.{false≢true, cases_Bool, and_parts, and_from, false_from_ne_true}
use Rattle.hsr_frame.specs.Egress.{Egress}
use Rattle.hsr_node.specs.Record.{Each, Noted, Owner, notes, now, remembered}
use Rattle.hsr_node.specs.declared.entry.Entry.{Entry}
use Rattle.hsr_node.specs.declared.event.Event.{Event}
use Rattle.hsr_node.specs.declared.event.Event.TheVariants.{Send, Supervise, Arrive, Age}
use Rattle.hsr_node.specs.declared.event.Probe.{Probe}
use Rattle.hsr_run_laws.specs.Budget.{BudgetKeeps, IsBudgetHeld, IsInTime, Sent, is_within, moment_of, sends_of}
use Rattle.hsr_run_laws.specs.Closed.{IsOfSend}
use Rattle.hsr_run_laws.specs.Premises.{NumbersFirst, Remembers, is_note_of}
use Rattle.hsr_run_laws.specs.Run.{Run, is_of, is_same_send, owner_of, past_of}
use Rattle.hsr_run_laws.proofs.Crowd.{in_window, no_window_crowded}
use Rattle.hsr_run_laws.proofs.Keys.{each_of_send}
use Rattle.hsr_run_laws.proofs.Lists.{all_both, all_drop, all_take, all_weaker, any_filtered, any_so, any_with, count_more, count_positive, none_all, one_if}
use Rattle.hsr_run_laws.proofs.NotedOnce.{noted_once}
use Rattle.hsr_run_laws.proofs.Pigeon.{Apart, pigeon}
use Rattle.hsr_run_laws.proofs.Records.{Answered, OfArrival, all_notes_more, legal_each, notes_more}
use Rattle.hsr_run_laws.proofs.Same.{is_of_itself, probe_is}
use Rattle.hsr_run_laws.proofs.Timely.{IsTimely, StandsAt, all_stand, is_sent, notes_timely}

-- ---- moments fall along a list of notes, newest first

abbrev Falls : List Noted → Type 0
Falls [] = Unit {0}
Falls (n ∷ ns) = AllByRecursion (λ (m : Noted). m.moment ≤ n.moment) ns × Falls ns

pub notes_below : (owner : Owner) (e : Egress) (h : List Entry) → AllByRecursion (λ (n : Noted). n.moment ≤ now h) (notes owner e h)
notes_below owner e [] = tt
notes_below owner e (x ∷ past) =
    all_notes_more (λ (n : Noted). n.moment ≤ now (x ∷ past)) owner e x past (λ note n. let m = n.moment in omega arith)
    (all_weaker (λ (n : Noted). n.moment ≤ now past) (λ (n : Noted). n.moment ≤ now (x ∷ past)) (notes owner e past) (λ n h. omega arith) (notes_below owner e past))

notes_fall : (owner : Owner) (e : Egress) (h : List Entry) → Falls (notes owner e h)
notes_fall owner e [] = tt
notes_fall owner e (x ∷ past) =
    let rest = notes_fall owner e past in
    notes_more Falls owner e x past
    (λ note n. (all_weaker (λ (m : Noted). m.moment ≤ now past) (λ (m : Noted). m.moment ≤ note.moment) (notes owner e past) (λ m h. let when = n.moment in omega arith) (notes_below owner e past), rest))
    rest

-- each note of the front is at least as late as each of the rest
front_later : (n : ℕ) (ns : List Noted) → Falls ns → AllByRecursion (λ (m : Noted). AllByRecursion (λ (l : Noted). m.moment ≤ l.moment) (take n ns)) (drop n ns)
front_later zero ns falls = everything ns
  where
    everything : (ns : List Noted) → AllByRecursion (λ (m : Noted). Unit {0}) ns
    everything [] = tt
    everything (n ∷ ns) = (tt, everything ns)
front_later (suc n) [] falls = tt
front_later (suc n) (x ∷ ns) falls =
    all_both (λ (m : Noted). m.moment ≤ x.moment) (λ (m : Noted). AllByRecursion (λ (l : Noted). m.moment ≤ l.moment) (take n ns)) (drop n ns) (all_drop (λ (m : Noted). m.moment ≤ x.moment) n ns falls.0) (front_later n ns falls.1)

-- ---- notes of different sends

abbrev of_one : Noted → Sent → Bool
of_one note s = is_same_send note.probe (Some s.send)

one_send : (note : Noted) (send : Probe) (s : Sent) → note.probe ≡ Some send → of_one note s ≡ true → s.send ≡ send
one_send note send s named h =
    let P : Option Probe → Type 0 = λ o. is_same_send o (Some s.send) ≡ true in
    let e = probe_is send (Some s.send) (subst P named h) in cc

is_note_named : (send : Probe) (note : Noted) → note.probe ≡ Some send → is_note_of (Some send) note ≡ true
is_note_named send note named = let P : Option Probe → Type 0 = λ o. is_of send o ≡ true in subst P (sym named) (is_of_itself send)

-- timely notes of which each send has one are of sends apart
notes_apart : (run : Run) (ns : List Noted) → AllByRecursion (IsTimely run) ns → ((send : Probe) → count_by (is_note_of (Some send)) ns ≤ 1) → Apart of_one ns
notes_apart run [] timely once = tt
notes_apart run (n ∷ ns) timely once =
    let mine = is_note_named timely.0.send n timely.0.named in
    let none = false_from_ne_true (list_any (is_note_of (Some timely.0.send)) ns) (λ some.
    let more = count_positive (is_note_of (Some timely.0.send)) ns some in
    let counted = count_more (is_note_of (Some timely.0.send)) n ns in
    let one = one_if (is_note_of (Some timely.0.send) n) mine in
    let most = once timely.0.send in
    omega arith) in (
      others ns timely.1 (none_all (is_note_of (Some timely.0.send)) ns none),
      notes_apart run ns timely.1 (λ send. let counted = count_more (is_note_of (Some send)) n ns in let most = once send in omega arith),
    )
  where
    others : (zs : List Noted) → AllByRecursion (IsTimely run) zs → AllByRecursion (λ z. is_note_of (Some timely.0.send) z ≡ false) zs →
        AllByRecursion (λ z. (y : Sent) → of_one z y ≡ true → of_one n y ≡ true → ⊥) zs
    others [] a b = tt
    others (z ∷ zs) a b = (
      (λ y zy ny.
          let same : a.0.send ≡ timely.0.send = sym (one_send z a.0.send y a.0.named zy) ∙ one_send n timely.0.send y timely.0.named ny in
          let P : Probe → Type 0 = λ p. z.probe ≡ Some p in
          false≢true (sym b.0 ∙ is_note_named timely.0.send z (subst P same a.0.named))),
      others zs a.1 b.1,
    )

apart_take : (n : ℕ) (ns : List Noted) → Apart of_one ns → Apart of_one (take n ns)
apart_take zero ns h = tt
apart_take (suc n) [] h = tt
apart_take (suc n) (x ∷ ns) h = (all_take (λ z. (y : Sent) → of_one z y ≡ true → of_one x y ≡ true → ⊥) n ns h.0, apart_take n ns h.1)

-- ---- within budget a send that was noted is still remembered

in_room : (run : Run) → IsBudgetHeld run → (ns : List Noted) (send : Probe) (at : ℕ) → AllByRecursion (IsTimely run) ns → Falls ns → AllByRecursion (λ (n : Noted). n.moment ≤ at) ns →
    ((send : Probe) → count_by (is_note_of (Some send)) ns ≤ 1) → moment_of run send ≤ at → at < moment_of run send + 400000 →
    list_any (is_note_of (Some send)) ns ≡ true → list_any (is_note_of (Some send)) (remembered run.capacity at ns) ≡ true
in_room run budget ns send at timely falls until once sent early some =
    ⊎_elim
    (λ found. any_filtered (is_note_of (Some send)) (λ n. nat_lt (at - n.moment) 400000) (take run.capacity ns) (young (take run.capacity ns) (all_take (IsTimely run) run.capacity ns timely)) found)
    (λ missing. absurd (crowded missing))
    (cases_Bool (list_any (is_note_of (Some send)) (take run.capacity ns)))
  where
    -- a note of this send isn't older than the send
    since : (note : Noted) → IsTimely run note → is_note_of (Some send) note ≡ true → moment_of run send ≤ note.moment
    since note t mine =
        let e : Some t.send ≡ Some send = sym t.named ∙ probe_is send note.probe mine in
        let same : t.send ≡ send = cc in
        let P : Probe → Type 0 = λ p. moment_of run p ≤ note.moment in
        subst P same t.after

    young : (xs : List Noted) → AllByRecursion (IsTimely run) xs → AllByRecursion (λ n. is_note_of (Some send) n ≡ true → nat_lt (at - n.moment) 400000 ≡ true) xs
    young [] a = tt
    young (n ∷ xs) a = ((λ mine. let s = since n a.0 mine in lt-ltb (at - n.moment) 400000 (omega (arith, s, early))), young xs a.1)

    windowed : (note : Noted) → IsTimely run note → moment_of run send ≤ note.moment → note.moment ≤ at →
        list_any (λ y. of_one note y && is_within (suc (moment_of run send) - 400000) 800000 y) (sends_of run) ≡ true
    windowed note t old before =
        any_so (is_sent t.send (moment_of run t.send)) (λ y. of_one note y && is_within (suc (moment_of run send) - 400000) 800000 y) (sends_of run)
        (λ y h.
        let parts = and_parts (is_of t.send (Some y.send)) (y.moment == moment_of run t.send) h in
        let P : Option Probe → Type 0 = λ o. is_same_send o (Some y.send) ≡ true in
        let e = eqb-true y.moment (moment_of run t.send) parts.1 in
        let a = t.after in
        let b = t.before in
        and_from _ _ (subst P (sym t.named) parts.0) (in_window (suc (moment_of run send) - 400000) 800000 y (omega (arith, e, a, b, old, before, early)) (omega (arith, e, a, b, old, before, early))))
        t.listed

    each_windowed : (xs : List Noted) → AllByRecursion (IsTimely run) xs → AllByRecursion (λ (n : Noted). n.moment ≤ at) xs → AllByRecursion (λ (l : Noted). moment_of run send ≤ l.moment) xs →
        AllByRecursion (λ x. list_any (λ y. of_one x y && is_within (suc (moment_of run send) - 400000) 800000 y) (sends_of run) ≡ true) xs
    each_windowed [] a b c = tt
    each_windowed (x ∷ xs) a b c = (windowed x a.0 c.0 b.0, each_windowed xs a.1 b.1 c.1)

    not_in_front : (note : Noted) → is_note_of (Some send) note ≡ true → (xs : List Noted) → AllByRecursion (λ x. is_note_of (Some send) x ≡ false) xs → AllByRecursion (IsTimely run) xs →
        AllByRecursion (λ z. (y : Sent) → of_one z y ≡ true → of_one note y ≡ true → ⊥) xs
    not_in_front note mine [] a b = tt
    not_in_front note mine (z ∷ zs) a b = (
      (λ y zy ny.
          let same : b.0.send ≡ send = sym (one_send z b.0.send y b.0.named zy) ∙ one_send note send y (probe_is send note.probe mine) ny in
          let P : Probe → Type 0 = λ p. z.probe ≡ Some p in
          false≢true (sym a.0 ∙ is_note_named send z (subst P same b.0.named))),
      not_in_front note mine zs a.1 b.1,
    )

    last : (a b : Bool) → a ≡ false → (a || b) ≡ true → b ≡ true
    last false b e h = h
    last true b e h = absurd (false≢true (sym e))

    some_left : (xs : List Noted) → list_any (is_note_of (Some send)) xs ≡ true → 0 < length xs
    some_left [] h = absurd (false≢true h)
    some_left (x ∷ xs) h = omega arith

    crowded : list_any (is_note_of (Some send)) (take run.capacity ns) ≡ false → ⊥
    crowded missing =
        let whole : list_any (is_note_of (Some send)) (take run.capacity ns ++ drop run.capacity ns) ≡ true =
        let P : List Noted → Type 0 = λ xs. list_any (is_note_of (Some send)) xs ≡ true in subst P (sym (take-append-drop run.capacity ns)) some in
        let later = last (list_any (is_note_of (Some send)) (take run.capacity ns)) (list_any (is_note_of (Some send)) (drop run.capacity ns)) missing
        (sym (list_any-append (is_note_of (Some send)) (take run.capacity ns) (drop run.capacity ns)) ∙ whole) in
        let found = any_with (λ (m : Noted). IsTimely run m × ((m.moment ≤ at) × AllByRecursion (λ (l : Noted). m.moment ≤ l.moment) (take run.capacity ns))) (is_note_of (Some send)) (drop run.capacity ns)
        (all_both (IsTimely run) (λ (m : Noted). (m.moment ≤ at) × AllByRecursion (λ (l : Noted). m.moment ≤ l.moment) (take run.capacity ns)) (drop run.capacity ns) (all_drop (IsTimely run) run.capacity ns timely)
        (all_both (λ (m : Noted). m.moment ≤ at) (λ (m : Noted). AllByRecursion (λ (l : Noted). m.moment ≤ l.moment) (take run.capacity ns)) (drop run.capacity ns) (all_drop (λ (m : Noted). m.moment ≤ at) run.capacity ns until) (front_later run.capacity ns falls))) later in
        let parts : ((found.0).moment ≤ at) × AllByRecursion (λ (l : Noted). (found.0).moment ≤ l.moment) (take run.capacity ns) = (found.1).1 in
        let old = since found.0 (found.1).0 found.2 in
        let front = all_take (IsTimely run) run.capacity ns timely in
        let front_until = all_take (λ (n : Noted). n.moment ≤ at) run.capacity ns until in
        let listed : list_any (λ y. of_one found.0 y && is_within (suc (moment_of run send) - 400000) 800000 y) (sends_of run) ≡ true = windowed (found.0) (found.1).0 old parts.0 in
        let all_listed = each_windowed (take run.capacity ns) front front_until
        (all_weaker (λ (l : Noted). (found.0).moment ≤ l.moment) (λ (l : Noted). moment_of run send ≤ l.moment) (take run.capacity ns) (λ l h. omega (arith, old, h)) parts.1) in
        let apart = apart_take run.capacity ns (notes_apart run ns timely once) in
        let most = pigeon of_one (is_within (suc (moment_of run send) - 400000) 800000) (found.0 ∷ take run.capacity ns) (sends_of run)
        (not_in_front found.0 found.2 (take run.capacity ns) (none_all (is_note_of (Some send)) (take run.capacity ns) missing) front, apart) (listed, all_listed) in
        let fits = no_window_crowded (sends_of run) run.capacity 800000 budget.not_crowded 800000 (suc (moment_of run send) - 400000) (omega arith) in
        let long = some_left (drop run.capacity ns) later in
        let length_front = length-take run.capacity ns in
        let length_rest = length-drop run.capacity ns in
        omega (arith, most, fits, long, length_front, length_rest)

-- ---- each record of a run within budget forgets nothing that is needed

record_keeps : (run : Run) → IsBudgetHeld run → (k : ℕ) → k < length run.places → (h : List Entry) → Each (Answered run.capacity (owner_of run k)) h → Each (StandsAt (past_of run k)) h →
    Each (λ x past. OfArrival (IsOfSend run) x.event) h → Each (λ x past. NumbersFirst run (owner_of run k) past x.event x.outcome) h → Each (λ x past. IsInTime run (now (x ∷ past)) x.event) h →
    Each (λ x past. Remembers run.capacity (owner_of run k) past (now (x ∷ past)) x.event) h
record_keeps run budget k below [] legal stands of_send first in_time = tt
record_keeps run budget k below (x ∷ past) legal stands of_send first in_time =
    let rest = record_keeps run budget k below past legal.1 stands.1 of_send.1 first.1 in_time.1 in
    (by_event x.event of_send.0 in_time.0 rest, rest)
  where
    by_event : (event : Event) → OfArrival (IsOfSend run) event → IsInTime run (now (x ∷ past)) event → Each (λ x past. Remembers run.capacity (owner_of run k) past (now (x ∷ past)) x.event) past →
        Remembers run.capacity (owner_of run k) past (now (x ∷ past)) event
    by_event (Send from dst vlan ethertype payload) o t rest = tt
    by_event (Supervise about) o t rest = tt
    by_event Age o t rest = tt
    by_event (Arrive port copy) o t rest = λ ring e wanted some.
        let bounds = t o.send o.named in
        let P : Option Probe → Type 0 = λ p. list_any (is_note_of p) (notes (owner_of run k) e past) ≡ true in
        let Q : Option Probe → Type 0 = λ p. list_any (is_note_of p) (remembered run.capacity (now (x ∷ past)) (notes (owner_of run k) e past)) ≡ true in
        subst Q (sym o.named)
        (in_room run budget (notes (owner_of run k) e past) o.send (now (x ∷ past))
        (notes_timely run k e past below legal.1 stands.1 of_send.1 in_time.1)
        (notes_fall (owner_of run k) e past)
        (all_weaker (λ (n : Noted). n.moment ≤ now past) (λ (n : Noted). n.moment ≤ now (x ∷ past)) (notes (owner_of run k) e past) (λ n h. omega arith) (notes_below (owner_of run k) e past))
        (λ send. (noted_once run k send e past legal.1 of_send.1 first.1 rest).once)
        bounds.0 bounds.1 (subst P o.named some))

pub budget_keeps : BudgetKeeps
budget_keeps run closed first budget k below =
    record_keeps run budget k below (past_of run k) (legal_each run.capacity (owner_of run k) (past_of run k) (closed.legal k below)) (all_stand (past_of run k))
    (each_of_send run closed k below) (first k below) (budget.in_time k below)
