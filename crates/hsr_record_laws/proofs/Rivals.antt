-- Where few sends come between, nothing that is needed is forgotten.
use Rattle.std.proofs.Common.{◌≡◌, ℕ, ◌+◌, ◌-◌, ◌<◌, ◌≤◌, nat_lt, Bool, true, false, ◌&&◌, cond, if◌then◌else◌, List, [], ◌∷◌, length, take, count_by, Option, Some, refl, sym, ◌∙◌, subst, arith, ⊎_elim, zero, suc, lt-ltb}
use Rattle.std.specs.List.{list_any, AllByRecursion}
use Rattle.std.proofs.lemmas.Bool.{false≢true, cases_Bool, and_from, or_cases, or_left, or_right, or_parts, false_from_ne_true}
use Rattle.hsr_frame.specs.Egress.{Egress}
use Rattle.hsr_node.specs.Record.{Each, Noted, notes, now, remembered}
use Rattle.hsr_node.specs.declared.entry.Entry.{Entry}
use Rattle.hsr_node.specs.declared.event.Event.{Event}
use Rattle.hsr_node.specs.declared.event.Event.TheVariants.{Send, Supervise, Arrive, Age}
use Rattle.hsr_node.specs.declared.event.Probe.{Probe}
use Rattle.hsr_run_laws.specs.Closed.{IsOfSend}
use Rattle.hsr_run_laws.specs.Premises.{NumbersFirst, Remembers, is_note_of}
use Rattle.hsr_run_laws.specs.Run.{Run, owner_of}
use Rattle.hsr_run_laws.proofs.Lists.{all_take, all_weaker, any_filtered, any_so, count_more, count_positive, none_all, one_if}
use Rattle.hsr_run_laws.proofs.NotedOnce.{noted_once}
use Rattle.hsr_run_laws.proofs.Pigeon.{Apart, pigeon}
use Rattle.hsr_run_laws.proofs.Records.{Answered, OfArrival, legal_each}
use Rattle.hsr_record_laws.specs.Rivals.{AreRivals, ComesOfSend, HasRivals, IsAmong, IsRecordOf, RemembersEach, RivalsKeep, since}

-- ---- notes of different sends

abbrev of_one : Noted → Probe → Bool
of_one note send = is_note_of (Some send) note

-- none of these notes is of a send of which another note is
apart_from : (note : Noted) (zs : List Noted) → ((y : Probe) → of_one note y ≡ true → list_any (is_note_of (Some y)) zs ≡ false) →
    AllByRecursion (λ z. (y : Probe) → of_one z y ≡ true → of_one note y ≡ true → ⊥) zs
apart_from note [] none = tt
apart_from note (z ∷ zs) none = (
  λ y zy ny. false≢true (sym (or_parts (is_note_of (Some y) z) (list_any (is_note_of (Some y)) zs) (none y ny)).0 ∙ zy),
  apart_from note zs (λ y ny. (or_parts (is_note_of (Some y) z) (list_any (is_note_of (Some y)) zs) (none y ny)).1),
)

notes_apart : (ns : List Noted) → ((y : Probe) → count_by (is_note_of (Some y)) ns ≤ 1) → Apart of_one ns
notes_apart [] once = tt
notes_apart (n ∷ ns) once = (
  apart_from n ns (λ y mine. false_from_ne_true (list_any (is_note_of (Some y)) ns) (λ some.
      let more = count_positive (is_note_of (Some y)) ns some in
      let counted = count_more (is_note_of (Some y)) n ns in
      let one = one_if (is_note_of (Some y) n) mine in
      let most = once y in
      omega arith)),
  notes_apart ns (λ y. let counted = count_more (is_note_of (Some y)) n ns in let most = once y in omega arith),
)

-- ---- the notes from the first one of a send on

module _ (send : Probe) where
  -- no more notes of any send are among them
  pub count_since : (p : Noted → Bool) (ns : List Noted) → count_by p (since send ns) ≤ count_by p ns
  count_since p [] = omega arith
  count_since p (n ∷ ns) = step (list_any (is_note_of (Some send)) (n ∷ ns)) (count_since p ns)
    where
      step : (b : Bool) → count_by p (since send ns) ≤ count_by p ns → count_by p (if b then n ∷ since send ns else []) ≤ count_by p (n ∷ ns)
      step true rest = let a = count_more p n (since send ns) in let b = count_more p n ns in omega arith
      step false rest = omega arith

  -- each note of the send is among them
  pub mine_in : (P : Noted → Type 0) (ns : List Noted) → AllByRecursion P (since send ns) → AllByRecursion (λ n. is_note_of (Some send) n ≡ true → P n) ns
  mine_in P [] all = tt
  mine_in P (n ∷ ns) all = step (list_any (is_note_of (Some send)) (n ∷ ns)) refl (mine_in P ns) all
    where
      step : (b : Bool) → list_any (is_note_of (Some send)) (n ∷ ns) ≡ b → (AllByRecursion P (since send ns) → AllByRecursion (λ n. is_note_of (Some send) n ≡ true → P n) ns) →
          AllByRecursion P (if b then n ∷ since send ns else []) → AllByRecursion (λ n. is_note_of (Some send) n ≡ true → P n) (n ∷ ns)
      step true is rest all = (λ mine. all.0, rest all.1)
      step false is rest all =
          all_weaker (λ m. is_note_of (Some send) m ≡ false) (λ m. is_note_of (Some send) m ≡ true → P m) (n ∷ ns)
          (λ m none mine. absurd (false≢true (sym none ∙ mine))) (none_all (is_note_of (Some send)) (n ∷ ns) is)

  -- one of them is among as many of the newest
  pub in_front : (count : ℕ) (ns : List Noted) → length (since send ns) ≤ count → list_any (is_note_of (Some send)) ns ≡ true → list_any (is_note_of (Some send)) (take count ns) ≡ true
  in_front count [] few some = absurd (false≢true some)
  in_front zero (n ∷ ns) few some =
      let P : Bool → Type 0 = λ b. length (if b then n ∷ since send ns else []) ≤ 0 in
      let none : length (n ∷ since send ns) ≤ 0 = subst P some few in
      absurd (omega (arith, none))
  in_front (suc count) (n ∷ ns) few some =
      let P : Bool → Type 0 = λ b. length (if b then n ∷ since send ns else []) ≤ suc count in
      let all : length (n ∷ since send ns) ≤ suc count = subst P some few in
      ⊎_elim
      (λ here. or_left (is_note_of (Some send) n) (list_any (is_note_of (Some send)) (take count ns)) here)
      (λ later. or_right (is_note_of (Some send) n) (list_any (is_note_of (Some send)) (take count ns)) (in_front count ns (omega (arith, all)) later))
      (or_cases (is_note_of (Some send) n) (list_any (is_note_of (Some send)) ns) some)

-- ---- they are no more than the rivals

count_all : {Y : Type 0} (ys : List Y) → count_by (λ y. true) ys ≤ length ys
count_all [] = omega arith
count_all {Y} (y ∷ ys) =
    let rest = count_all ys in
    let counted = count_more {X = Y} (λ y. true) y ys in
    let one = one_if true refl in
    omega (arith, rest, counted, one)

few_since : (capacity at : ℕ) (rivals : List Probe) (send : Probe) (ns : List Noted) → ((y : Probe) → count_by (is_note_of (Some y)) ns ≤ 1) →
    AreRivals capacity rivals at (since send ns) → length (since send ns) ≤ capacity
few_since capacity at rivals send ns once are =
    let apart = notes_apart (since send ns) (λ y. let less = count_since send (is_note_of (Some y)) ns in let most = once y in omega arith) in
    let each = all_weaker (IsAmong rivals at) (λ n. list_any (λ y. of_one n y && true) rivals ≡ true) (since send ns)
    (λ n among. any_so (λ y. is_note_of (Some y) n) (λ y. of_one n y && true) rivals (λ y is. and_from (of_one n y) true is refl) among.0) are.1 in
    let most = pigeon of_one (λ y. true) (since send ns) rivals apart each in
    let all = count_all rivals in
    let few = are.0 in
    omega (arith, most, all, few)

-- so a note of the send is remembered
still : (capacity at : ℕ) (rivals : List Probe) (send : Probe) (ns : List Noted) → ((y : Probe) → count_by (is_note_of (Some y)) ns ≤ 1) →
    AreRivals capacity rivals at (since send ns) → list_any (is_note_of (Some send)) ns ≡ true → list_any (is_note_of (Some send)) (remembered capacity at ns) ≡ true
still capacity at rivals send ns once are some =
    any_filtered (is_note_of (Some send)) (λ n. nat_lt (at - n.moment) 400000) (take capacity ns)
    (all_take (λ n. is_note_of (Some send) n ≡ true → nat_lt (at - n.moment) 400000 ≡ true) capacity ns
    (all_weaker (λ n. is_note_of (Some send) n ≡ true → IsAmong rivals at n) (λ n. is_note_of (Some send) n ≡ true → nat_lt (at - n.moment) 400000 ≡ true) ns
    (λ n h mine. let young : at < n.moment + 400000 = (h mine).1 in lt-ltb (at - n.moment) 400000 (omega (arith, young))) (mine_in send (IsAmong rivals at) ns are.1)))
    (in_front send capacity ns (few_since capacity at rivals send ns once are) some)

-- ---- a record

of_arrival : (run : Run) (event : Event) → ComesOfSend run event → OfArrival (IsOfSend run) event
of_arrival run (Send from dst vlan ethertype payload) h = tt
of_arrival run (Supervise about) h = tt
of_arrival run (Arrive port copy) h = h
of_arrival run Age h = tt

pub each_of_arrival : (run : Run) (h : List Entry) → Each (λ x past. ComesOfSend run x.event) h → Each (λ x past. OfArrival (IsOfSend run) x.event) h
each_of_arrival run [] all = tt
each_of_arrival run (x ∷ past) all = (of_arrival run x.event all.0, each_of_arrival run past all.1)

record_keeps : (run : Run) (k : ℕ) (rivals : Probe → List Probe) (h : List Entry) → Each (Answered run.capacity (owner_of run k)) h → Each (λ x past. OfArrival (IsOfSend run) x.event) h →
    Each (λ x past. NumbersFirst run (owner_of run k) past x.event x.outcome) h → Each (λ x past. HasRivals run k rivals past (now (x ∷ past)) x.event) h → RemembersEach run k h
record_keeps run k rivals [] legal of_send first has = tt
record_keeps run k rivals (x ∷ past) legal of_send first has =
    let rest = record_keeps run k rivals past legal.1 of_send.1 first.1 has.1 in
    (by_event x.event of_send.0 has.0 rest, rest)
  where
    by_event : (event : Event) → OfArrival (IsOfSend run) event → HasRivals run k rivals past (now (x ∷ past)) event → RemembersEach run k past →
        Remembers run.capacity (owner_of run k) past (now (x ∷ past)) event
    by_event (Send from dst vlan ethertype payload) o r rest = tt
    by_event (Supervise about) o r rest = tt
    by_event Age o r rest = tt
    by_event (Arrive port copy) o r rest = λ ring e wanted some.
        let P : Option Probe → Type 0 = λ p. list_any (is_note_of p) (notes (owner_of run k) e past) ≡ true in
        let Q : Option Probe → Type 0 = λ p. list_any (is_note_of p) (remembered run.capacity (now (x ∷ past)) (notes (owner_of run k) e past)) ≡ true in
        subst Q (sym o.named)
        (still run.capacity (now (x ∷ past)) (rivals o.send) o.send (notes (owner_of run k) e past)
        (λ send. (noted_once run k send e past legal.1 of_send.1 first.1 rest).once)
        (r o.send o.named e) (subst P o.named some))

pub rivals_keep : RivalsKeep
rivals_keep run k rivals h is has =
    record_keeps run k rivals h (legal_each run.capacity (owner_of run k) h is.legal) (each_of_arrival run h is.of_send) is.first has
