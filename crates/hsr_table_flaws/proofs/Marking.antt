-- What is kept of a node tells where each send was noted, entry by entry.
use Rattle.std.proofs.Common.{◌≡◌, ◌⊎◌, ℕ, ◌<◌, Bool, true, false, ◌&&◌, ◌||◌, List, [], ◌∷◌, length, Option, Some, None, refl, sym, ap, ◌∙◌, subst, ⊎_elim}
use Rattle.std.specs.Prelude.{is_some, slice_index_or, slice_set}
use Rattle.std.specs.List.{cons_option, list_any}
use Rattle.std.proofs.lemmas.Bool.{and_from, cases_eq, false≢true, false_from_ne_true, or_cases, or_left, or_right}
use Rattle.std.proofs.lemmas.List.{get_or-set_other, get_or-set_same, length-set}
use Rattle.hsr_frame.specs.Egress.{Egress, up, a, b, c, d, has_exit, no_exits}
use Rattle.hsr_frame.specs.declared.egress.Exits.{Exits}
use Rattle.hsr_node.specs.Record.{Noted, Owner, is_noted, note_of, notes, number_in, probe_handled}
use Rattle.hsr_node.specs.declared.entry.Entry.{Entry}
use Rattle.hsr_node.specs.declared.event.Event.{Event}
use Rattle.hsr_node.specs.declared.event.Event.TheVariants.{Send, Supervise, Arrive, Age}
use Rattle.hsr_node.specs.declared.event.Probe.{Probe}
use Rattle.hsr_node.specs.declared.event.Outcome.{Outcome}
use Rattle.hsr_node.specs.declared.event.Outcome.TheVariants.{Sent, Life, Judged, Aged}
use Rattle.hsr_run_laws.specs.Premises.{is_note_of}
use Rattle.hsr_run_laws.proofs.Lists.{any_with}
use Rattle.hsr_run_laws.proofs.Noting.{IsNoteOf, new_note}
use Rattle.hsr_run_laws.proofs.Same.{probe_is}
use Rattle.hsr_network_laws.specs.Late.{is_numbered_late, was_noted}
use Rattle.hsr_table_demand.specs.Read.{noted_at}
use Rattle.hsr_table_flaws.proofs.Logging.{here_of}
use Rattle.hsr_table_flaws.specs.Clear.{AreMarked, IsMarked, IsNew, all_exits, is_odd, joined, mark_place, meet}

-- ---- egresses

noted_has : (outcome : Outcome) (e : Egress) → has_exit (noted_at outcome) e ≡ is_noted outcome e
noted_has outcome up = refl
noted_has outcome a = refl
noted_has outcome b = refl
noted_has outcome c = refl
noted_has outcome d = refl

joined_has : (x y : Exits) (e : Egress) → has_exit (joined x y) e ≡ (has_exit x e || has_exit y e)
joined_has x y up = refl
joined_has x y a = refl
joined_has x y b = refl
joined_has x y c = refl
joined_has x y d = refl

met : (x y : Exits) (e : Egress) → has_exit x e ≡ true → has_exit y e ≡ true → meet x y ≡ true
met x y up p q = or_left _ _ (or_left _ _ (or_left _ _ (or_left _ _ (and_from x.up y.up p q))))
met x y a p q = or_left _ _ (or_left _ _ (or_left _ _ (or_right (x.up && y.up) _ (and_from x.a y.a p q))))
met x y b p q = or_left _ _ (or_left _ _ (or_right ((x.up && y.up) || (x.a && y.a)) _ (and_from x.b y.b p q)))
met x y c p q = or_left _ _ (or_right (((x.up && y.up) || (x.a && y.a)) || (x.b && y.b)) _ (and_from x.c y.c p q))
met x y d p q = or_right ((((x.up && y.up) || (x.a && y.a)) || (x.b && y.b)) || (x.c && y.c)) _ (and_from x.d y.d p q)

-- what is odd, by an egress
all_has : (e : Egress) → has_exit all_exits e ≡ true
all_has up = refl
all_has a = refl
all_has b = refl
all_has c = refl
all_has d = refl

odd_if : (mark noted : Exits) (is_numbered : Bool) (e : Egress) → is_odd mark noted is_numbered ≡ false → has_exit mark e ≡ true → has_exit noted e ≡ true → ⊥
odd_if mark noted true e even here there = false≢true (sym even ∙ met mark all_exits e here (all_has e))
odd_if mark noted false e even here there = false≢true (sym even ∙ met mark noted e here there)

-- ---- one more entry

same_place : (n m : ℕ) → Some n ≡ Some m → n ≡ m
same_place n m e = cc

-- where nothing that is noted meets what is kept, the entry notes what wasn't noted there
pub new_if : (owner : Owner) (x : Entry) (past : List Entry) (starts : List ℕ) (marks : List Exits) (at : ℕ) → AreMarked owner past starts marks →
    mark_place starts (length marks) (probe_handled (here_of owner past) x.event) ≡ Some at → is_odd (slice_index_or marks at no_exits) (noted_at x.outcome) (is_some (number_in x.outcome)) ≡ false → IsNew owner x past
new_if owner x past starts marks at marked is even = λ e noted.
    false_from_ne_true (list_any (is_note_of (probe_handled (here_of owner past) x.event)) (notes owner e past)) (λ some. by_probe e noted (probe_handled (here_of owner past) x.event) is some)
  where
    by_probe : (e : Egress) → is_noted x.outcome e ≡ true → (o : Option Probe) → mark_place starts (length marks) o ≡ Some at → list_any (is_note_of o) (notes owner e past) ≡ true → ⊥
    by_probe e noted None is some = absurd cc
    by_probe e noted (Some send) is some =
        let m : IsMarked starts marks send e = marked e send some in
        let same : m.at ≡ at = same_place m.at at (sym m.is ∙ is) in
        let P : ℕ → Type 0 = λ i. has_exit (slice_index_or marks i no_exits) e ≡ true in
        odd_if (slice_index_or marks at no_exits) (noted_at x.outcome) (is_some (number_in x.outcome)) e even (subst P same m.marked) (noted_has x.outcome e ∙ noted)

-- nor does it number a send late
pub late_if : (owner : Owner) (x : Entry) (past : List Entry) (starts : List ℕ) (marks : List Exits) (at : ℕ) → AreMarked owner past starts marks →
    mark_place starts (length marks) (probe_handled (here_of owner past) x.event) ≡ Some at → is_odd (slice_index_or marks at no_exits) (noted_at x.outcome) (is_some (number_in x.outcome)) ≡ false →
    is_numbered_late owner past x.event x.outcome ≡ false
late_if owner x past starts marks at marked is even = by_event x.event x.outcome is even
  where
    by_probe : (o : Option Probe) → mark_place starts (length marks) o ≡ Some at → meet (slice_index_or marks at no_exits) all_exits ≡ false → was_noted owner o past ≡ false
    by_probe None place even = absurd cc
    by_probe (Some send) place even =
        false_from_ne_true (was_noted owner (Some send) past) (λ some.
        let found = any_with (λ e. Unit {0}) (λ e. list_any (is_note_of (Some send)) (notes owner e past)) (up ∷ a ∷ b ∷ c ∷ d ∷ []) (tt, (tt, (tt, (tt, (tt, tt))))) some in
        let m : IsMarked starts marks send found.0 = marked found.0 send found.2 in
        let P : ℕ → Type 0 = λ i. has_exit (slice_index_or marks i no_exits) found.0 ≡ true in
        false≢true (sym even ∙ met (slice_index_or marks at no_exits) all_exits found.0 (subst P (same_place m.at at (sym m.is ∙ place)) m.marked) (all_has found.0)))

    by_event : (event : Event) (outcome : Outcome) → mark_place starts (length marks) (probe_handled (here_of owner past) event) ≡ Some at →
        is_odd (slice_index_or marks at no_exits) (noted_at outcome) (is_some (number_in outcome)) ≡ false → is_numbered_late owner past event outcome ≡ false
    by_event (Send from dst vlan ethertype payload) outcome place even = refl
    by_event (Supervise about) outcome place even = refl
    by_event Age outcome place even = refl
    by_event (Arrive port copy) (Sent seq ports) place even = refl
    by_event (Arrive port copy) (Life seq life ports) place even = refl
    by_event (Arrive port copy) Aged place even = refl
    by_event (Arrive port copy) (Judged up_too ports None cause) place even = refl
    by_event (Arrive port copy) (Judged up_too ports (Some seq) cause) place even = by_probe copy.probe place even

-- what is kept then tells of that entry too
pub marks_more : (owner : Owner) (x : Entry) (past : List Entry) (starts : List ℕ) (marks : List Exits) (at : ℕ) → AreMarked owner past starts marks →
    mark_place starts (length marks) (probe_handled (here_of owner past) x.event) ≡ Some at → at < length marks →
    AreMarked owner (x ∷ past) starts (slice_set marks at (joined (slice_index_or marks at no_exits) (noted_at x.outcome)))
marks_more owner x past starts marks at marked is below = λ e send some. by_note e send (new_note owner e x past) some
  where
    value : Exits
    value = joined (slice_index_or marks at no_exits) (noted_at x.outcome)

    long : length (slice_set marks at value) ≡ length marks
    long = length-set marks at value

    -- what is marked at a place, by what was there
    at_place : (e : Egress) (i : ℕ) → has_exit (slice_index_or marks i no_exits) e ≡ true → has_exit (slice_index_or (slice_set marks at value) i no_exits) e ≡ true
    at_place e i old =
        ⊎_elim
        (λ same.
        let P : ℕ → Type 0 = λ j. has_exit (slice_index_or marks j no_exits) e ≡ true in
        let Q : ℕ → Type 0 = λ j. has_exit (slice_index_or (slice_set marks at value) j no_exits) e ≡ true in
        subst Q (sym same)
        (ap (λ v. has_exit v e) (get_or-set_same marks at value no_exits below) ∙ (joined_has (slice_index_or marks at no_exits) (noted_at x.outcome) e ∙ or_left _ _ (subst P same old))))
        (λ other. ap (λ v. has_exit v e) (get_or-set_other marks at i value no_exits other) ∙ old)
        (cases_eq i at)

    older : (e : Egress) (send : Probe) → list_any (is_note_of (Some send)) (notes owner e past) ≡ true → IsMarked starts (slice_set marks at value) send e
    older e send some =
        let m : IsMarked starts marks send e = marked e send some in
        record { at = m.at; is = ap (λ n. mark_place starts n (Some send)) long ∙ m.is; marked = at_place e m.at m.marked }

    newer : (e : Egress) (send : Probe) (note : Noted) → IsNoteOf owner e x past note → is_note_of (Some send) note ≡ true → IsMarked starts (slice_set marks at value) send e
    newer e send note n mine =
        let named : probe_handled (here_of owner past) x.event ≡ Some send = sym n.probe ∙ probe_is send note.probe mine in
        record {
          at = at;
          is = ap (λ n. mark_place starts n (Some send)) long ∙ (ap (mark_place starts (length marks)) (sym named) ∙ is);
          marked = ap (λ v. has_exit v e) (get_or-set_same marks at value no_exits below)
              ∙ (joined_has (slice_index_or marks at no_exits) (noted_at x.outcome) e ∙ or_right _ _ (noted_has x.outcome e ∙ n.noted));
        }

    by_note : (e : Egress) (send : Probe) → (note_of owner e x past ≡ None) ⊎ ((note : Noted) × (note_of owner e x past ≡ Some note) × IsNoteOf owner e x past note) →
        list_any (is_note_of (Some send)) (notes owner e (x ∷ past)) ≡ true → IsMarked starts (slice_set marks at value) send e
    by_note e send new some =
        let P : Option Noted → Type 0 = λ o. list_any (is_note_of (Some send)) (cons_option o (notes owner e past)) ≡ true in
        ⊎_elim
        (λ none. older e send (subst P none some))
        (λ note. ⊎_elim (λ here. newer e send note.0 note.2 here) (λ before. older e send before)
        (or_cases (is_note_of (Some send) note.0) (list_any (is_note_of (Some send)) (notes owner e past)) (subst P note.1 some)))
        new
