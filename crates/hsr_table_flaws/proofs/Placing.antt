-- What stands at the places that an index has, against a walk over all notes.
use Rattle.std.proofs.Common.{◌≡◌, ℕ, zero, suc, ◌-◌, ◌<◌, Bool, true, false, ◌&&◌, ◌||◌, not, cond, max, nat_le, List, [], ◌∷◌, ◌++◌, length, take, reverse, filter, slice_get, Option, Some, None, is_some, unwrap_or, refl, sym, ap, ◌∙◌, subst, arith}
use Rattle.std.specs.List.{list_any}
use Rattle.std.proofs.lemmas.Bool.{false≢true, le-leb, and_right, or_parts}
use Rattle.std.proofs.lemmas.Bool.Decides.{nat_tests}
use Rattle.std.proofs.lemmas.List.{reverse-append, reverse-reverse, length-reverse}
use Rattle.std.proofs.lemmas.Option.{none-some, slice_get_within}
use Rattle.std.proofs.Math.Nat.{le-max_left}
use Rattle.hsr_duptable.specs.Key.{Key, is_same_key}
use Rattle.hsr_node.specs.Record.{Noted, note_if, remembered}
use Rattle.hsr_node.specs.declared.event.Probe.{Probe}
use Rattle.hsr_run_laws.specs.Premises.{is_mistaken, is_note_of}
use Rattle.hsr_run_laws.specs.Run.{is_same_send}
use Rattle.hsr_run_laws.proofs.Same.{probe_is, same_key}
use Rattle.hsr_table_demand.specs.Needs.{AreUpTo, is_unexpired}
use Rattle.hsr_table_demand.proofs.Sufficing.{none_young, up_to_later}
use Rattle.hsr_table_flaws.specs.Places.{is_gone, is_kept, is_kept_note, latest_in, noted_after, other_in, place_in}
use Rattle.hsr_table_flaws.specs.declared.marks.Latest.{Latest}

-- ---- one more note

pub turned : (notes : List Noted) (note : Noted) → reverse (notes ++ note ∷ []) ≡ note ∷ reverse notes
turned notes note = reverse-append notes (note ∷ [])

get_before : {X : Type 0} (xs : List X) (x : X) (i : ℕ) → i < length xs → slice_get (xs ++ x ∷ []) i ≡ slice_get xs i
get_before [] x i below = absurd (omega (arith, below))
get_before (y ∷ xs) x zero below = refl
get_before (y ∷ xs) x (suc i) below = get_before xs x i (omega (arith, below))

get_last : {X : Type 0} (xs : List X) (x : X) → slice_get (xs ++ x ∷ []) (length xs) ≡ Some x
get_last [] x = refl
get_last (y ∷ xs) x = get_last xs x

last_of : (note : Noted) (past : List Noted) → slice_get (reverse (note ∷ past)) (length past) ≡ Some note
last_of note past =
    let P : ℕ → Type 0 = λ n. slice_get (reverse past ++ note ∷ []) n ≡ Some note in
    ap (λ xs. slice_get xs (length past)) (reverse-append (note ∷ []) past) ∙ subst P (length-reverse past) (get_last (reverse past) note)

earlier_of : (note : Noted) (past : List Noted) (i : ℕ) → i < length past → slice_get (reverse (note ∷ past)) i ≡ slice_get (reverse past) i
earlier_of note past i below =
    let same = length-reverse past in
    ap (λ xs. slice_get xs i) (reverse-append (note ∷ []) past) ∙ get_before (reverse past) note i (omega (arith, below, same))

-- ---- places

pub none_placed : (test : Noted → Bool) (past : List Noted) → place_in test past ≡ None → list_any test past ≡ false
none_placed test [] none = refl
none_placed test (note ∷ past) none = by_head (test note) refl none (none_placed test past)
  where
    by_head : (b : Bool) → test note ≡ b → cond b (Some (length past)) (place_in test past) ≡ None → (place_in test past ≡ None → list_any test past ≡ false) →
        (test note || list_any test past) ≡ false
    by_head true here h rest = absurd (none-some (length past) (sym h))
    by_head false here h rest = ap (λ b. b || list_any test past) here ∙ rest h

pub placed : (test : Noted → Bool) (past : List Noted) (i : ℕ) → place_in test past ≡ Some i → (i < length past) × (list_any test past ≡ true)
placed test [] i is = absurd (none-some i is)
placed test (note ∷ past) i is = by_head (test note) refl is (placed test past i)
  where
    by_head : (b : Bool) → test note ≡ b → cond b (Some (length past)) (place_in test past) ≡ Some i →
        (place_in test past ≡ Some i → (i < length past) × (list_any test past ≡ true)) → (i < suc (length past)) × ((test note || list_any test past) ≡ true)
    by_head true here h before = let same = ap (λ o. unwrap_or o 0) h in (omega (arith, same), ap (λ b. b || list_any test past) here)
    by_head false here h before =
        let rest = before h in let below = rest.0 in
        (omega (arith, below), ap (λ b. b || list_any test past) here ∙ rest.1)

-- no note is of no send
pub nowhere_of_none : (past : List Noted) → place_in (is_note_of None) past ≡ None
nowhere_of_none [] = refl
nowhere_of_none (note ∷ past) = nowhere_of_none past

-- of the notes with a source and number the latest that is of another send is the latest, or the latest of another send than that
pub other_placed : (key : Key) (send : Option Probe) (past : List Noted) → place_in (is_mistaken key send) past ≡ other_in send (latest_in key past)
other_placed key send [] = refl
other_placed key send (note ∷ past) = by_key (is_same_key note.key key) refl (other_placed key send past)
  where
    found : Latest
    found = record { place = length past; send = note.probe; other = place_in (is_mistaken key note.probe) past }

    same : (s : Option Probe) → is_same_send s note.probe ≡ true → place_in (is_mistaken key s) past ≡ place_in (is_mistaken key note.probe) past
    same None is = absurd (false≢true is)
    same (Some p) is = ap (λ s. place_in (is_mistaken key s) past) (sym (probe_is p note.probe is))

    by_send : (b : Bool) → is_same_send send note.probe ≡ b →
        cond (not b) (Some (length past)) (place_in (is_mistaken key send) past) ≡ cond b (place_in (is_mistaken key note.probe) past) (Some (length past))
    by_send true is = same send is
    by_send false is = refl

    by_key : (b : Bool) → is_same_key note.key key ≡ b → place_in (is_mistaken key send) past ≡ other_in send (latest_in key past) →
        cond (is_same_key note.key key && not (is_same_send send note.probe)) (Some (length past)) (place_in (is_mistaken key send) past)
        ≡ other_in send (cond (is_same_key note.key key) (Some found) (latest_in key past))
    by_key true is rest =
        ap (λ b. cond (b && not (is_same_send send note.probe)) (Some (length past)) (place_in (is_mistaken key send) past)) is
        ∙ (by_send (is_same_send send note.probe) refl ∙ sym (ap (λ b. other_in send (cond b (Some found) (latest_in key past))) is))
    by_key false is rest =
        ap (λ b. cond (b && not (is_same_send send note.probe)) (Some (length past)) (place_in (is_mistaken key send) past)) is
        ∙ (rest ∙ sym (ap (λ b. other_in send (cond b (Some found) (latest_in key past))) is))

-- ---- what is remembered

never : (test : Noted → Bool) (at : ℕ) (past : List Noted) (c : ℕ) → list_any test past ≡ false → list_any test (filter (is_unexpired at) (take c past)) ≡ false
never test at [] zero none = refl
never test at [] (suc c) none = refl
never test at (note ∷ past) zero none = refl
never test at (note ∷ past) (suc c) none =
    let parts = or_parts (test note) (list_any test past) none in
    by_age (is_unexpired at note) parts.0 (never test at past c parts.1)
  where
    by_age : (b : Bool) → test note ≡ false → list_any test (filter (is_unexpired at) (take c past)) ≡ false →
        list_any test (cond b (note ∷ filter (is_unexpired at) (take c past)) (filter (is_unexpired at) (take c past))) ≡ false
    by_age true off rest = ap (λ b. b || list_any test (filter (is_unexpired at) (take c past))) off ∙ rest
    by_age false off rest = rest

-- the latest note that passes a test is remembered where any that passes it is
latest_kept : (test : Noted → Bool) (at m : ℕ) (past : List Noted) (c i : ℕ) → AreUpTo m past → place_in test past ≡ Some i →
    list_any test (filter (is_unexpired at) (take c past)) ≡ is_kept_note c at (length past - i) (slice_get (reverse past) i)
latest_kept test at m [] c i aged is = absurd (none-some i is)
latest_kept test at m (note ∷ past) c i aged is = by_head (test note) refl is (λ n. latest_kept test at note.moment past n i aged.1)
  where
    here_kept : (n : ℕ) → test note ≡ true → list_any test (filter (is_unexpired at) (take n (note ∷ past))) ≡ (nat_le 1 n && is_unexpired at note)
    here_kept zero on = refl
    here_kept (suc n) on = by_age (is_unexpired at note) refl
      where
        by_age : (b : Bool) → is_unexpired at note ≡ b →
            list_any test (cond b (note ∷ filter (is_unexpired at) (take n past)) (filter (is_unexpired at) (take n past))) ≡ (nat_le 1 (suc n) && b)
        by_age true age = ap (λ b. b || list_any test (filter (is_unexpired at) (take n past))) on ∙ sym (ap (λ b. b && true) (le-leb 1 (suc n) (omega arith)))
        by_age false age = none_young test at note.moment past n age aged.1 ∙ sym (and_right (nat_le 1 (suc n)) false refl)

    further : (n : ℕ) (o : Option Noted) → i < length past →
        is_kept_note n at (length past - i) o ≡ is_kept_note (suc n) at (suc (length past) - i) o
    further n None below = refl
    further n (Some other) below =
        let same : nat_le (length past - i) n ≡ nat_le (suc (length past) - i) (suc n) = grind (arith, nat_tests, below) in ap (λ b. b && is_unexpired at other) same

    nearest : (o : Option Noted) → i < length past → false ≡ is_kept_note zero at (suc (length past) - i) o
    nearest None below = refl
    nearest (Some other) below =
        let same : false ≡ nat_le (suc (length past) - i) zero = grind (arith, nat_tests, below) in ap (λ b. b && is_unexpired at other) same

    skips : (n : ℕ) → test note ≡ false → list_any test (filter (is_unexpired at) (take (suc n) (note ∷ past))) ≡ list_any test (filter (is_unexpired at) (take n past))
    skips n off = by_age (is_unexpired at note)
      where
        by_age : (b : Bool) → list_any test (cond b (note ∷ filter (is_unexpired at) (take n past)) (filter (is_unexpired at) (take n past))) ≡ list_any test (filter (is_unexpired at) (take n past))
        by_age true = ap (λ b. b || list_any test (filter (is_unexpired at) (take n past))) off
        by_age false = refl

    there_kept : (n : ℕ) → test note ≡ false → place_in test past ≡ Some i →
        ((k : ℕ) → list_any test (filter (is_unexpired at) (take k past)) ≡ is_kept_note k at (length past - i) (slice_get (reverse past) i)) →
        list_any test (filter (is_unexpired at) (take n (note ∷ past))) ≡ is_kept_note n at (suc (length past) - i) (slice_get (reverse past) i)
    there_kept zero off is_there before = nearest (slice_get (reverse past) i) (placed test past i is_there).0
    there_kept (suc n) off is_there before =
        skips n off ∙ (before n ∙ further n (slice_get (reverse past) i) (placed test past i is_there).0)

    by_head : (b : Bool) → test note ≡ b → cond b (Some (length past)) (place_in test past) ≡ Some i →
        ((k : ℕ) → place_in test past ≡ Some i → list_any test (filter (is_unexpired at) (take k past)) ≡ is_kept_note k at (length past - i) (slice_get (reverse past) i)) →
        list_any test (filter (is_unexpired at) (take c (note ∷ past))) ≡ is_kept_note c at (suc (length past) - i) (slice_get (reverse (note ∷ past)) i)
    by_head true on h before =
        let same = ap (λ o. unwrap_or o 0) h in
        let one : 1 ≡ suc (length past) - i = omega (arith, same) in
        let P : ℕ → Type 0 = λ n. Some note ≡ slice_get (reverse (note ∷ past)) n in
        here_kept c on ∙ (ap (λ n. is_kept_note c at n (Some note)) one ∙ ap (is_kept_note c at (suc (length past) - i)) (subst P same (sym (last_of note past))))
    by_head false off h before =
        there_kept c off h (λ k. before k h) ∙ ap (is_kept_note c at (suc (length past) - i)) (sym (earlier_of note past i (placed test past i h).0))

-- one that passes a test is remembered where the latest such is
pub any_kept : (test : Noted → Bool) (capacity at : ℕ) (notes : List Noted) → AreUpTo at (reverse notes) →
    list_any test (remembered capacity at (reverse notes)) ≡ is_kept capacity at notes (place_in test (reverse notes))
any_kept test capacity at notes aged = by_place (place_in test (reverse notes)) refl
  where
    as_told : (i : ℕ) → is_kept_note capacity at (length (reverse notes) - i) (slice_get (reverse (reverse notes)) i) ≡ is_kept_note capacity at (length notes - i) (slice_get notes i)
    as_told i =
        ap (λ n. is_kept_note capacity at (n - i) (slice_get (reverse (reverse notes)) i)) (length-reverse notes)
        ∙ ap (λ xs. is_kept_note capacity at (length notes - i) (slice_get xs i)) (reverse-reverse notes)

    by_place : (o : Option ℕ) → place_in test (reverse notes) ≡ o → list_any test (remembered capacity at (reverse notes)) ≡ is_kept capacity at notes o
    by_place None none = never test at (reverse notes) capacity (none_placed test (reverse notes) none)
    by_place (Some i) is = latest_kept test at at (reverse notes) capacity i aged is ∙ as_told i

-- ---- what is asked of an index

pub any_at : (send : Option Probe) (notes : List Noted) (place : Option ℕ) → place ≡ place_in (is_note_of send) (reverse notes) →
    is_some place ≡ list_any (is_note_of send) (reverse notes)
any_at send notes (Some i) is = sym (placed (is_note_of send) (reverse notes) i (sym is)).1
any_at send notes None is = sym (none_placed (is_note_of send) (reverse notes) (sym is))

pub gone_at : (capacity at : ℕ) (send : Option Probe) (notes : List Noted) (i : ℕ) → AreUpTo at (reverse notes) → place_in (is_note_of send) (reverse notes) ≡ Some i →
    not (is_kept capacity at notes (Some i)) ≡ is_gone capacity at send (reverse notes)
gone_at capacity at send notes i aged is =
    let any = (placed (is_note_of send) (reverse notes) i is).1 in
    let kept = any_kept (is_note_of send) capacity at notes aged ∙ ap (is_kept capacity at notes) is in
    sym (ap (λ b. not (list_any (is_note_of send) (remembered capacity at (reverse notes))) && b) any ∙ (and_true (not (list_any (is_note_of send) (remembered capacity at (reverse notes)))) ∙ ap not kept))
  where
    and_true : (b : Bool) → (b && true) ≡ b
    and_true true = refl
    and_true false = refl

pub not_gone : (capacity at : ℕ) (send : Option Probe) (notes : List Noted) → place_in (is_note_of send) (reverse notes) ≡ None →
    is_gone capacity at send (reverse notes) ≡ false
not_gone capacity at send notes none =
    let R : Bool = list_any (is_note_of send) (remembered capacity at (reverse notes)) in
    and_right (not R) (list_any (is_note_of send) (reverse notes)) (none_placed (is_note_of send) (reverse notes) none)

-- ---- moments

pub noted_up_to : (m at : ℕ) (notes : List Noted) (is : Bool) (key : Option Key) (probe : Option Probe) → AreUpTo m (reverse notes) →
    AreUpTo (max m at) (reverse (noted_after notes (note_if is key (max m at) probe)))
noted_up_to m at notes is key probe aged = by_note is key
  where
    later : AreUpTo (max m at) (reverse notes)
    later = up_to_later m (max m at) (reverse notes) (le-max_left m at) aged

    by_note : (b : Bool) (k : Option Key) → AreUpTo (max m at) (reverse (noted_after notes (note_if b k (max m at) probe)))
    by_note true None = later
    by_note false None = later
    by_note false (Some k) = later
    by_note true (Some k) =
        subst (AreUpTo (max m at)) (sym (turned notes (record { key = k; moment = max m at; probe = probe }))) (omega arith, later)

pub within : {X : Type 0} (xs : List X) (i : ℕ) (x : X) → slice_get xs i ≡ Some x → i < length xs
within xs i x is = slice_get_within xs i x is

pub other_found : (key : Key) (send : Option Probe) (notes : List Noted) (latest : Option Latest) → latest ≡ latest_in key (reverse notes) →
    other_in send latest ≡ place_in (is_mistaken key send) (reverse notes)
other_found key send notes latest is = ap (other_in send) is ∙ sym (other_placed key send (reverse notes))

-- ---- an index, after one more note

pub send_placed : (has roomy new : Probe → Option ℕ) (notes more : List Noted) (note : Noted) (place : ℕ) → more ≡ notes ++ note ∷ [] → place ≡ length notes →
    ((p : Probe) → has p ≡ place_in (is_note_of (Some p)) (reverse notes)) → ((p : Probe) → roomy p ≡ has p) →
    ((p : Probe) → new p ≡ cond (is_same_send (Some p) note.probe) (Some place) (roomy p)) → (p : Probe) → new p ≡ place_in (is_note_of (Some p)) (reverse more)
send_placed has roomy new notes more note place longer last before same after p =
    let older : roomy p ≡ place_in (is_note_of (Some p)) (reverse notes) = same p ∙ before p in
    let at : place ≡ length (reverse notes) = last ∙ sym (length-reverse notes) in
    after p
    ∙ (ap (λ o. cond (is_same_send (Some p) note.probe) (Some place) o) older
    ∙ (ap (λ n. cond (is_same_send (Some p) note.probe) (Some n) (place_in (is_note_of (Some p)) (reverse notes))) at
    ∙ sym (ap (place_in (is_note_of (Some p))) (ap reverse longer ∙ turned notes note))))

pub key_placed : (has roomy new : Key → Option Latest) (notes more : List Noted) (note : Noted) (latest : Latest) → more ≡ notes ++ note ∷ [] →
    latest.place ≡ length notes → latest.send ≡ note.probe → latest.other ≡ place_in (is_mistaken note.key note.probe) (reverse notes) →
    ((k : Key) → has k ≡ latest_in k (reverse notes)) → ((k : Key) → roomy k ≡ has k) →
    ((k : Key) → new k ≡ cond (is_same_key note.key k) (Some latest) (roomy k)) → (k : Key) → new k ≡ latest_in k (reverse more)
key_placed has roomy new notes more note latest longer last send other before same after k =
    let older : roomy k ≡ latest_in k (reverse notes) = same k ∙ before k in
    let at : latest.place ≡ length (reverse notes) = last ∙ sym (length-reverse notes) in
    after k
    ∙ (ap (λ o. cond (is_same_key note.key k) (Some latest) o) older
    ∙ (by_key (is_same_key note.key k) refl at
    ∙ sym (ap (latest_in k) (ap reverse longer ∙ turned notes note))))
  where
    by_key : (b : Bool) → is_same_key note.key k ≡ b → latest.place ≡ length (reverse notes) → cond b (Some latest) (latest_in k (reverse notes))
        ≡ cond b (Some (record { place = length (reverse notes); send = note.probe; other = place_in (is_mistaken k note.probe) (reverse notes) })) (latest_in k (reverse notes))
    by_key false is at = refl
    by_key true is at =
        let found : Option ℕ → Option Latest = λ o. Some (record { place = length (reverse notes); send = note.probe; other = o }) in
        let own : place_in (is_mistaken note.key note.probe) (reverse notes) ≡ place_in (is_mistaken k note.probe) (reverse notes) = ap (λ q. place_in (is_mistaken q note.probe) (reverse notes)) (same_key note.key k is) in
        ap (λ n. Some (record { place = n; send = latest.send; other = latest.other })) at
        ∙ (ap (λ s. Some (record { place = length (reverse notes); send = s; other = latest.other })) send ∙ ap found (other ∙ own))
