-- The greatest numbers so far, by the indexes of their copies.
use Rattle.std.proofs.Common.{◌≡◌, ℕ, zero, suc, ◌+◌, ◌-◌, ◌<◌, ◌≤◌, Bool, true, false, cond, ◌&&◌, List, [], ◌∷◌, ◌++◌, append_assoc, drop, length, map, option_to_list, ◌⊎◌, inl, inr, refl, sym, ap, subst, ◌∙◌, arith, Option, Some, None}
use Rattle.std.specs.Prelude.{nat_eq, nat_le, not, option_map, slice_get, slice_index, slice_index_or}
use Rattle.std.proofs.lemmas.Bool.{and_left, and_right, cases_lt, cond-false, eq-eqb, eqb-true, le-leb, le-ltb, ne_eqb}
use Rattle.std.proofs.lemmas.List.{drop_more, get_or_append_left, length-map, length_push}
use Rattle.std.proofs.lemmas.Option.{get_or_from_slice_get, same_Some, slice_get_within}
use Rattle.hsr_frame_groups.specs.Frames.{CaughtFields, frame_time, past_of}
use Rattle.hsr_recent_table.specs.declared.previous.Keyed.{Keyed}
use Rattle.hsr_recent_table.specs.Previous.{AreInTime, IsPreviousOf}
use Rattle.hsr_sightings.specs.Clash.{copy_found}
use Rattle.hsr_sightings.specs.Copies.{carried_before, is_again, is_behind, is_passed, is_recent, times_before, top_before, top_in, top_with}
use Rattle.hsr_sightings.specs.Keys.{beside_key}
use Rattle.hsr_sightings.specs.Passed.{AreTops, IsForgotten, TellsTop, beside_keyed, is_passed_at, is_passed_by, overtaken_by, overtaken_in, top_after, top_by}
use Rattle.hsr_sightings.specs.Read.{AreRead, TellsEach, overtaken_at, overtaken_from}
use Rattle.hsr_sightings.specs.Ring.{forget_time}
use Rattle.hsr_sightings.specs.declared.overtaken.Overtaken.{Overtaken}
use Rattle.hsr_sightings.proofs.Counting.{get_or_end}
use Rattle.hsr_sightings.proofs.Indexes.{keyed_at, keys_rise, none_there, not_before, past_more, past_same, picked_stands}
use Rattle.hsr_sightings.proofs.Times.{none_same}

-- ---- keys

abbrev pub AreBesideKeys : List CaughtFields → List Keyed → Type 0
AreBesideKeys copies keys = keys ≡ map beside_keyed copies

pub key_at : (copies : List CaughtFields) (keys : List Keyed) → AreBesideKeys copies keys → (k : ℕ) (b : CaughtFields) → slice_get copies k ≡ Some b → slice_get keys k ≡ Some (beside_keyed b)
key_at copies keys are k b here = keyed_at beside_keyed copies keys are k b here

pub keys_long : (copies : List CaughtFields) (keys : List Keyed) → AreBesideKeys copies keys → length keys ≡ length copies
keys_long copies keys are = ap length are ∙ length-map copies beside_keyed

pub keys_in_time : (copies : List CaughtFields) (firsts : List ℕ) (keys : List Keyed) → AreRead copies firsts → AreBesideKeys copies keys → AreInTime keys
keys_in_time copies firsts keys read are = keys_rise copies firsts keys read (keys_long copies keys are) (λ i c here. (beside_keyed c, key_at copies keys are i c here, refl))

-- ---- the greatest so far

top_picks : (key : ℕ) (c t : CaughtFields) (past : List CaughtFields) → top_in key (c ∷ past) ≡ Some t → ((t ≡ c) × (beside_key t ≡ key)) ⊎ (top_in key past ≡ Some t)
top_picks key c t past is = by_own (nat_eq (beside_key c) key) (not (is_again past c)) refl is
  where
    by_passed : beside_key c ≡ key → (b : Bool) → cond b (top_in key past) (Some c) ≡ Some t → ((t ≡ c) × (beside_key t ≡ key)) ⊎ (top_in key past ≡ Some t)
    by_passed own true same = inr same
    by_passed own false same = let it : c ≡ t = same_Some c t same in inl (sym it, ap beside_key (sym it) ∙ own)

    by_own : (a b : Bool) → nat_eq (beside_key c) key ≡ a → cond (a && b) (top_with c (top_in key past)) (top_in key past) ≡ Some t → ((t ≡ c) × (beside_key t ≡ key)) ⊎ (top_in key past ≡ Some t)
    by_own true true own same = by_passed (eqb-true (beside_key c) key own) (is_passed (top_in key past) c) same
    by_own true false own same = inr same
    by_own false b own same = inr same

-- a copy with another key changes nothing
top_other : (key : ℕ) (c : CaughtFields) (past : List CaughtFields) → (beside_key c ≡ key → ⊥) → top_in key (c ∷ past) ≡ top_in key past
top_other key c past other =
    cond-false _ (top_with c (top_in key past)) (top_in key past) (and_left (nat_eq (beside_key c) key) (not (is_again past c)) (ne_eqb (beside_key c) key other))

-- what is told at a moment is told later, too
tells_on : (copies : List CaughtFields) (at later : ℕ) (o : Option CaughtFields) (t : Option ℕ) → at ≤ later → TellsTop copies at o t → TellsTop copies later o t
tells_on copies at later None None le is = tt
tells_on copies at later (Some top) None le is = omega (arith, is, le)
tells_on copies at later o (Some k) le is = is

-- what is told before a copy, by the previous one with its key
pub top_told : (copies : List CaughtFields) (firsts : List ℕ) (keys : List Keyed) (tops : List (Option ℕ)) (n i : ℕ) → AreRead copies firsts → AreBesideKeys copies keys → AreTops copies n tops → i ≤ n
    → (c : CaughtFields) → slice_get copies i ≡ Some c → (found : Option ℕ) → IsPreviousOf frame_time keys i (beside_keyed c) found
    → TellsTop copies c.at (top_before (past_of copies i) c) (top_by tops found)
top_told copies firsts keys tops n i read are told le c here None old = by_top (top_before (past_of copies i) c) refl
  where
    inside : i < length copies
    inside = slice_get_within copies i c here

    by_top : (o : Option CaughtFields) → top_before (past_of copies i) c ≡ o → IsForgotten c.at o
    by_top None none = tt
    by_top (Some t) is =
        let stands = picked_stands (top_in (beside_key c)) (λ t. beside_key t ≡ beside_key c) refl (top_picks (beside_key c)) copies i t (omega (arith, inside)) is in
        let far = old stands.0.0 (beside_keyed t) stands.0.1 (key_at copies keys are stands.0.0 t stands.0.2) stands.1 in
        omega (arith, far)
top_told copies firsts keys tops n i read are told le c here (Some j) latest = by_copy (slice_get copies j) refl
  where
    inside : i < length copies
    inside = slice_get_within copies i c here

    more : i ≡ j + 1 + (i - (j + 1))
    more = omega (arith, latest.below)

    by_copy : (o : Option CaughtFields) → slice_get copies j ≡ o → TellsTop copies c.at (top_in (beside_key c) (past_of copies i)) (slice_index_or tops j None)
    by_copy None none = absurd (none_there copies j (omega (arith, latest.below, inside)) none)
    by_copy (Some b) there =
        let own = same_Some _ _ (sym (key_at copies keys are j b there) ∙ latest.has.there) in
        let same : beside_key b ≡ beside_key c = ap (λ (t : Keyed). t.key) own ∙ latest.has.same in
        let before : TellsTop copies b.at (top_in (beside_key b) (past_of copies (j + 1))) (slice_index_or tops j None) = told.each j b (omega (arith, latest.below, le)) there in
        let still : top_in (beside_key c) (past_of copies i) ≡ top_in (beside_key b) (past_of copies (j + 1))
        = ap (λ k. top_in (beside_key c) (past_of copies k)) more
        ∙ past_same (top_in (beside_key c)) copies (j + 1) (i - (j + 1)) (omega (arith, latest.below, inside))
        (λ k a from until at_k. top_other (beside_key c) a (past_of copies k) (λ e. latest.others k (omega (arith, from)) (omega (arith, until, latest.below)) (beside_keyed a) (key_at copies keys are k a at_k) e))
        ∙ ap (λ key. top_in key (past_of copies (j + 1))) (sym same) in
        let earlier : b.at ≤ c.at = not_before copies firsts read j i b c (omega (arith, latest.below)) there here in
        tells_on copies b.at c.at _ (slice_index_or tops j None) earlier (subst (λ o. TellsTop copies b.at o (slice_index_or tops j None)) (sym still) before)

-- ---- whether a copy is behind

first_same : (n : ℕ) → nat_eq n 0 ≡ not (nat_le 1 n)
first_same zero = refl
first_same (suc n) = ne_eqb (suc n) 0 (λ e. omega (arith, e)) ∙ sym (ap not (le-leb 1 (suc n) (omega arith)))

old_passes : (top c : CaughtFields) → IsForgotten c.at (Some top) → is_passed (Some top) c ≡ false
old_passes top c old = and_right (is_behind c.copy.seq top.copy.seq) (is_recent top c) (le-ltb (c.at - top.at) forget_time (omega (arith, old)))

passed_same : (copies : List CaughtFields) (c : CaughtFields) (o : Option CaughtFields) (t : Option ℕ) → TellsTop copies c.at o t → is_passed (copy_found copies t) c ≡ is_passed o c
passed_same copies c None None is = refl
passed_same copies c (Some top) None is = sym (old_passes top c is)
passed_same copies c o (Some k) is = ap (λ x. is_passed x c) is

-- the greatest so far, with a copy
pub top_step : (copies : List CaughtFields) (i : ℕ) (c : CaughtFields) (carried : ℕ) (t : Option ℕ) → slice_get copies i ≡ Some c → carried ≡ times_before (past_of copies i) c
    → TellsTop copies c.at (top_before (past_of copies i) c) t → TellsTop copies c.at (top_in (beside_key c) (past_of copies (i + 1))) (top_after copies carried t i)
top_step copies i c carried t here is told =
    subst (λ past. TellsTop copies c.at (top_in (beside_key c) past) (top_after copies carried t i)) (sym (past_more copies i c here))
    (subst (TellsTop copies c.at (top_in (beside_key c) (c ∷ past_of copies i))) (sym after)
    (by_flags (nat_eq (beside_key c) (beside_key c)) (not (is_again (past_of copies i) c)) (is_passed (top_before (past_of copies i) c) c) (eq-eqb (beside_key c) (beside_key c) refl)))
  where
    after : top_after copies carried t i ≡ cond (not (is_again (past_of copies i) c) && not (is_passed (top_before (past_of copies i) c) c)) (Some i) t
    after =
        ap (λ b. cond (b && not (is_passed_at copies t i)) (Some i) t) (ap (λ n. nat_eq n 0) is ∙ none_same (carried_before (past_of copies i) c) ∙ first_same (carried_before (past_of copies i) c))
        ∙ ap (λ b. cond (not (is_again (past_of copies i) c) && not b) (Some i) t)
        (ap (is_passed_by (copy_found copies t)) here ∙ passed_same copies c (top_before (past_of copies i) c) t told)

    by_flags : (own first passed : Bool) → own ≡ true
        → TellsTop copies c.at (cond (own && first) (cond passed (top_before (past_of copies i) c) (Some c)) (top_before (past_of copies i) c)) (cond (first && not passed) (Some i) t)
    by_flags true true true own = told
    by_flags true true false own = here
    by_flags true false passed own = told
    by_flags false first passed own = absurd cc

-- one more copy
pub tops_more : (copies : List CaughtFields) (i : ℕ) (tops new : List (Option ℕ)) (own : Option ℕ) → new ≡ tops ++ own ∷ [] → AreTops copies i tops
    → ((c : CaughtFields) → slice_get copies i ≡ Some c → TellsTop copies c.at (top_in (beside_key c) (past_of copies (i + 1))) own) → AreTops copies (i + 1) new
tops_more copies i tops new own is are own_is = subst (AreTops copies (i + 1)) (sym is) (record {
  each = λ j c below at_j. by_case j c (cases_lt j i) below at_j;
  long = length_push tops own ∙ ap (λ n. n + 1) are.long;
})
  where
    by_case : (j : ℕ) (c : CaughtFields) → (j < i) ⊎ (i ≤ j) → j < i + 1 → slice_get copies j ≡ Some c
        → TellsTop copies c.at (top_in (beside_key c) (past_of copies (j + 1))) (slice_index_or (tops ++ own ∷ []) j None)
    by_case j c (inl before) below at_j =
        subst (TellsTop copies c.at (top_in (beside_key c) (past_of copies (j + 1)))) (sym (get_or_append_left tops (own ∷ []) None j (omega (arith, before, are.long)))) (are.each j c before at_j)
    by_case j c (inr past) below at_j =
        let place : i ≡ j = omega (arith, past, below) in
        subst (λ k. TellsTop copies c.at (top_in (beside_key c) (past_of copies (k + 1))) (slice_index_or (tops ++ own ∷ []) k None)) place
        (subst (TellsTop copies c.at (top_in (beside_key c) (past_of copies (i + 1)))) (sym (get_or_end tops own i None are.long)) (own_is c (ap (slice_get copies) place ∙ at_j)))

-- ---- copies that were overtaken

abbrev told_of : ℕ → CaughtFields → Overtaken
told_of i top = record { copy = i; behind = top.copy.seq }

overtaken_told : (i carried : ℕ) (c : CaughtFields) (o : Option CaughtFields) → overtaken_by i carried o (Some c) ≡ cond (nat_eq carried 0 && is_passed o c) (option_map (told_of i) o) None
overtaken_told i carried c None = sym (cond-false (nat_eq carried 0 && false) None None (and_right (nat_eq carried 0) false refl))
overtaken_told i carried c (Some top) = refl

overtaken_same : (copies : List CaughtFields) (i carried : ℕ) (c : CaughtFields) (o : Option CaughtFields) (t : Option ℕ) → TellsTop copies c.at o t
    → overtaken_by i carried (copy_found copies t) (Some c) ≡ cond (nat_eq carried 0 && is_passed o c) (option_map (told_of i) o) None
overtaken_same copies i carried c None None is = overtaken_told i carried c None
overtaken_same copies i carried c (Some top) None is =
    sym (cond-false (nat_eq carried 0 && is_passed (Some top) c) (Some (told_of i top)) None (and_right (nat_eq carried 0) (is_passed (Some top) c) (old_passes top c is)))
overtaken_same copies i carried c o (Some k) is = ap (λ x. overtaken_by i carried x (Some c)) is ∙ overtaken_told i carried c o

pub overtaken_is : (copies : List CaughtFields) (i carried : ℕ) (c : CaughtFields) (t : Option ℕ) → slice_get copies i ≡ Some c → carried ≡ times_before (past_of copies i) c
    → TellsTop copies c.at (top_before (past_of copies i) c) t → overtaken_in copies carried t i ≡ overtaken_at i (past_of copies i) c
overtaken_is copies i carried c t here is told =
    ap (overtaken_by i carried (copy_found copies t)) here ∙ overtaken_same copies i carried c (top_before (past_of copies i) c) t told
    ∙ ap (λ b. cond (b && is_passed (top_before (past_of copies i) c) c) (option_map (told_of i) (top_before (past_of copies i) c)) None)
    (ap (λ n. nat_eq n 0) is ∙ none_same (carried_before (past_of copies i) c) ∙ first_same (carried_before (past_of copies i) c))

-- those of one more copy
pub overtaken_more : (copies : List CaughtFields) (i : ℕ) (c : CaughtFields) (old new all : List Overtaken) (own : Option Overtaken) → slice_get copies i ≡ Some c
    → own ≡ overtaken_at i (past_of copies i) c → new ≡ old ++ option_to_list own → old ++ overtaken_from copies i (drop i copies) ≡ all
    → new ++ overtaken_from copies (i + 1) (drop (i + 1) copies) ≡ all
overtaken_more copies i c old new all own here own_is is told =
    ap (λ l. l ++ overtaken_from copies (i + 1) (drop (i + 1) copies)) is
    ∙ append_assoc old (option_to_list own) (overtaken_from copies (i + 1) (drop (i + 1) copies))
    ∙ ap (λ o. old ++ (option_to_list o ++ overtaken_from copies (i + 1) (drop (i + 1) copies))) own_is
    ∙ sym (ap (λ l. old ++ overtaken_from copies i l) (drop_more copies i c (slice_get_within copies i c here)
    ∙ ap (λ x. x ∷ drop (i + 1) copies) (get_or_from_slice_get copies i c c here))) ∙ told

-- the copy at an index, by what is told of the previous one
pub overtaken_step : (copies : List CaughtFields) (carried : List ℕ) (i : ℕ) (c : CaughtFields) (top : Option ℕ) (own : Option Overtaken) (old new all : List Overtaken)
    → TellsEach times_before copies carried → slice_get copies i ≡ Some c → TellsTop copies c.at (top_before (past_of copies i) c) top
    → own ≡ overtaken_in copies (slice_index carried i) top i → new ≡ old ++ option_to_list own
    → old ++ overtaken_from copies i (drop i copies) ≡ all → new ++ overtaken_from copies (i + 1) (drop (i + 1) copies) ≡ all
overtaken_step copies carried i c top own old new all counts here top_is own_is new_is told =
    let count : slice_index carried i ≡ times_before (past_of copies i) c = get_or_from_slice_get carried i (times_before (past_of copies i) c) 0 (counts.each i c here) in
    overtaken_more copies i c old new all own here (own_is ∙ overtaken_is copies i (slice_index carried i) c top here count top_is) new_is told
