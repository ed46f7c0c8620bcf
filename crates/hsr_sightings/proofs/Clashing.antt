-- Copies that say something else than the latest copy of their source and number.
use Rattle.std.proofs.Common.{◌≡◌, ℕ, ◌+◌, ◌-◌, ◌<◌, ◌≤◌, Bool, true, false, cond, ◌&&◌, List, ◌∷◌, length, map, ◌⊎◌, inl, inr, refl, sym, ap, subst, ◌∙◌, arith, Option, Some, None}
use Rattle.std.specs.Prelude.{nat_eq, nat_lt, find, not, slice_get, slice_index}
use Rattle.std.proofs.lemmas.Bool.{and_left, both_ways, eq-eqb, eqb-true, false_from_ne_true, le-ltb}
use Rattle.std.proofs.lemmas.List.{length-map}
use Rattle.std.proofs.lemmas.Option.{same_Some, slice_get_within}
use Rattle.hsr_frame_copies.specs.Alike.{says_same}
use Rattle.hsr_frame_groups.specs.Frames.{CaughtFields, first_copy, frame_time, key_of, past_of}
use Rattle.hsr_recent_table.specs.declared.previous.Keyed.{Keyed}
use Rattle.hsr_recent_table.specs.Previous.{AreInTime, IsPreviousOf}
use Rattle.hsr_sightings.specs.Clash.{clash_by, copy_found, copy_key, says_other_at}
use Rattle.hsr_sightings.specs.Copies.{differs, is_clash}
use Rattle.hsr_sightings.specs.Frames.{begins, frame_of}
use Rattle.hsr_sightings.specs.Read.{AreRead}
use Rattle.hsr_sightings.specs.Ring.{forget_time}
use Rattle.hsr_sightings.proofs.Indexes.{StandsBefore, first_there, keyed_at, keys_rise, none_there, past_more, past_same, picked_stands}

-- ---- the latest with a key

abbrev pub with_key : ℕ → CaughtFields → Bool
with_key key b = nat_eq (key_of b) key

find_more : (copies : List CaughtFields) (key i : ℕ) (c : CaughtFields) → slice_get copies i ≡ Some c
    → find (with_key key) (past_of copies (i + 1)) ≡ cond (with_key key c) (Some c) (find (with_key key) (past_of copies i))
find_more copies key i c here = ap (find (with_key key)) (past_more copies i c here)

find_same : (copies : List CaughtFields) (key j n : ℕ) → j + n ≤ length copies → ((k : ℕ) (c : CaughtFields) → j ≤ k → k < j + n → slice_get copies k ≡ Some c → with_key key c ≡ false)
    → find (with_key key) (past_of copies (j + n)) ≡ find (with_key key) (past_of copies j)
find_same copies key j n le none =
    past_same (find (with_key key)) copies j n le (λ k c from until here. ap (λ b. cond b (Some c) (find (with_key key) (past_of copies k))) (none k c from until here))

-- what is found has the key
found_picks : (key : ℕ) (c t : CaughtFields) (past : List CaughtFields) → find (with_key key) (c ∷ past) ≡ Some t → ((t ≡ c) × (with_key key t ≡ true)) ⊎ (find (with_key key) past ≡ Some t)
found_picks key c t past is = by_key (with_key key c) refl is
  where
    by_key : (b : Bool) → with_key key c ≡ b → cond b (Some c) (find (with_key key) past) ≡ Some t → ((t ≡ c) × (with_key key t ≡ true)) ⊎ (find (with_key key) past ≡ Some t)
    by_key true own same = let it : c ≡ t = same_Some c t same in inl (sym it, subst (λ x. with_key key x ≡ true) it own)
    by_key false other same = inr same

-- what is found stands before the place, and has the key
found_stands : (copies : List CaughtFields) (key i : ℕ) (b : CaughtFields) → i ≤ length copies → find (with_key key) (past_of copies i) ≡ Some b → StandsBefore copies i b × (with_key key b ≡ true)
found_stands copies key i b le is = picked_stands (find (with_key key)) (λ t. with_key key t ≡ true) refl (found_picks key) copies i b le is

-- ---- keys

abbrev pub AreCopyKeys : List CaughtFields → List Keyed → Type 0
AreCopyKeys copies keys = keys ≡ map copy_key copies

pub key_at : (copies : List CaughtFields) (keys : List Keyed) → AreCopyKeys copies keys → (k : ℕ) (b : CaughtFields) → slice_get copies k ≡ Some b → slice_get keys k ≡ Some (copy_key b)
key_at copies keys are k b here = keyed_at copy_key copies keys are k b here

-- ---- begins

both : (t : Bool) → t ≡ true → t ≡ false → ⊥
both t true_is false_is = both_ways t false_is true_is

pub begins_by : (copies : List CaughtFields) (firsts : List ℕ) → AreRead copies firsts → (i : ℕ) (c : CaughtFields) → slice_get copies i ≡ Some c → begins (past_of copies i) c ≡ nat_eq (slice_index firsts i) i
begins_by copies firsts read i c here = by_case (nat_eq (slice_index firsts i) i) refl
  where
    there : slice_get copies (slice_index firsts i) ≡ Some (first_copy (past_of copies i) c)
    there = first_there copies firsts read i c here

    by_case : (t : Bool) → nat_eq (slice_index firsts i) i ≡ t → begins (past_of copies i) c ≡ t
    by_case true is =
        let same : first_copy (past_of copies i) c ≡ c = same_Some _ _ (sym there ∙ ap (slice_get copies) (eqb-true (slice_index firsts i) i is) ∙ here) in
        eq-eqb _ _ (ap (λ (f : CaughtFields). f.packet) same)
    by_case false is = false_from_ne_true _ (λ begun.
        let same : frame_of (past_of copies i) c ≡ c.packet = eqb-true _ _ begun in
        let place : slice_index firsts i ≡ i = read.numbers (slice_index firsts i) i (first_copy (past_of copies i) c) c there here same in
        both _ (eq-eqb _ _ place) is)

-- ---- whether it clashes

-- what is found, or what is too old to differ
found_is : (copies : List CaughtFields) (keys : List Keyed) → AreCopyKeys copies keys → (i : ℕ) (c : CaughtFields) → slice_get copies i ≡ Some c → (found : Option ℕ)
    → IsPreviousOf frame_time keys i (copy_key c) found → differs (past_of copies i) c (find (with_key (key_of c)) (past_of copies i)) ≡ says_other_at (copy_found copies found) (Some c)
found_is copies keys are i c here None old = by_found (find (with_key (key_of c)) (past_of copies i)) refl
  where
    inside : i < length copies
    inside = slice_get_within copies i c here

    by_found : (o : Option CaughtFields) → find (with_key (key_of c)) (past_of copies i) ≡ o → differs (past_of copies i) c o ≡ false
    by_found None none = refl
    by_found (Some b) is =
        let stands = found_stands copies (key_of c) i b (omega (arith, inside)) is in
        let far = old stands.0.0 (copy_key b) stands.0.1 (key_at copies keys are stands.0.0 b stands.0.2) (eqb-true (key_of b) (key_of c) stands.1) in
        and_left (nat_lt (c.at - b.at) forget_time) (not (says_same b.copy c.copy)) (le-ltb (c.at - b.at) forget_time (omega (arith, far)))
found_is copies keys are i c here (Some j) latest = by_copy (slice_get copies j) refl
  where
    inside : i < length copies
    inside = slice_get_within copies i c here

    more : i ≡ j + 1 + (i - (j + 1))
    more = omega (arith, latest.below)

    by_copy : (o : Option CaughtFields) → slice_get copies j ≡ o → differs (past_of copies i) c (find (with_key (key_of c)) (past_of copies i)) ≡ says_other_at o (Some c)
    by_copy None none = absurd (none_there copies j (omega (arith, latest.below, inside)) none)
    by_copy (Some b) there =
        let own = same_Some _ _ (sym (key_at copies keys are j b there) ∙ latest.has.there) in
        let same : key_of b ≡ key_of c = ap (λ (t : Keyed). t.key) own ∙ latest.has.same in
        ap (differs (past_of copies i) c)
        (ap (λ k. find (with_key (key_of c)) (past_of copies k)) more
        ∙ find_same copies (key_of c) (j + 1) (i - (j + 1)) (omega (arith, latest.below, inside))
        (λ k a from until at_k. false_from_ne_true _ (λ such. latest.others k (omega (arith, from)) (omega (arith, until, latest.below)) (copy_key a) (key_at copies keys are k a at_k) (eqb-true (key_of a) (key_of c) such)))
        ∙ find_more copies (key_of c) j b there ∙ ap (λ t. cond t (Some b) (find (with_key (key_of c)) (past_of copies j))) (eq-eqb (key_of b) (key_of c) same))

pub clash_at : (copies : List CaughtFields) (firsts : List ℕ) (keys : List Keyed) (found : Option ℕ) → AreRead copies firsts → AreCopyKeys copies keys
    → (i : ℕ) (c : CaughtFields) → slice_get copies i ≡ Some c → IsPreviousOf frame_time keys i (copy_key c) found → clash_by copies (slice_index firsts i) found i ≡ is_clash (past_of copies i) c
clash_at copies firsts keys found read are i c here is =
    ap (λ o. nat_eq (slice_index firsts i) i && says_other_at (copy_found copies found) o) here
    ∙ ap (λ t. t && says_other_at (copy_found copies found) (Some c)) (sym (begins_by copies firsts read i c here))
    ∙ ap (λ t. begins (past_of copies i) c && t) (sym (found_is copies keys are i c here found is))

-- keys in the order of time
pub keys_in_time : (copies : List CaughtFields) (firsts : List ℕ) (keys : List Keyed) → AreRead copies firsts → AreCopyKeys copies keys → AreInTime keys
keys_in_time copies firsts keys read are = keys_rise copies firsts keys read (ap length are ∙ length-map copies copy_key) (λ i c here. (copy_key c, key_at copies keys are i c here, refl))
