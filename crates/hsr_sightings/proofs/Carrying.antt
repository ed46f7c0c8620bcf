-- How often a direction carried a frame before.
use Rattle.std.proofs.Common.{◌≡◌, ℕ, ◌+◌, ◌-◌, ◌<◌, ◌≤◌, Bool, true, false, cond, ◌&&◌, List, ◌∷◌, length, refl, sym, ap, ◌∙◌, arith, Option, Some, None}
use Rattle.std.specs.Prelude.{nat_eq, filter, slice_get, slice_index}
use Rattle.std.proofs.lemmas.Bool.{and_from, and_parts, eq-eqb, eqb-true, false_from_ne_true}
use Rattle.std.proofs.lemmas.Option.{get_or_from_slice_get, same_Some, slice_get-get_or, slice_get_within}
use Rattle.hsr_frame_groups.specs.Frames.{CaughtFields, frame_time, past_of}
use Rattle.hsr_recent_table.specs.declared.previous.Keyed.{Keyed}
use Rattle.hsr_recent_table.specs.Previous.{AreInTime, IsLatestBefore, IsPreviousOf}
use Rattle.hsr_sightings.specs.Again.{carried_keyed, count_by_previous}
use Rattle.hsr_sightings.specs.Copies.{carried_before}
use Rattle.hsr_sightings.specs.Frames.{copies_of, frame_of}
use Rattle.hsr_sightings.specs.Keys.{carried_key}
use Rattle.hsr_sightings.specs.Read.{AreRead}
use Rattle.hsr_sightings.specs.Ring.{is_in}
use Rattle.hsr_sightings.proofs.Indexes.{keys_from, keys_from_at, keys_from_long, keys_rise, none_there, past_more, past_same, same_first, same_frame, within_frame}

-- how many copies before a place a direction has of a frame
abbrev pub count_in : List CaughtFields → ℕ → ℕ → ℕ → ℕ
count_in copies frame direction i = length (filter (is_in direction) (copies_of frame (past_of copies i)))

-- a copy is of a frame, and in a direction
abbrev pub is_such : List CaughtFields → ℕ → ℕ → ℕ → CaughtFields → Bool
is_such copies frame direction i c = nat_eq (frame_of (past_of copies i) c) frame && is_in direction c

-- one place more
count_step : (direction : ℕ) (rest : List CaughtFields) (c : CaughtFields) (of_frame : Bool)
    → length (filter (is_in direction) (cond of_frame (c ∷ rest) rest)) ≡ length (filter (is_in direction) rest) + cond (of_frame && is_in direction c) 1 0
count_step direction rest c true = by_case (is_in direction c)
  where
    by_case : (b : Bool) → length (cond b (c ∷ filter (is_in direction) rest) (filter (is_in direction) rest)) ≡ length (filter (is_in direction) rest) + cond b 1 0
    by_case true = omega arith
    by_case false = omega arith
count_step direction rest c false = omega arith

pub count_more : (copies : List CaughtFields) (frame direction i : ℕ) (c : CaughtFields) → slice_get copies i ≡ Some c
    → count_in copies frame direction (i + 1) ≡ count_in copies frame direction i + cond (is_such copies frame direction i c) 1 0
count_more copies frame direction i c here =
    ap (λ past. length (filter (is_in direction) (copies_of frame past))) (past_more copies i c here)
    ∙ count_step direction (copies_of frame (past_of copies i)) c (nat_eq (frame_of (past_of copies i) c) frame)

-- from one place on there is none that is such
pub count_same : (copies : List CaughtFields) (frame direction j n : ℕ) → j + n ≤ length copies
    → ((k : ℕ) (c : CaughtFields) → j ≤ k → k < j + n → slice_get copies k ≡ Some c → is_such copies frame direction k c ≡ false)
    → count_in copies frame direction (j + n) ≡ count_in copies frame direction j
count_same copies frame direction j n le none = past_same (λ past. length (filter (is_in direction) (copies_of frame past))) copies j n le (λ k c from until here.
    count_step direction (copies_of frame (past_of copies k)) c (nat_eq (frame_of (past_of copies k) c) frame)
    ∙ ap (λ b. count_in copies frame direction k + cond b 1 0) (none k c from until here) ∙ omega arith)

-- ---- keys

key_parts : (f d g e : ℕ) → d < 512 → e < 512 → carried_key f d ≡ carried_key g e → (f ≡ g) × (d ≡ e)
key_parts f d g e small few is = (omega (arith, small, few, is), omega (arith, small, few, is))

-- a copy with the key of another one is of its frame, and in its direction
such_by_key : (copies : List CaughtFields) (firsts : List ℕ) → AreRead copies firsts → (k i : ℕ) (b c : CaughtFields) → slice_get copies k ≡ Some b → slice_get copies i ≡ Some c
    → carried_key (slice_index firsts k) b.direction ≡ carried_key (slice_index firsts i) c.direction → is_such copies (frame_of (past_of copies i) c) c.direction k b ≡ true
such_by_key copies firsts read k i b c here there same =
    let small : b.direction < 320 = read.directions k b here in
    let few : c.direction < 320 = read.directions i c there in
    let parts = key_parts (slice_index firsts k) b.direction (slice_index firsts i) c.direction (omega (arith, small)) (omega (arith, few)) same in
    and_from _ _ (eq-eqb _ _ (same_frame copies firsts read k i b c here there parts.0)) (eq-eqb b.direction c.direction parts.1)

-- one with another key isn't
not_such : (copies : List CaughtFields) (firsts : List ℕ) → AreRead copies firsts → (k i : ℕ) (b c : CaughtFields) → slice_get copies k ≡ Some b → slice_get copies i ≡ Some c
    → (carried_key (slice_index firsts k) b.direction ≡ carried_key (slice_index firsts i) c.direction → ⊥) → is_such copies (frame_of (past_of copies i) c) c.direction k b ≡ false
not_such copies firsts read k i b c here there other = false_from_ne_true _ (λ such.
    let parts = and_parts (nat_eq (frame_of (past_of copies k) b) (frame_of (past_of copies i) c)) (is_in c.direction b) such in
    let frames = eqb-true _ _ parts.0 in
    let directions : b.direction ≡ c.direction = eqb-true _ _ parts.1 in
    let places = same_first copies firsts read k i b c here there frames in
    other (ap (λ f. carried_key f b.direction) places ∙ ap (carried_key (slice_index firsts i)) directions))

-- ---- by the previous one

-- of each copy its moment, and its frame and its direction
pub record AreCarriedKeys (copies : List CaughtFields) (firsts : List ℕ) (keys : List Keyed) : Type 0 where
  pub each : (i : ℕ) (c : CaughtFields) → slice_get copies i ≡ Some c → slice_get keys i ≡ Some (carried_keyed (slice_index firsts i) c)
  pub long : length keys ≡ length copies

abbrev pub carried_keys : List CaughtFields → List ℕ → List Keyed
carried_keys copies firsts = keys_from (λ i c. carried_keyed (slice_index firsts i) c) 0 copies

pub are_keys : (copies : List CaughtFields) (firsts : List ℕ) → AreCarriedKeys copies firsts (carried_keys copies firsts)
are_keys copies firsts = record {
  each = λ i c here. keys_from_at (λ k x. carried_keyed (slice_index firsts k) x) 0 copies i c here ∙ ap (λ k. Some (carried_keyed (slice_index firsts k) c)) (omega arith);
  long = keys_from_long (λ k x. carried_keyed (slice_index firsts k) x) 0 copies;
}

-- what the key of a copy is
key_at : (copies : List CaughtFields) (firsts : List ℕ) (keys : List Keyed) → AreCarriedKeys copies firsts keys → (k : ℕ) (b : CaughtFields) → slice_get copies k ≡ Some b
    → slice_get keys k ≡ Some (record { at = b.at; key = carried_key (slice_index firsts k) b.direction })
key_at copies firsts keys are k b here = are.each k b here

pub carried_none : (copies : List CaughtFields) (firsts : List ℕ) (keys : List Keyed) → AreRead copies firsts → AreCarriedKeys copies firsts keys → (i : ℕ) (c : CaughtFields)
    → slice_get copies i ≡ Some c → IsPreviousOf frame_time keys i (record { at = c.at; key = carried_key (slice_index firsts i) c.direction }) None → carried_before (past_of copies i) c ≡ 0
carried_none copies firsts keys read are i c there old =
    let below : i < length copies = slice_get_within copies i c there in
    ap (count_in copies (frame_of (past_of copies i) c) c.direction) (omega arith) ∙ count_same copies (frame_of (past_of copies i) c) c.direction 0 i (omega (arith, below)) none
  where
    none : (k : ℕ) (b : CaughtFields) → 0 ≤ k → k < 0 + i → slice_get copies k ≡ Some b → is_such copies (frame_of (past_of copies i) c) c.direction k b ≡ false
    none k b from until here = not_such copies firsts read k i b c here there (λ same.
        let before : k < i = omega (arith, until) in
        let far = old k _ before (key_at copies firsts keys are k b here) same in
        let small : b.direction < 320 = read.directions k b here in
        let few : c.direction < 320 = read.directions i c there in
        let parts = key_parts (slice_index firsts k) b.direction (slice_index firsts i) c.direction (omega (arith, small)) (omega (arith, few)) same in
        let near = within_frame copies firsts read k i b c before here there parts.0 in
        omega (arith, far, near))

pub carried_some : (copies : List CaughtFields) (firsts : List ℕ) (keys : List Keyed) → AreRead copies firsts → AreCarriedKeys copies firsts keys → (i j : ℕ) (b c : CaughtFields)
    → slice_get copies i ≡ Some c → slice_get copies j ≡ Some b → IsLatestBefore keys (carried_key (slice_index firsts i) c.direction) i j
    → carried_before (past_of copies i) c ≡ carried_before (past_of copies j) b + 1
carried_some copies firsts keys read are i j b c there here latest =
    let below : i < length copies = slice_get_within copies i c there in
    let more : i ≡ j + 1 + (i - (j + 1)) = omega (arith, latest.below) in
    let own = same_Some _ _ (sym (key_at copies firsts keys are j b here) ∙ latest.has.there) in
    let same : carried_key (slice_index firsts j) b.direction ≡ carried_key (slice_index firsts i) c.direction = ap (λ (t : Keyed). t.key) own ∙ latest.has.same in
    let such = such_by_key copies firsts read j i b c here there same in
    let parts = and_parts (nat_eq (frame_of (past_of copies j) b) (frame_of (past_of copies i) c)) (is_in c.direction b) such in
    let frames = eqb-true _ _ parts.0 in
    let directions : b.direction ≡ c.direction = eqb-true _ _ parts.1 in
    ap (count_in copies (frame_of (past_of copies i) c) c.direction) more
    ∙ count_same copies (frame_of (past_of copies i) c) c.direction (j + 1) (i - (j + 1)) (omega (arith, below, latest.below)) none
    ∙ count_more copies (frame_of (past_of copies i) c) c.direction j b here
    ∙ ap (λ t. count_in copies (frame_of (past_of copies i) c) c.direction j + cond t 1 0) such
    ∙ ap (λ f. count_in copies f c.direction j + 1) (sym frames) ∙ ap (λ d. count_in copies (frame_of (past_of copies j) b) d j + 1) (sym directions)
  where
    none : (k : ℕ) (a : CaughtFields) → j + 1 ≤ k → k < j + 1 + (i - (j + 1)) → slice_get copies k ≡ Some a → is_such copies (frame_of (past_of copies i) c) c.direction k a ≡ false
    none k a from until at_k = not_such copies firsts read k i a c at_k there
        (λ same. latest.others k (omega (arith, from)) (omega (arith, until, latest.below)) _ (key_at copies firsts keys are k a at_k) same)

-- ---- one more copy

-- it is counted by the previous one, if those so far are
pub carried_next : (copies : List CaughtFields) (firsts : List ℕ) (keys : List Keyed) (counts : List ℕ) (i : ℕ) (c : CaughtFields) (found : Option ℕ) → AreRead copies firsts
    → AreCarriedKeys copies firsts keys → slice_get copies i ≡ Some c → IsPreviousOf frame_time keys i (carried_keyed (slice_index firsts i) c) found
    → ((k : ℕ) (b : CaughtFields) → k < i → slice_get copies k ≡ Some b → slice_get counts k ≡ Some (carried_before (past_of copies k) b))
    → count_by_previous counts found ≡ carried_before (past_of copies i) c
carried_next copies firsts keys counts i c None read are there old each = sym (carried_none copies firsts keys read are i c there old)
carried_next copies firsts keys counts i c (Some j) read are there latest each = by_copy (slice_get copies j) refl
  where
    inside : i < length copies
    inside = slice_get_within copies i c there

    by_copy : (o : Option CaughtFields) → slice_get copies j ≡ o → count_by_previous counts (Some j) ≡ carried_before (past_of copies i) c
    by_copy None none = absurd (none_there copies j (omega (arith, latest.below, inside)) none)
    by_copy (Some b) here =
        ap (λ n. n + 1) (get_or_from_slice_get counts j (carried_before (past_of copies j) b) 0 (each j b latest.below here))
        ∙ sym (carried_some copies firsts keys read are i j b c there here latest)

-- no count is greater than its place
pub count_small : (keys : List Keyed) (counts : List ℕ) (i : ℕ) (own : Keyed) (found : Option ℕ) → IsPreviousOf frame_time keys i own found → length counts ≡ i
    → ((k n : ℕ) → slice_get counts k ≡ Some n → n ≤ k) → count_by_previous counts found ≤ i
count_small keys counts i own None is long small = omega arith
count_small keys counts i own (Some j) is long small =
    let before : j < i = is.below in
    let le : slice_index counts j ≤ j = small j (slice_index counts j) (slice_get-get_or counts j 0 (omega (arith, before, long))) in
    omega (arith, before, le)

-- keys in the order of time
pub keys_in_time : (copies : List CaughtFields) (firsts : List ℕ) (keys : List Keyed) → AreRead copies firsts → AreCarriedKeys copies firsts keys → AreInTime keys
keys_in_time copies firsts keys read are = keys_rise copies firsts keys read are.long (λ i c here. (_, are.each i c here, refl))
