-- From indexes to pasts: what the place of the copy that began a frame says of those before a copy.
use Rattle.std.proofs.Common.{◌≡◌, ℕ, zero, suc, ◌+◌, ◌-◌, ◌<◌, ◌≤◌, Bool, true, false, cond, List, [], ◌∷◌, length, reverse, take, get_or, ◌⊎◌, inl, inr, map, refl, sym, ap, subst, ◌∙◌, arith, Option, Some, None}
use Rattle.std.specs.Prelude.{nat_eq, nat_lt, option_map, slice_get, slice_index}
use Rattle.std.proofs.lemmas.Bool.{and_parts, ltb-true}
use Rattle.std.proofs.lemmas.List.{reverse-append, take_more}
use Rattle.std.proofs.lemmas.Option.{get_or_from_slice_get, none-some, same_Some, slice_get-get_or, slice_get-map, slice_get_within}
use Rattle.hsr_frame_copies.specs.Alike.{says_same}
use Rattle.hsr_frame_groups.specs.Frames.{CaughtFields, first_copy, frame_time, joined_to, joins, key_of, latest_frame, past_of}
use Rattle.hsr_recent_table.specs.declared.previous.Keyed.{Keyed}
use Rattle.hsr_recent_table.specs.declared.previous.Previous.{Previous}
use Rattle.hsr_recent_table.specs.Previous.{AreInTime}
use Rattle.hsr_recent_table.specs.Ready.{HaveCome, latest_of}
use Rattle.hsr_sightings.specs.Frames.{frame_of}
use Rattle.hsr_sightings.specs.Read.{AreRead, HaveOwnNumbers}

-- ---- places

pub past_more : (copies : List CaughtFields) (i : ℕ) (c : CaughtFields) → slice_get copies i ≡ Some c → past_of copies (i + 1) ≡ c ∷ past_of copies i
past_more copies i c here =
    let below : i < length copies = slice_get_within copies i c here in
    ap reverse (take_more copies i c below) ∙ reverse-append (take i copies) (get_or copies i c ∷ []) ∙ ap (λ x. x ∷ past_of copies i) (get_or_from_slice_get copies i c c here)

-- each place below the length has a copy
pub copy_at : (copies : List CaughtFields) (i : ℕ) (d : CaughtFields) → i < length copies → slice_get copies i ≡ Some (get_or copies i d)
copy_at copies i d below = slice_get-get_or copies i d below

-- a copy that stands before a place
abbrev pub StandsBefore : List CaughtFields → ℕ → CaughtFields → Type 0
StandsBefore copies i f = (k : ℕ) × (k < i) × (slice_get copies k ≡ Some f)

pub later_before : (copies : List CaughtFields) (i j : ℕ) (f : CaughtFields) → i ≤ j → StandsBefore copies i f → StandsBefore copies j f
later_before copies i j f le h = (h.0, omega (arith, h.1, le), h.2)

-- ---- the latest frame

-- what a copy joins is the frame, or the copy itself
joined_cases : (c f : CaughtFields) (frame : Option CaughtFields) → joined_to c frame ≡ f → (f ≡ c) ⊎ ((frame ≡ Some f) × (joins f c ≡ true))
joined_cases c f None is = inl (sym is)
joined_cases c f (Some g) is = by_case (joins g c) refl is
  where
    by_case : (b : Bool) → joins g c ≡ b → cond b g c ≡ f → (f ≡ c) ⊎ ((Some g ≡ Some f) × (joins f c ≡ true))
    by_case true joined same = inr (ap Some same, subst (λ x. joins x c ≡ true) same joined)
    by_case false joined same = inl (sym same)

pub none_there : (copies : List CaughtFields) (i : ℕ) → i < length copies → slice_get copies i ≡ None → ⊥
none_there [] i below none = omega (arith, below)
none_there (c ∷ copies) zero below none = absurd cc
none_there (c ∷ copies) (suc i) below none = none_there copies i (omega (arith, below)) none

-- a copy that joins a frame of those before it, or begins one
joined_stands : (copies : List CaughtFields) (i : ℕ) (c f : CaughtFields) (frame : Option CaughtFields) → slice_get copies i ≡ Some c
    → ((g : CaughtFields) → frame ≡ Some g → StandsBefore copies i g) → joined_to c frame ≡ f → StandsBefore copies (suc i) f
joined_stands copies i c f frame here before is = by_case (joined_cases c f frame is)
  where
    by_case : (f ≡ c) ⊎ ((frame ≡ Some f) × (joins f c ≡ true)) → StandsBefore copies (suc i) f
    by_case (inl own) = (i, omega arith, here ∙ ap Some (sym own))
    by_case (inr earlier) = later_before copies i (suc i) f (omega arith) (before f earlier.0)

latest_step : (copies : List CaughtFields) (i : ℕ) (c f : CaughtFields) (frame : Option CaughtFields) → slice_get copies i ≡ Some c
    → ((g : CaughtFields) → frame ≡ Some g → StandsBefore copies i g) → (b : Bool) → cond b (Some (joined_to c frame)) frame ≡ Some f → StandsBefore copies (suc i) f
latest_step copies i c f frame here before true is = joined_stands copies i c f frame here before (same_Some _ _ is)
latest_step copies i c f frame here before false is = later_before copies i (suc i) f (omega arith) (before f is)

latest_stands : (copies : List CaughtFields) (i key : ℕ) (f : CaughtFields) → i ≤ length copies → latest_frame key (past_of copies i) ≡ Some f → StandsBefore copies i f
latest_stands copies zero key f le is = absurd cc
latest_stands copies (suc i) key f le is = by_here (λ g. latest_stands copies i key g (omega (arith, le))) (slice_get copies i) refl
  where
    next : suc i ≡ i + 1
    next = omega arith

    by_here : ((g : CaughtFields) → latest_frame key (past_of copies i) ≡ Some g → StandsBefore copies i g) → (o : Option CaughtFields) → slice_get copies i ≡ o → StandsBefore copies (suc i) f
    by_here before None none = absurd (none_there copies i (omega (arith, le)) none)
    by_here before (Some c) here =
        latest_step copies i c f (latest_frame key (past_of copies i)) here before (nat_eq (key_of c) key)
        (subst (λ past. latest_frame key past ≡ Some f) (ap (past_of copies) next ∙ past_more copies i c here) is)

-- ---- the copy that began a frame

-- it is the copy itself, or one that stands before it and that it joins
pub first_cases : (copies : List CaughtFields) (i : ℕ) (c f : CaughtFields) → slice_get copies i ≡ Some c → first_copy (past_of copies i) c ≡ f
    → (f ≡ c) ⊎ (StandsBefore copies i f × (joins f c ≡ true))
first_cases copies i c f here is = by_joined (joined_cases c f (latest_frame (key_of c) (past_of copies i)) is)
  where
    by_joined : (f ≡ c) ⊎ ((latest_frame (key_of c) (past_of copies i) ≡ Some f) × (joins f c ≡ true)) → (f ≡ c) ⊎ (StandsBefore copies i f × (joins f c ≡ true))
    by_joined (inl own) = inl own
    by_joined (inr earlier) =
        let below : i < length copies = slice_get_within copies i c here in
        inr (latest_stands copies i (key_of c) f (omega (arith, below)) earlier.0, earlier.1)

-- the place of a copy by its packet
pub same_place : (copies : List CaughtFields) → HaveOwnNumbers copies → (i j : ℕ) (c : CaughtFields) → slice_get copies i ≡ Some c → slice_get copies j ≡ Some c → i ≡ j
same_place copies own i j c here there = own i j c c here there refl

-- the copy that began the frame of a copy, at its place
pub first_there : (copies : List CaughtFields) (firsts : List ℕ) → AreRead copies firsts → (i : ℕ) (c : CaughtFields) → slice_get copies i ≡ Some c
    → slice_get copies (slice_index firsts i) ≡ Some (first_copy (past_of copies i) c)
first_there copies firsts read i c here =
    let below : i < length copies = slice_get_within copies i c here in
    read.frames.each i (omega (arith, below, read.frames.long)) c here

-- it isn't later
pub first_earlier : (copies : List CaughtFields) (firsts : List ℕ) → AreRead copies firsts → (i : ℕ) (c : CaughtFields) → slice_get copies i ≡ Some c → slice_index firsts i ≤ i
first_earlier copies firsts read i c here = by_case (first_cases copies i c f here refl)
  where
    f : CaughtFields
    f = first_copy (past_of copies i) c

    there : slice_get copies (slice_index firsts i) ≡ Some f
    there = first_there copies firsts read i c here

    by_case : (f ≡ c) ⊎ (StandsBefore copies i f × (joins f c ≡ true)) → slice_index firsts i ≤ i
    by_case (inl own) =
        let same : slice_index firsts i ≡ i = same_place copies read.numbers (slice_index firsts i) i c (there ∙ ap Some own) here in
        omega (arith, same)
    by_case (inr earlier) =
        let same : slice_index firsts i ≡ earlier.0.0 = same_place copies read.numbers (slice_index firsts i) earlier.0.0 f there earlier.0.2 in
        omega (arith, same, earlier.0.1)

-- ---- frames by the places of their first copies

-- two copies are of one frame exactly where their first copies have one place
pub same_frame : (copies : List CaughtFields) (firsts : List ℕ) → AreRead copies firsts → (i j : ℕ) (b c : CaughtFields) → slice_get copies i ≡ Some b → slice_get copies j ≡ Some c
    → slice_index firsts i ≡ slice_index firsts j → frame_of (past_of copies i) b ≡ frame_of (past_of copies j) c
same_frame copies firsts read i j b c here there same =
    let of_b = first_there copies firsts read i b here in
    let of_c = first_there copies firsts read j c there in
    ap (λ (f : CaughtFields). f.packet) (same_Some _ _ (sym of_b ∙ ap (slice_get copies) same ∙ of_c))

pub same_first : (copies : List CaughtFields) (firsts : List ℕ) → AreRead copies firsts → (i j : ℕ) (b c : CaughtFields) → slice_get copies i ≡ Some b → slice_get copies j ≡ Some c
    → frame_of (past_of copies i) b ≡ frame_of (past_of copies j) c → slice_index firsts i ≡ slice_index firsts j
same_first copies firsts read i j b c here there same =
    read.numbers (slice_index firsts i) (slice_index firsts j) (first_copy (past_of copies i) b) (first_copy (past_of copies j) c)
    (first_there copies firsts read i b here) (first_there copies firsts read j c there) same

-- ---- moments

-- no copy comes before one that stands in front of it
abbrev pub IsTimely : List CaughtFields → Type 0
IsTimely copies = (i : ℕ) (b c : CaughtFields) → slice_get copies i ≡ Some b → slice_get copies (i + 1) ≡ Some c → b.at ≤ c.at

in_time : (copies : List CaughtFields) → IsTimely copies → (i n : ℕ) (b c : CaughtFields) → slice_get copies i ≡ Some b → slice_get copies (i + n) ≡ Some c → b.at ≤ c.at
in_time copies time i zero b c here there =
    let zero_more : i + 0 ≡ i = omega arith in
    let same : b ≡ c = same_Some b c (sym here ∙ subst (λ k. slice_get copies k ≡ Some c) zero_more there) in
    subst (λ (x : CaughtFields). b.at ≤ x.at) same (omega arith)
in_time copies time i (suc n) b c here there =
    let more : i + suc n ≡ i + n + 1 = omega arith in
    let there' : slice_get copies (i + n + 1) ≡ Some c = subst (λ k. slice_get copies k ≡ Some c) more there in
    let below : i + n + 1 < length copies = slice_get_within copies (i + n + 1) c there' in
    let mid : CaughtFields = get_or copies (i + n) b in
    let at_mid : slice_get copies (i + n) ≡ Some mid = slice_get-get_or copies (i + n) b (omega (arith, below)) in
    let first : b.at ≤ mid.at = in_time copies time i n b mid here at_mid in
    let second : mid.at ≤ c.at = time (i + n) mid c at_mid there' in
    omega (arith, first, second)

pub in_order : (copies : List CaughtFields) → IsTimely copies → (i j : ℕ) (b c : CaughtFields) → i ≤ j → slice_get copies i ≡ Some b → slice_get copies j ≡ Some c → b.at ≤ c.at
in_order copies time i j b c le here there =
    let more : j ≡ i + (j - i) = omega (arith, le) in
    in_time copies time i (j - i) b c here (subst (λ k. slice_get copies k ≡ Some c) more there)

pub not_before : (copies : List CaughtFields) (firsts : List ℕ) → AreRead copies firsts → (i j : ℕ) (b c : CaughtFields) → i ≤ j → slice_get copies i ≡ Some b → slice_get copies j ≡ Some c → b.at ≤ c.at
not_before copies firsts read i j b c le here there = in_order copies read.time i j b c le here there

-- copies of one frame come within 2 s
pub within_frame : (copies : List CaughtFields) (firsts : List ℕ) → AreRead copies firsts → (i j : ℕ) (b c : CaughtFields) → i < j → slice_get copies i ≡ Some b → slice_get copies j ≡ Some c
    → slice_index firsts i ≡ slice_index firsts j → c.at < b.at + frame_time
within_frame copies firsts read i j b c before here there same = by_case (first_cases copies j c f there refl)
  where
    f : CaughtFields
    f = first_copy (past_of copies j) c

    at_first : slice_get copies (slice_index firsts j) ≡ Some f
    at_first = first_there copies firsts read j c there

    earlier : slice_index firsts i ≤ i
    earlier = first_earlier copies firsts read i b here

    by_case : (f ≡ c) ⊎ (StandsBefore copies j f × (joins f c ≡ true)) → c.at < b.at + frame_time
    by_case (inl own) =
        let place : slice_index firsts j ≡ j = same_place copies read.numbers (slice_index firsts j) j c (at_first ∙ ap Some own) there in
        absurd (omega (arith, place, same, earlier, before))
    by_case (inr joined) =
        let near : c.at - f.at < frame_time = ltb-true (c.at - f.at) frame_time (and_parts (nat_lt (c.at - f.at) frame_time) (says_same f.copy c.copy) joined.1).0 in
        let no_later : f.at ≤ b.at = not_before copies firsts read (slice_index firsts j) i f b (omega (arith, same, earlier)) at_first here in
        omega (arith, near, no_later)

-- ---- pasts, one copy after the other

-- from one place on no copy changes what a function tells of a past
pub past_same : {X : Type 0} (f : List CaughtFields → X) (copies : List CaughtFields) (j n : ℕ) → j + n ≤ length copies
    → ((k : ℕ) (c : CaughtFields) → j ≤ k → k < j + n → slice_get copies k ≡ Some c → f (c ∷ past_of copies k) ≡ f (past_of copies k)) → f (past_of copies (j + n)) ≡ f (past_of copies j)
past_same f copies j zero le same = ap (λ i. f (past_of copies i)) (omega arith)
past_same {X} f copies j (suc n) le same =
    by_here (past_same f copies j n (omega (arith, le)) (λ k c from until. same k c from (omega (arith, until)))) (slice_get copies (j + n)) refl
  where
    more : j + suc n ≡ j + n + 1
    more = omega arith

    by_here : f (past_of copies (j + n)) ≡ f (past_of copies j) → (o : Option CaughtFields) → slice_get copies (j + n) ≡ o → f (past_of copies (j + suc n)) ≡ f (past_of copies j)
    by_here rest None none = absurd (none_there copies (j + n) (omega (arith, le)) none)
    by_here rest (Some c) here = ap (λ i. f (past_of copies i)) more ∙ ap f (past_more copies (j + n) c here) ∙ same (j + n) c (omega arith) (omega arith) here ∙ rest

-- what a function picks of a past stands before the place, and is such
pub picked_stands : (f : List CaughtFields → Option CaughtFields) (P : CaughtFields → Type 0) → f [] ≡ None
    → ((c t : CaughtFields) (past : List CaughtFields) → f (c ∷ past) ≡ Some t → ((t ≡ c) × P t) ⊎ (f past ≡ Some t))
    → (copies : List CaughtFields) (i : ℕ) (t : CaughtFields) → i ≤ length copies → f (past_of copies i) ≡ Some t → StandsBefore copies i t × P t
picked_stands f P none step copies zero t le is = absurd (none-some t (sym none ∙ is))
picked_stands f P none step copies (suc i) t le is = by_here (picked_stands f P none step copies i t (omega (arith, le))) (slice_get copies i) refl
  where
    next : suc i ≡ i + 1
    next = omega arith

    by_step : (f (past_of copies i) ≡ Some t → StandsBefore copies i t × P t) → (c : CaughtFields) → slice_get copies i ≡ Some c → ((t ≡ c) × P t) ⊎ (f (past_of copies i) ≡ Some t)
        → StandsBefore copies (suc i) t × P t
    by_step before c here (inl own) = ((i, omega arith, here ∙ ap Some (sym own.0)), own.1)
    by_step before c here (inr earlier) = let found = before earlier in (later_before copies i (suc i) t (omega arith) found.0, found.1)

    by_here : (f (past_of copies i) ≡ Some t → StandsBefore copies i t × P t) → (o : Option CaughtFields) → slice_get copies i ≡ o → StandsBefore copies (suc i) t × P t
    by_here before None none_here = absurd (none_there copies i (omega (arith, le)) none_here)
    by_here before (Some c) here = by_step before c here (step c t (past_of copies i) (sym (ap f (ap (past_of copies) next ∙ past_more copies i c here)) ∙ is))

-- ---- keys

-- keys of which each has the moment of its copy are in the order of time
pub keys_rise : (copies : List CaughtFields) (firsts : List ℕ) (keys : List Keyed) → AreRead copies firsts → length keys ≡ length copies
    → ((i : ℕ) (c : CaughtFields) → slice_get copies i ≡ Some c → (t : Keyed) × (slice_get keys i ≡ Some t) × (t.at ≡ c.at)) → AreInTime keys
keys_rise copies firsts keys read long are i a b here there =
    let below : i + 1 < length keys = slice_get_within keys (i + 1) b there in
    by_copies (slice_get copies i) (slice_get copies (i + 1)) refl refl (omega (arith, below, long))
  where
    by_copies : (o p : Option CaughtFields) → slice_get copies i ≡ o → slice_get copies (i + 1) ≡ p → i + 1 < length copies → a.at ≤ b.at
    by_copies None p none next inside = absurd (none_there copies i (omega (arith, inside)) none)
    by_copies (Some c) None first none inside = absurd (none_there copies (i + 1) inside none)
    by_copies (Some c) (Some d) first next inside =
        let le : c.at ≤ d.at = read.time i c d first next in
        let of_c = are i c first in
        let of_d = are (i + 1) d next in
        let at_a : a.at ≡ c.at = ap (λ (t : Keyed). t.at) (same_Some _ _ (sym here ∙ of_c.1)) ∙ of_c.2 in
        let at_b : b.at ≡ d.at = ap (λ (t : Keyed). t.at) (same_Some _ _ (sym there ∙ of_d.1)) ∙ of_d.2 in
        omega (arith, le, at_a, at_b)

-- keys that are told of each copy alone
pub keyed_at : (tell : CaughtFields → Keyed) (copies : List CaughtFields) (keys : List Keyed) → keys ≡ map tell copies → (k : ℕ) (b : CaughtFields) → slice_get copies k ≡ Some b
    → slice_get keys k ≡ Some (tell b)
keyed_at tell copies keys are k b here = ap (λ l. slice_get l k) are ∙ slice_get-map tell copies k ∙ ap (option_map tell) here

-- keys that are told of each copy and its index
abbrev pub keys_from : (ℕ → CaughtFields → Keyed) → ℕ → List CaughtFields → List Keyed
keys_from tell i [] = []
keys_from tell i (c ∷ copies) = tell i c ∷ keys_from tell (i + 1) copies

pub keys_from_at : (tell : ℕ → CaughtFields → Keyed) (n : ℕ) (copies : List CaughtFields) (k : ℕ) (c : CaughtFields) → slice_get copies k ≡ Some c
    → slice_get (keys_from tell n copies) k ≡ Some (tell (n + k) c)
keys_from_at tell n [] k c here = absurd cc
keys_from_at tell n (x ∷ copies) zero c here = ap (λ y. Some (tell n y)) (same_Some x c here) ∙ ap (λ m. Some (tell m c)) (omega arith)
keys_from_at tell n (x ∷ copies) (suc k) c here = keys_from_at tell (n + 1) copies k c here ∙ ap (λ m. Some (tell m c)) (omega arith)

pub keys_from_long : (tell : ℕ → CaughtFields → Keyed) (n : ℕ) (copies : List CaughtFields) → length (keys_from tell n copies) ≡ length copies
keys_from_long tell n [] = refl
keys_from_long tell n (x ∷ copies) = ap suc (keys_from_long tell (n + 1) copies)

-- the things before the next one came no later
pub no_later : (keys : List Keyed) (i : ℕ) (own : Keyed) (previous : Previous) → HaveCome frame_time keys i previous → slice_get keys i ≡ Some own → latest_of previous ≤ own.at
no_later keys i own previous come here = come.1.next own here
