-- Reasons that count copies, by flags.
use Rattle.std.proofs.Common.{◌≡◌, ℕ, zero, suc, ◌+◌, ◌-◌, ◌<◌, ◌≤◌, Bool, true, false, cond, List, [], ◌∷◌, ◌++◌, get_or, length, reverse, take, ◌⊎◌, inl, inr, refl, sym, ap, subst, ◌∙◌, arith, Option, Some, None}
use Rattle.std.specs.Prelude.{count_by, nat_le, not, slice_get, ◌&&◌}
use Rattle.std.proofs.lemmas.Bool.{cases_lt}
use Rattle.std.proofs.lemmas.List.{take_all}
use Rattle.std.proofs.lemmas.List.Sums.{get_or-le-sum_by, sum_by-cons}
use Rattle.std.proofs.lemmas.Option.{get_or_from_slice_get, same_Some, slice_get_within}
use Rattle.hsr_frame_groups.specs.Frames.{CaughtFields, past_of}
use Rattle.hsr_sightings.specs.Copies.{carried_before, count_copies, first_such, times_before}
use Rattle.hsr_sightings.specs.Read.{AreSightings, TellsEach}
use Rattle.hsr_sightings.specs.Ring.{Ring}
use Rattle.hsr_sightings.specs.Fields.{Sighting}
use Rattle.hsr_health.specs.Counted.{mark_of}
use Rattle.hsr_health.specs.Told.{IsFirstFlag, IsOfCopies, IsToldWith, first_told, is_marked, spot_if, spot_of, such_of, word_of}
use Rattle.hsr_health.specs.What.{copy_what, copy_what_by}
use Rattle.hsr_health.specs.declared.copy_reasons.Mark.{Mark}
use Rattle.hsr_health.specs.declared.copy_reasons.Mark.TheVariants as the_mark
use Rattle.hsr_health.specs.Marks.{Marked}
use Rattle.hsr_health.specs.declared.reason.Reason.{Reason}
use Rattle.hsr_health.specs.declared.reason.What.{What}
use Rattle.hsr_health.proofs.Fating.{count_push}
use Rattle.hsr_health.proofs.Pasts.{past_more}
use Rattle.hsr_health.proofs.Sourcing.{first_later, first_now}
use Rattle.hsr_sightings.proofs.Counting.{slice_get_end, slice_get_left}
use Rattle.hsr_sightings.proofs.Demanding.{after_by}
use Rattle.hsr_sightings.proofs.Times.{at_least_same}

-- ---- flags, one after the other

pub flags_more : (mark : Mark) (carried : List ℕ) (marks : List Marked) (flags new : List Bool) (i n : ℕ) (m : Marked) (own : Bool) → length flags ≡ i → new ≡ flags ++ own ∷ [] → slice_get carried i ≡ Some n
    → slice_get marks i ≡ Some m → own ≡ is_marked mark n m
    → ((k p : ℕ) (q : Marked) → k < i → slice_get carried k ≡ Some p → slice_get marks k ≡ Some q → slice_get flags k ≡ Some (is_marked mark p q))
    → (k p : ℕ) (q : Marked) → k < i + 1 → slice_get carried k ≡ Some p → slice_get marks k ≡ Some q → slice_get new k ≡ Some (is_marked mark p q)
flags_more mark carried marks flags new i n m own long is carried_i marks_i own_is each k p q below carried_k marks_k = ap (λ l. slice_get l k) is ∙ by_case (cases_lt k i)
  where
    by_case : (k < i) ⊎ (i ≤ k) → slice_get (flags ++ own ∷ []) k ≡ Some (is_marked mark p q)
    by_case (inl before) = slice_get_left flags (own ∷ []) k (omega (arith, before, long)) ∙ each k p q before carried_k marks_k
    by_case (inr past) =
        let place : k ≡ i = omega (arith, past, below) in
        let same_n : n ≡ p = same_Some n p (sym carried_i ∙ ap (slice_get carried) (sym place) ∙ carried_k) in
        let same_m : m ≡ q = same_Some m q (sym marks_i ∙ ap (slice_get marks) (sym place) ∙ marks_k) in
        ap (slice_get (flags ++ own ∷ [])) place ∙ slice_get_end flags own i long ∙ ap Some (own_is ∙ ap (λ x. is_marked mark x m) same_n ∙ ap (is_marked mark p) same_m)

marked_such : (mark : Mark) (ring : Ring) (is_by_lane : ℕ → Bool) (past : List CaughtFields) (c : CaughtFields) → is_marked mark (times_before past c) (mark_of is_by_lane ring past c) ≡ such_of mark ring is_by_lane past c
marked_such the_mark.Storm ring is_by_lane past c = at_least_same 3 (carried_before past c) (omega arith)
marked_such the_mark.Again ring is_by_lane past c =
    ap (λ b. b && not (nat_le 3 (times_before past c))) (at_least_same 1 (carried_before past c) (omega arith))
    ∙ ap (λ b. nat_le 1 (carried_before past c) && not b) (at_least_same 3 (carried_before past c) (omega arith))
marked_such the_mark.Clash ring is_by_lane past c = refl
marked_such the_mark.Late ring is_by_lane past c = refl
marked_such the_mark.Size ring is_by_lane past c = refl
marked_such the_mark.Lane ring is_by_lane past c = refl

pub flags_are : (mark : Mark) (ring : Ring) (is_by_lane : ℕ → Bool) (copies : List CaughtFields) (carried : List ℕ) (marks : List Marked) (flags : List Bool) (n : ℕ) → n ≡ length carried → length flags ≡ n
    → TellsEach times_before copies carried → TellsEach (mark_of is_by_lane ring) copies marks
    → ((k p : ℕ) (q : Marked) → k < n → slice_get carried k ≡ Some p → slice_get marks k ≡ Some q → slice_get flags k ≡ Some (is_marked mark p q)) → TellsEach (such_of mark ring is_by_lane) copies flags
flags_are mark ring is_by_lane copies carried marks flags n many long carried_told marks_told each = record {
  each = λ i c here.
      let inside = slice_get_within copies i c here in
      each i (times_before (past_of copies i) c) (mark_of is_by_lane ring (past_of copies i) c) (omega (arith, inside, many, carried_told.long)) (carried_told.each i c here) (marks_told.each i c here)
      ∙ ap Some (marked_such mark ring is_by_lane (past_of copies i) c);
  long = omega (arith, long, many, carried_told.long);
}

-- ---- counted

missing : (copies : List CaughtFields) (i : ℕ) → i < length copies → slice_get copies i ≡ None → ⊥
missing [] i below none = omega (arith, below)
missing (c ∷ copies) zero below none = absurd cc
missing (c ∷ copies) (suc i) below none = missing copies i (omega (arith, below)) none

count_to : {X : Type 0} (test : X → Bool) (tell : List CaughtFields → CaughtFields → X) (copies : List CaughtFields) (told : List X) → TellsEach tell copies told → (i : ℕ) → i ≤ length copies
    → count_by test (take i told) ≡ count_copies (λ past c. test (tell past c)) (past_of copies i)
count_to test tell copies told tells zero le = refl
count_to test tell copies told tells (suc i) le = by_copy (count_to test tell copies told tells i (omega (arith, le))) (slice_get copies i) refl
  where
    such : List CaughtFields → CaughtFields → Bool
    such past c = test (tell past c)

    next : suc i ≡ i + 1
    next = omega arith

    more : (n : ℕ) (b : Bool) → n + cond b 1 0 ≡ cond b (n + 1) n
    more n true = refl
    more n false = omega arith

    by_copy : count_by test (take i told) ≡ count_copies such (past_of copies i) → (o : Option CaughtFields) → slice_get copies i ≡ o
        → count_by test (take (suc i) told) ≡ count_copies such (past_of copies (suc i))
    by_copy rest None none = absurd (missing copies i (omega (arith, le)) none)
    by_copy rest (Some c) here =
        ap (λ n. count_by test (take n told)) next ∙ count_push test told i (tell (past_of copies i) c) (tells.each i c here)
        ∙ ap (λ n. n + cond (such (past_of copies i) c) 1 0) rest ∙ more (count_copies such (past_of copies i)) (such (past_of copies i) c)
        ∙ sym (ap (count_copies such) (past_more copies i c here)) ∙ ap (λ n. count_copies such (past_of copies n)) (sym next)

whole : (copies : List CaughtFields) → past_of copies (length copies) ≡ reverse copies
whole copies = ap reverse (take_all (length copies) copies (omega arith))

pub count_told : {X : Type 0} (test : X → Bool) (tell : List CaughtFields → CaughtFields → X) (copies : List CaughtFields) (told : List X) → TellsEach tell copies told
    → count_by test told ≡ count_copies (λ past c. test (tell past c)) (reverse copies)
count_told test tell copies told tells =
    ap (count_by test) (sym (take_all (length copies) told (omega (arith, tells.long)))) ∙ count_to test tell copies told tells (length copies) (omega arith)
    ∙ ap (count_copies (λ past c. test (tell past c))) (whole copies)

count_is : (such : List CaughtFields → CaughtFields → Bool) (copies : List CaughtFields) (flags : List Bool) → TellsEach such copies flags → count_by (λ b. b) flags ≡ count_copies such (reverse copies)
count_is such copies flags told = count_told (λ b. b) such copies flags told

-- ---- the first

none_to : (such : List CaughtFields → CaughtFields → Bool) (copies : List CaughtFields) (flags : List Bool) → TellsEach such copies flags → (i : ℕ) → i ≤ length copies
    → ((k : ℕ) (b : Bool) → k < i → slice_get flags k ≡ Some b → b ≡ false) → first_such such (past_of copies i) ≡ None
none_to such copies flags told zero le none = refl
none_to such copies flags told (suc i) le none =
    by_copy (none_to such copies flags told i (omega (arith, le)) (λ k b below at_k. none k b (omega (arith, below)) at_k)) (slice_get copies i) refl
  where
    next : suc i ≡ i + 1
    next = omega arith

    by_copy : first_such such (past_of copies i) ≡ None → (o : Option CaughtFields) → slice_get copies i ≡ o → first_such such (past_of copies (suc i)) ≡ None
    by_copy rest None missed = absurd (missing copies i (omega (arith, le)) missed)
    by_copy rest (Some c) here =
        ap (λ n. first_such such (past_of copies n)) next ∙ ap (first_such such) (past_more copies i c here) ∙ first_now such c (past_of copies i) rest
        ∙ ap (λ b. cond b (Some c) None) (none i (such (past_of copies i) c) (omega arith) (told.each i c here))

-- what is told of the first, one copy after the other
pub told_later : (such : List CaughtFields → CaughtFields → Bool) (tell : List CaughtFields → CaughtFields → What) (c : CaughtFields) (past : List CaughtFields) (what : What) → first_told such tell past ≡ Some what
    → first_told such tell (c ∷ past) ≡ Some what
told_later such tell c past what is = rw is refl

pub told_now : (such : List CaughtFields → CaughtFields → Bool) (tell : List CaughtFields → CaughtFields → What) (c : CaughtFields) (past : List CaughtFields) → first_told such tell past ≡ None
    → first_told such tell (c ∷ past) ≡ cond (such past c) (Some (tell past c)) None
told_now such tell c past is = rw is refl

-- nothing is told where there is none
pub told_none : (such : List CaughtFields → CaughtFields → Bool) (tell : List CaughtFields → CaughtFields → What) (past : List CaughtFields) → first_such such past ≡ None → first_told such tell past ≡ None
told_none such tell [] none = refl
told_none such tell (c ∷ past) none = by_first (λ e. told_none such tell past e) (first_such such past) refl
  where
    by_such : (b : Bool) → cond b (Some c) None ≡ None → cond b (Some (tell past c)) None ≡ None
    by_such true e = absurd cc
    by_such false e = refl

    by_first : (first_such such past ≡ None → first_told such tell past ≡ None) → (o : Option CaughtFields) → first_such such past ≡ o → first_told such tell (c ∷ past) ≡ None
    by_first rest None is = told_now such tell c past (rest is) ∙ by_such (such past c) (sym (first_now such c past is) ∙ none)
    by_first rest (Some x) is = let later : first_such such (c ∷ past) ≡ Some x = first_later such c past x is in absurd cc

first_at : (such : List CaughtFields → CaughtFields → Bool) (copies : List CaughtFields) (flags : List Bool) (f : ℕ) (c : CaughtFields) → TellsEach such copies flags → IsFirstFlag flags (Some f)
    → slice_get copies f ≡ Some c → (n : ℕ) → f + 1 + n ≤ length copies → first_such such (past_of copies (f + 1 + n)) ≡ Some c
first_at such copies flags f c told is here zero le =
    let none : f + 1 + 0 ≡ f + 1 = omega arith in
    let own : such (past_of copies f) c ≡ true = same_Some _ _ (sym (told.each f c here) ∙ is.0) in
    ap (λ m. first_such such (past_of copies m)) none ∙ ap (first_such such) (past_more copies f c here)
    ∙ first_now such c (past_of copies f) (none_to such copies flags told f (omega (arith, le)) is.1) ∙ ap (λ b. cond b (Some c) None) own
first_at such copies flags f c told is here (suc n) le = by_copy (first_at such copies flags f c told is here n (omega (arith, le))) (slice_get copies (f + 1 + n)) refl
  where
    next : f + 1 + suc n ≡ f + 1 + n + 1
    next = omega arith

    by_copy : first_such such (past_of copies (f + 1 + n)) ≡ Some c → (o : Option CaughtFields) → slice_get copies (f + 1 + n) ≡ o → first_such such (past_of copies (f + 1 + suc n)) ≡ Some c
    by_copy rest None missed = absurd (missing copies (f + 1 + n) (omega (arith, le)) missed)
    by_copy rest (Some d) at_n =
        ap (λ m. first_such such (past_of copies m)) next ∙ ap (first_such such) (past_more copies (f + 1 + n) d at_n) ∙ first_later such d (past_of copies (f + 1 + n)) c rest

told_first : (such : List CaughtFields → CaughtFields → Bool) (tell : List CaughtFields → CaughtFields → What) (copies : List CaughtFields) (flags : List Bool) (f : ℕ) (c : CaughtFields) → TellsEach such copies flags
    → IsFirstFlag flags (Some f) → slice_get copies f ≡ Some c → (n : ℕ) → f + 1 + n ≤ length copies → first_told such tell (past_of copies (f + 1 + n)) ≡ Some (tell (past_of copies f) c)
told_first such tell copies flags f c told is here zero le =
    let none : f + 1 + 0 ≡ f + 1 = omega arith in
    let own : such (past_of copies f) c ≡ true = same_Some _ _ (sym (told.each f c here) ∙ is.0) in
    ap (λ m. first_told such tell (past_of copies m)) none ∙ ap (first_told such tell) (past_more copies f c here)
    ∙ told_now such tell c (past_of copies f) (told_none such tell (past_of copies f) (none_to such copies flags told f (omega (arith, le)) is.1))
    ∙ ap (λ b. cond b (Some (tell (past_of copies f) c)) None) own
told_first such tell copies flags f c told is here (suc n) le = by_copy (told_first such tell copies flags f c told is here n (omega (arith, le))) (slice_get copies (f + 1 + n)) refl
  where
    next : f + 1 + suc n ≡ f + 1 + n + 1
    next = omega arith

    by_copy : first_told such tell (past_of copies (f + 1 + n)) ≡ Some (tell (past_of copies f) c) → (o : Option CaughtFields) → slice_get copies (f + 1 + n) ≡ o
        → first_told such tell (past_of copies (f + 1 + suc n)) ≡ Some (tell (past_of copies f) c)
    by_copy rest None missed = absurd (missing copies (f + 1 + n) (omega (arith, le)) missed)
    by_copy rest (Some d) at_n =
        ap (λ m. first_told such tell (past_of copies m)) next ∙ ap (first_told such tell) (past_more copies (f + 1 + n) d at_n)
        ∙ told_later such tell d (past_of copies (f + 1 + n)) (tell (past_of copies f) c) rest

-- ---- the whole

one_set : (flags : List Bool) (f : ℕ) → slice_get flags f ≡ Some true → 0 < count_by (λ b. b) flags
one_set flags f here =
    let below = slice_get_within flags f true here in
    let own : get_or flags f false ≡ true = get_or_from_slice_get flags f true false here in
    let one : ◌≡◌ {A = ℕ} (cond (get_or flags f false) 1 0) 1 = ap (λ b. cond b 1 0) own in
    let le = get_or-le-sum_by (λ b. cond b 1 0) flags f false below in
    omega (arith, one, le)

no_flags : (flags : List Bool) → ((k : ℕ) (b : Bool) → slice_get flags k ≡ Some b → b ≡ false) → count_by (λ b. b) flags ≡ 0
no_flags [] none = refl
no_flags (b ∷ flags) none =
    sum_by-cons (λ x. cond x 1 0) b flags ∙ ap (λ x. cond x 1 0 + count_by (λ y. y) flags) (none 0 b refl) ∙ ap (λ n. 0 + n) (no_flags flags (λ k x at_k. none (suc k) x at_k))

pub none_told : (mark : Mark) (such : List CaughtFields → CaughtFields → Bool) (tell : List CaughtFields → CaughtFields → What) (copies : List CaughtFields) (flags : List Bool) → TellsEach such copies flags
    → IsFirstFlag flags None → IsOfCopies (word_of mark) such tell (reverse copies) None
none_told mark such tell copies flags told is = sym (count_is such copies flags told) ∙ no_flags flags is

first_exists : (copies : List CaughtFields) (f : ℕ) → f < length copies → (c : CaughtFields) × (slice_get copies f ≡ Some c)
first_exists [] f below = absurd (omega (arith, below))
first_exists (c ∷ copies) zero below = (c, refl)
first_exists (c ∷ copies) (suc f) below = first_exists copies f (omega (arith, below))

pub some_told : (mark : Mark) (such : List CaughtFields → CaughtFields → Bool) (tell : List CaughtFields → CaughtFields → What) (copies : List CaughtFields) (flags : List Bool) (f count : ℕ) (reason : Option Reason)
    → TellsEach such copies flags → IsFirstFlag flags (Some f) → count ≡ count_by (λ b. b) flags
    → ((c : CaughtFields) → slice_get copies f ≡ Some c → IsToldWith (word_of mark) count (Some (spot_of c)) (tell (past_of copies f) c) reason) → IsOfCopies (word_of mark) such tell (reverse copies) reason
some_told mark such tell copies flags f count None told is count_eq at_c =
    let below = slice_get_within flags f true is.0 in
    let own = first_exists copies f (omega (arith, below, told.long)) in
    absurd (at_c own.0 own.1)
some_told mark such tell copies flags f count (Some reason) told is count_eq at_c =
    let below = slice_get_within flags f true is.0 in
    let own = first_exists copies f (omega (arith, below, told.long)) in
    let its = at_c own.0 own.1 in
    let place : f + 1 + (length copies - (f + 1)) ≡ length copies = omega (arith, below, told.long) in
    let all : reverse copies ≡ past_of copies (f + 1 + (length copies - (f + 1))) = sym (whole copies) ∙ ap (past_of copies) (sym place) in
    let first : first_such such (reverse copies) ≡ Some own.0 = ap (first_such such) all ∙ first_at such copies flags f own.0 told is own.1 (length copies - (f + 1)) (omega (arith, place)) in
    let what : first_told such tell (reverse copies) ≡ Some (tell (past_of copies f) own.0)
    = ap (first_told such tell) all ∙ told_first such tell copies flags f own.0 told is own.1 (length copies - (f + 1)) (omega (arith, place)) in
    let number : count ≡ count_copies such (reverse copies) = count_eq ∙ count_is such copies flags told in
    let some = one_set flags f is.0 in
    (its.0, its.1 ∙ number, omega (arith, some, count_eq, number), its.2 ∙ ap spot_if (sym first), ap Some its.3 ∙ sym what)

-- what is told by the first copy of the sighting
pub told_by_sighting : (mark : Mark) (ring : Ring) (copies : List CaughtFields) (all : List Sighting) (of_copy : List ℕ) (f count : ℕ) (reason : Option Reason) → AreSightings ring copies all of_copy
    → ((c : CaughtFields) (seen : Sighting) (number : ℕ) → slice_get copies f ≡ Some c → slice_get of_copy f ≡ Some number → slice_get all number ≡ Some seen
    → IsToldWith (word_of mark) count (Some (spot_of c)) (copy_what_by mark (c.at - seen.at) c) reason)
    → (c : CaughtFields) → slice_get copies f ≡ Some c → IsToldWith (word_of mark) count (Some (spot_of c)) (copy_what mark ring (past_of copies f) c) reason
told_by_sighting mark ring copies all of_copy f count reason are told c here =
    let own = are.own f c here in
    subst (λ n. IsToldWith (word_of mark) count (Some (spot_of c)) (copy_what_by mark n c) reason) (sym (after_by ring copies all of_copy f own.0 c own.2.seen are here own.1 own.2.numbered))
    (told c own.2.seen own.0 here own.1 own.2.numbered)
