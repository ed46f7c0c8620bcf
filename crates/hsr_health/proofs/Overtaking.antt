-- The reason that counts copies which were overtaken.
use Rattle.std.proofs.Common.{◌≡◌, ℕ, suc, ◌+◌, ◌<◌, ◌&&◌, not, Bool, true, false, cond, List, [], ◌∷◌, ◌++◌, append_assoc, length, reverse, refl, sym, ap, subst, ◌∙◌, arith, Option, Some, None}
use Rattle.std.specs.Prelude.{option_map, option_to_list, slice_get}
use Rattle.std.proofs.lemmas.List.{append-nil, length_push, reverse-append, take_at}
use Rattle.hsr_frame_groups.specs.Frames.{CaughtFields, past_of}
use Rattle.hsr_sightings.specs.Copies.{count_copies, first_such, is_again, is_overtaken, is_passed, top_before}
use Rattle.hsr_sightings.specs.Read.{AreOvertaken, overtaken_at, overtaken_from}
use Rattle.hsr_sightings.specs.declared.overtaken.Overtaken.{Overtaken}
use Rattle.hsr_health.specs.Told.{IsOfCopies, IsToldWith, first_told, spot_if, spot_of}
use Rattle.hsr_health.specs.What.{behind_what, behind_what_by}
use Rattle.hsr_health.specs.Counted.{number_or}
use Rattle.hsr_health.specs.declared.reason.Reason.{Reason}
use Rattle.hsr_health.specs.declared.reason.What.{What}
use Rattle.hsr_health.specs.declared.reason.Word.{Word}
use Rattle.hsr_health.proofs.Flagging.{told_later, told_none, told_now}
use Rattle.hsr_health.proofs.Sourcing.{first_later, first_now}

-- what is told of a copy that was overtaken
record IsTold (i : ℕ) (past : List CaughtFields) (c : CaughtFields) : Type 0 where
  own : Overtaken
  told : overtaken_at i past c ≡ Some own
  place : own.copy ≡ i
  behind : number_or (top_before past c) ≡ own.behind

told_of : (i : ℕ) (past : List CaughtFields) (c : CaughtFields) → is_overtaken past c ≡ true → IsTold i past c
told_of i past c is = by_top (top_before past c) refl
  where
    by_top : (top : Option CaughtFields) → top_before past c ≡ top → IsTold i past c
    by_top None none =
        let no : is_overtaken past c ≡ false = ap (λ o. not (is_again past c) && is_passed o c) none ∙ never (not (is_again past c)) in absurd cc
      where
        never : (b : Bool) → (b && false) ≡ false
        never true = refl
        never false = refl
    by_top (Some top) here = record {
      own = record { copy = i; behind = top.copy.seq };
      told = ap (λ b. cond b (option_map (λ (x : CaughtFields). record { copy = i; behind = x.copy.seq }) (top_before past c)) None) is
          ∙ ap (option_map (λ (x : CaughtFields). record { copy = i; behind = x.copy.seq })) here;
      place = refl;
      behind = ap number_or here;
    }

none_of : (i : ℕ) (past : List CaughtFields) (c : CaughtFields) → is_overtaken past c ≡ false → overtaken_at i past c ≡ None
none_of i past c is = ap (λ b. cond b (option_map (λ (x : CaughtFields). record { copy = i; behind = x.copy.seq }) (top_before past c)) None) is

-- ---- copies in front, and those from an index on

past_front : (front rest : List CaughtFields) → past_of (front ++ rest) (length front) ≡ reverse front
past_front front rest = ap reverse (take_at front rest (length front) refl)

next_past : (front : List CaughtFields) (c : CaughtFields) → reverse (front ++ c ∷ []) ≡ c ∷ reverse front
next_past front c = reverse-append front (c ∷ [])

moved : (front : List CaughtFields) (c : CaughtFields) (rest : List CaughtFields) → (front ++ c ∷ []) ++ rest ≡ front ++ c ∷ rest
moved front c rest = append_assoc front (c ∷ []) rest

at_front : (front : List CaughtFields) (c : CaughtFields) (rest : List CaughtFields) → slice_get (front ++ c ∷ rest) (length front) ≡ Some c
at_front [] c rest = refl
at_front (b ∷ front) c rest = at_front front c rest

pub found_stays : (such : List CaughtFields → CaughtFields → Bool) (front rest : List CaughtFields) (c : CaughtFields) → first_such such (reverse front) ≡ Some c
    → first_such such (reverse (front ++ rest)) ≡ Some c
found_stays such front [] c found = ap (λ l. first_such such (reverse l)) (append-nil front) ∙ found
found_stays such front (d ∷ rest) c found =
    ap (λ l. first_such such (reverse l)) (sym (moved front d rest))
    ∙ found_stays such (front ++ d ∷ []) rest c (ap (first_such such) (next_past front d) ∙ first_later such d (reverse front) c found)

told_stays : (such : List CaughtFields → CaughtFields → Bool) (tell : List CaughtFields → CaughtFields → What) (front rest : List CaughtFields) (what : What) → first_told such tell (reverse front) ≡ Some what
    → first_told such tell (reverse (front ++ rest)) ≡ Some what
told_stays such tell front [] what told = ap (λ l. first_told such tell (reverse l)) (append-nil front) ∙ told
told_stays such tell front (d ∷ rest) what told =
    ap (λ l. first_told such tell (reverse l)) (sym (moved front d rest))
    ∙ told_stays such tell (front ++ d ∷ []) rest what (ap (first_told such tell) (next_past front d) ∙ told_later such tell d (reverse front) what told)

-- of all copies behind a place, what is told of the first, and how many there are
FirstIs : List CaughtFields → List Overtaken → Type 0
FirstIs copies [] = first_such is_overtaken (reverse copies) ≡ None
FirstIs copies (own ∷ rest) = (c : CaughtFields) × (slice_get copies own.copy ≡ Some c) × (first_such is_overtaken (reverse copies) ≡ Some c)
    × (first_told is_overtaken behind_what (reverse copies) ≡ Some (behind_what_by own.behind c))

record IsTail (front rest : List CaughtFields) : Type 0 where
  count : length (overtaken_from (front ++ rest) (length front) rest) + count_copies is_overtaken (reverse front) ≡ count_copies is_overtaken (reverse (front ++ rest))
  first : first_such is_overtaken (reverse front) ≡ None → FirstIs (front ++ rest) (overtaken_from (front ++ rest) (length front) rest)

tail_step : (front : List CaughtFields) (c : CaughtFields) (rest : List CaughtFields) → IsTail (front ++ c ∷ []) rest → IsTail front (c ∷ rest)
unfolding FirstIs
tail_step front c rest next = by_case (is_overtaken (reverse front) c) refl
  where
    behind : overtaken_from ((front ++ c ∷ []) ++ rest) (length (front ++ c ∷ [])) rest ≡ overtaken_from (front ++ c ∷ rest) (length front + 1) rest
    behind = ap (λ l. overtaken_from l (length (front ++ c ∷ [])) rest) (moved front c rest) ∙ ap (λ n. overtaken_from (front ++ c ∷ rest) n rest) (length_push front c)

    own_is : overtaken_at (length front) (past_of (front ++ c ∷ rest) (length front)) c ≡ overtaken_at (length front) (reverse front) c
    own_is = ap (λ past. overtaken_at (length front) past c) (past_front front (c ∷ rest))

    counts : length (overtaken_from (front ++ c ∷ rest) (length front + 1) rest) + count_copies is_overtaken (c ∷ reverse front) ≡ count_copies is_overtaken (reverse (front ++ c ∷ rest))
    counts =
        ap (λ l. length l + count_copies is_overtaken (c ∷ reverse front)) (sym behind)
        ∙ ap (λ past. length (overtaken_from ((front ++ c ∷ []) ++ rest) (length (front ++ c ∷ [])) rest) + count_copies is_overtaken past) (sym (next_past front c))
        ∙ next.count ∙ ap (λ l. count_copies is_overtaken (reverse l)) (moved front c rest)

    list_is : (o : Option Overtaken) → overtaken_at (length front) (reverse front) c ≡ o
        → overtaken_from (front ++ c ∷ rest) (length front) (c ∷ rest) ≡ option_to_list o ++ overtaken_from (front ++ c ∷ rest) (length front + 1) rest
    list_is o is = ap (λ x. option_to_list x ++ overtaken_from (front ++ c ∷ rest) (length front + 1) rest) (own_is ∙ is)

    by_case : (b : Bool) → is_overtaken (reverse front) c ≡ b → IsTail front (c ∷ rest)
    by_case false is =
        let list = list_is None (none_of (length front) (reverse front) c is) in
        let one : count_copies is_overtaken (c ∷ reverse front) ≡ count_copies is_overtaken (reverse front)
        = ap (λ b. cond b (count_copies is_overtaken (reverse front) + 1) (count_copies is_overtaken (reverse front))) is in
        record {
          count = ap (λ l. length l + count_copies is_overtaken (reverse front)) list ∙ ap (λ n. length (overtaken_from (front ++ c ∷ rest) (length front + 1) rest) + n) (sym one) ∙ counts;
          first = λ none.
              subst (FirstIs (front ++ c ∷ rest)) (sym list)
              (subst (FirstIs (front ++ c ∷ rest)) behind
              (subst (λ l. FirstIs l (overtaken_from ((front ++ c ∷ []) ++ rest) (length (front ++ c ∷ [])) rest)) (moved front c rest)
              (next.first (ap (first_such is_overtaken) (next_past front c) ∙ first_now is_overtaken c (reverse front) none ∙ ap (λ b. cond b (Some c) None) is))));
        }
    by_case true is =
        let told = told_of (length front) (reverse front) c is in
        let list = list_is (Some told.own) told.told in
        let one : count_copies is_overtaken (c ∷ reverse front) ≡ count_copies is_overtaken (reverse front) + 1
        = ap (λ b. cond b (count_copies is_overtaken (reverse front) + 1) (count_copies is_overtaken (reverse front))) is in
        let many : length (overtaken_from (front ++ c ∷ rest) (length front) (c ∷ rest)) ≡ suc (length (overtaken_from (front ++ c ∷ rest) (length front + 1) rest)) = ap length list in
        record {
          count = omega (arith, one, many, counts);
          first = λ none.
              subst (FirstIs (front ++ c ∷ rest)) (sym list) (
                c,
                ap (slice_get (front ++ c ∷ rest)) told.place ∙ at_front front c rest,
                ap (λ l. first_such is_overtaken (reverse l)) (sym (moved front c rest))
                    ∙ found_stays is_overtaken (front ++ c ∷ []) rest c (ap (first_such is_overtaken) (next_past front c) ∙ first_now is_overtaken c (reverse front) none ∙ ap (λ b. cond b (Some c) None) is),
                ap (λ l. first_told is_overtaken behind_what (reverse l)) (sym (moved front c rest))
                    ∙ told_stays is_overtaken behind_what (front ++ c ∷ []) rest (behind_what_by told.own.behind c)
                    (ap (first_told is_overtaken behind_what) (next_past front c) ∙ told_now is_overtaken behind_what c (reverse front) (told_none is_overtaken behind_what (reverse front) none)
                    ∙ ap (λ b. cond b (Some (behind_what (reverse front) c)) None) is ∙ ap (λ n. Some (behind_what_by n c)) told.behind),
              );
        }

nothing : (n : ℕ) → 0 + n ≡ n
nothing n = omega arith

tail_is : (front rest : List CaughtFields) → IsTail front rest
unfolding FirstIs
tail_is front [] = record {
  count = nothing (count_copies is_overtaken (reverse front)) ∙ ap (λ l. count_copies is_overtaken (reverse l)) (sym (append-nil front));
  first = λ none. ap (λ l. first_such is_overtaken (reverse l)) (append-nil front) ∙ none;
}
tail_is front (c ∷ rest) = tail_step front c rest (tail_is (front ++ c ∷ []) rest)

-- ---- the reason

pub none_overtaken : (word : Word) (copies : List CaughtFields) (found : List Overtaken) → length found ≡ 0 → AreOvertaken copies found → IsOfCopies word is_overtaken behind_what (reverse copies) None
none_overtaken word copies found none are =
    let tail = (tail_is [] copies).count in
    let long = ap length are in
    omega (arith, none, tail, long)

pub some_overtaken : (word : Word) (copies : List CaughtFields) (found : List Overtaken) (first : Overtaken) (count : ℕ) (reason : Option Reason) → slice_get found 0 ≡ Some first → count ≡ length found
    → ((c : CaughtFields) → slice_get copies first.copy ≡ Some c → IsToldWith word count (Some (spot_of c)) (behind_what_by first.behind c) reason) → AreOvertaken copies found
    → IsOfCopies word is_overtaken behind_what (reverse copies) reason
unfolding FirstIs
some_overtaken word copies found first count reason here count_is told are = by_found found here are count_is
  where
    by_reason : (r : Option Reason) (c : CaughtFields) (n : ℕ) → count ≡ n → 0 < n → n ≡ count_copies is_overtaken (reverse copies) → first_such is_overtaken (reverse copies) ≡ Some c
        → first_told is_overtaken behind_what (reverse copies) ≡ Some (behind_what_by first.behind c) → IsToldWith word count (Some (spot_of c)) (behind_what_by first.behind c) r
        → IsOfCopies word is_overtaken behind_what (reverse copies) r
    by_reason None c n is some all at_c what with_c = absurd with_c
    by_reason (Some r) c n is some all at_c what with_c = (with_c.0, with_c.1 ∙ is ∙ all, omega (arith, some, all), with_c.2 ∙ ap spot_if (sym at_c), ap Some with_c.3 ∙ sym what)

    by_found : (l : List Overtaken) → slice_get l 0 ≡ Some first → AreOvertaken copies l → count ≡ length l → IsOfCopies word is_overtaken behind_what (reverse copies) reason
    by_found [] at_0 is many = absurd cc
    by_found (own ∷ rest) at_0 is many =
        let tail = tail_is [] copies in
        let its = subst (FirstIs copies) (sym is) (tail.first refl) in
        let same : own ≡ first = cc in
        let long : length (own ∷ rest) ≡ count_copies is_overtaken (reverse copies) = ap length is ∙ tail_count tail.count in
        by_reason reason its.0 (length (own ∷ rest)) many (omega arith) long its.2 (its.3 ∙ ap (λ (x : Overtaken). Some (behind_what_by x.behind its.0)) same) (told its.0 (ap (λ (x : Overtaken). slice_get copies x.copy) (sym same) ∙ its.1))
      where
        tail_count : length (overtaken_from copies 0 copies) + 0 ≡ count_copies is_overtaken (reverse copies) → length (overtaken_from copies 0 copies) ≡ count_copies is_overtaken (reverse copies)
        tail_count e = omega (arith, e)
