-- A line, piece by piece.
use Rattle.std.proofs.Common.{◌≡◌, ℕ, ◌+◌, ◌<◌, ◌≤◌, ◌==◌, suc, Option, None, Some, List, [], ◌∷◌, ◌++◌, ◌∙◌, length, take, drop, get_or, IfSome, refl, ap, sym, subst, arith, append_assoc, append-nil, Bool, true, false}
use Rattle.std.proofs.lemmas.List.{length-append, length-take, length-take-le, take_all, take_more, take-take}
use Rattle.std.proofs.Math.Seq.{take-append_seam}
use Rattle.std.proofs.lemmas.Option.{same_Some}
use Rattle.std.proofs.KnownBytes.{Consumes-trans}
use Rattle.std.specs.Io.KnownBytes.{Consumes, IsAtEnd}
use Rattle.hsr_text.specs.Words.{cut}
use Rattle.hsr_text.specs.Lines.{Advances, Continues, Fills, ReadsFront, onto}
use Rattle.hsr_text.specs.declared.lines.Front.{Front}
use Rattle.hsr_text.specs.declared.lines.Front.TheVariants.{Line, Rest, TooLong}
use Rattle.hsr_text.proofs.Cuts.{cut_found, cut_missing, none≢some}

-- the front of a piece within the reach
within : (room : ℕ) (piece front rest : List ℕ) → take (room + 1) piece ≡ front ++ rest
    → (length front ≤ room + 1) × (length front ≤ length piece) × (take (length front) piece ≡ front)
within room piece front rest e =
    let long = ap length e ∙ length-append front rest in
    let all = length-take (room + 1) piece in
    let low : length front ≤ room + 1 = omega arith in
    (low, omega arith, sym (take-take (length front) (room + 1) piece low) ∙ ap (take (length front)) e ∙ take-append_seam front rest)

-- the line feed stands within the reach
pub line_filled : (most room : ℕ) (piece front rest line grown : List ℕ) → cut 10 (take (room + 1) piece) ≡ (front, Some rest) → grown ≡ line ++ front
    → (length front ≤ room) × (length front + 1 ≤ length piece) × Fills most (take (length front + 1) piece) line grown (Some Line)
line_filled most room piece front rest line grown e g =
    let parts = cut_found 10 (take (room + 1) piece) front rest e in
    let at = within room piece (front ++ 10 ∷ []) rest (parts.0 ∙ sym (append_assoc front (10 ∷ []) rest)) in
    let long = length-append front (10 ∷ []) in
    let next : length front + 1 ≡ length (front ++ 10 ∷ []) = omega arith in
    (omega arith, omega arith, (front, rw next at.2, parts.1, g))

-- it doesn't
whole : (room : ℕ) (piece front : List ℕ) → cut 10 (take (room + 1) piece) ≡ (front, None)
    → (length front ≤ room + 1) × (length front ≤ length piece) × (take (length front) piece ≡ front) × (cut 10 front ≡ (front, None))
whole room piece front e =
    let same = cut_missing 10 (take (room + 1) piece) front e in
    let at = within room piece front [] (sym same ∙ sym (append-nil front)) in
    (at.0, at.1, at.2, subst (λ t. cut 10 t ≡ (front, None)) (sym same) e)

-- and there is room for all
pub part_filled : (most room : ℕ) (piece front line grown : List ℕ) → cut 10 (take (room + 1) piece) ≡ (front, None) → grown ≡ line ++ front
    → (length front ≤ length piece) × Fills most (take (length front) piece) line grown None
part_filled most room piece front line grown e g =
    let at = whole room piece front e in
    (at.1, (rw at.2 at.3, rw at.2 g))

-- nothing is there
pub none_filled : (room : ℕ) (piece : List ℕ) → cut 10 (take (room + 1) piece) ≡ ([], None) → piece ≡ []
none_filled room piece e = go piece (let none = ap length (cut_missing 10 (take (room + 1) piece) [] e) in let long = length-take (room + 1) piece in omega arith)
  where
    go : (piece : List ℕ) → length piece ≤ 0 → piece ≡ []
    go [] h = refl
    go (b ∷ bs) h = absurd (omega arith)

-- and the last byte finds no room
pub long_filled : (most room : ℕ) (piece front line grown : List ℕ) → cut 10 (take (room + 1) piece) ≡ (front, None) → room < length front
    → room + length line ≡ most → grown ≡ line ++ take room front
    → (length front ≤ length piece) × Fills most (take (length front) piece) line grown (Some TooLong)
long_filled most room piece front line grown e over all g =
    let at = whole room piece front e in
    let split : front ≡ take room front ++ get_or front room 0 ∷ [] = sym (take_all (room + 1) front (omega arith)) ∙ take_more front room 0 over in
    let long = ap length g ∙ length-append line (take room front) in
    let short = length-take-le room front (omega arith) in
    (at.1, (take room front, get_or front room 0, at.2 ∙ split, subst (λ t. cut 10 t ≡ (t, None)) split at.3, g, omega arith))

-- a reader that shows nothing is at its end
pub at_end : (a : Option (List ℕ)) (shown : List ℕ) → IfSome a (λ xs. length shown ≡ 0 → xs ≡ []) → shown ≡ [] → IsAtEnd a
at_end None shown end none = tt
at_end (Some xs) shown end none = end (ap length none)

-- a front without a line feed is put before the cut
cut_on : (part ys : List ℕ) → cut 10 part ≡ (part, None) → cut 10 (part ++ ys) ≡ onto part (cut 10 ys)
cut_on [] ys e = refl
cut_on (b ∷ bs) ys e = go (b == 10) refl e (cut_on bs ys)
  where
    go : (t : Bool) → (b == 10) ≡ t → cut 10 (b ∷ bs) ≡ (b ∷ bs, None) → (cut 10 bs ≡ (bs, None) → cut 10 (bs ++ ys) ≡ onto bs (cut 10 ys))
        → cut 10 (b ∷ (bs ++ ys)) ≡ onto (b ∷ bs) (cut 10 ys)
    go true t e more = let here : ([], Some bs) ≡ (b ∷ bs, None) = rw t at e in absurd (none≢some (sym (ap (λ c. c.1) here)))
    go false t e more =
        let here : (b ∷ (cut 10 bs).0, (cut 10 bs).1) ≡ (b ∷ bs, None) = rw t at e in
        let none : cut 10 bs ≡ ((cut 10 bs).0, None) = ap (λ r. ((cut 10 bs).0, r)) (ap (λ c. c.1) here) in
        let all : cut 10 bs ≡ (bs, None) = none ∙ ap (λ l. (l, None)) (cut_missing 10 bs (cut 10 bs).0 none) in
        rw (t, more all) refl

-- a piece that ends no line goes behind its front
pub goes_on : (most : ℕ) (old found new : Option (List ℕ)) (line grown : List ℕ) → Continues old found line → Consumes old found line
    → Advances most found new line grown None → Continues old new grown × Consumes old new grown
goes_on most None found new line grown more before (taken, took, (alone, g), end) = (tt, tt)
goes_on most (Some text) None new line grown more before (taken, took, (alone, g), end) = absurd before
goes_on most (Some text) (Some xs) None line grown more before (taken, took, (alone, g), end) = absurd took
goes_on most (Some text) (Some xs) (Some ys) line grown (same, is, more) before (taken, took, (alone, g), end) =
    let found : same ≡ taken ++ ys = sym (same_Some xs same is) ∙ took in (
      (
        ys,
        refl,
        more ∙ ap (λ l. onto line (cut 10 l)) found ∙ ap (onto line) (cut_on taken ys alone)
            ∙ ap (λ l. (l, (cut 10 ys).1)) (sym (append_assoc line taken (cut 10 ys).0)) ∙ ap (λ l. onto l (cut 10 ys)) (sym g),
      ),
      rw g (Consumes-trans (Some text) (Some xs) (Some ys) line taken before took),
    )

-- what stands before a byte of a text, and what behind it
before_it : (line : List ℕ) (b : ℕ) (left : List ℕ) → line ≡ take (length line) (line ++ b ∷ left)
before_it [] b left = refl
before_it (c ∷ line) b left = ap (λ l. c ∷ l) (before_it line b left)

behind_it : (line : List ℕ) (b : ℕ) (left : List ℕ) → left ≡ drop (suc (length line)) (line ++ b ∷ left)
behind_it [] b left = refl
behind_it (c ∷ line) b left = behind_it line b left

-- a piece that ends a line
pub ends : (most : ℕ) (old found new : Option (List ℕ)) (line grown : List ℕ) (front : Front) → Continues old found line → Consumes old found line
    → Advances most found new line grown (Some front) → ReadsFront most old new grown front
ends most None found new line grown front more before advanced = tt
ends most (Some text) None new line grown front more before advanced = absurd before
ends most (Some text) (Some xs) None line grown front more before (taken, took, filled, end) = absurd took
ends most (Some text) (Some xs) (Some ys) line grown Line (same, is, more) before (taken, took, (part, t, alone, g), end) =
    let found : same ≡ part ++ 10 ∷ ys = sym (same_Some xs same is) ∙ took ∙ ap (λ l. l ++ ys) t ∙ append_assoc part (10 ∷ []) ys in (
      ys,
      refl,
      more ∙ ap (λ l. onto line (cut 10 l)) found ∙ ap (onto line) (cut_on part (10 ∷ ys) alone)
          ∙ ap (λ l. (line ++ l, Some ys)) (append-nil part) ∙ ap (λ l. (l, Some ys)) (sym g),
    )
ends most (Some text) (Some xs) (Some ys) line grown Rest (same, is, more) before (taken, took, (t, g), end) =
    let none : xs ≡ [] = end refl in
    let found : same ≡ [] = sym (same_Some xs same is) ∙ none in
    let left : ys ≡ [] = ap (λ l. l ++ ys) (sym t) ∙ sym took ∙ none in
    (ys, refl, (more ∙ ap (λ l. onto line (cut 10 l)) found ∙ ap (λ l. (l, None)) (append-nil line ∙ sym g), left))
ends most (Some text) (Some xs) (Some ys) line grown TooLong (same, is, more) before (taken, took, (part, b, t, alone, g, full), end) =
    let over = part ++ b ∷ [] in
    let found : xs ≡ over ++ ys = took ∙ ap (λ l. l ++ ys) t in
    let whole : text ≡ grown ++ b ∷ ys =
    before ∙ ap (λ l. line ++ l) (found ∙ append_assoc part (b ∷ []) ys) ∙ sym (append_assoc line part (b ∷ ys)) ∙ ap (λ l. l ++ b ∷ ys) (sym g) in
    let first : cut 10 text ≡ onto line (onto over (cut 10 ys)) = more ∙ ap (λ l. onto line (cut 10 l)) (sym (same_Some xs same is) ∙ found) ∙ ap (onto line) (cut_on over ys alone) in
    let long = ap length (ap (λ c. c.0) first) ∙ length-append line (over ++ (cut 10 ys).0) in
    let parts = length-append over (cut 10 ys).0 in
    let part_long = length-append part (b ∷ []) in
    let grown_long = ap length g ∙ length-append line part in
    let next : most + 1 ≡ suc (length grown) = omega arith in
    (ys, refl, (omega arith, rw (← full, whole) (before_it grown b ys), rw (next, whole) (behind_it grown b ys)))
