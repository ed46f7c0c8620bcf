-- Notes whose moments never fall.
use Rattle.std.proofs.Common.{◌≡◌, ℕ, zero, suc, ◌-◌, ◌<◌, ◌≤◌, Bool, true, false, cond, ◌||◌, List, [], ◌∷◌, ◌++◌, drop, refl, sym, ◌∙◌, Some, None, arith}
use Rattle.std.specs.Prelude.{filter, slice_get}
use Rattle.std.proofs.lemmas.List.Elements.{filter-append}
use Rattle.std.proofs.lemmas.List.Folds.{list_any-append}
use Rattle.std.proofs.lemmas.Bool.Decides.{nat_tests}
use Rattle.std.proofs.lemmas.Grind.{common_steps}
use Rattle.hsr_duptable.specs.Notes.{has_key, is_unexpired, unexpired_notes, IsRising}
use Rattle.hsr_duptable.specs.Key.{Key, is_same_key}
use Rattle.hsr_duptable.specs.declared.note.Note.{Note}

-- the lower bound may be lowered
pub IsRising-lower : (low first : ℕ) (xs : List Note) (last : ℕ) → low ≤ first → IsRising first xs last → IsRising low xs last
IsRising-lower low first [] last h r = omega arith
IsRising-lower low first (x ∷ xs) last h r = (omega (arith, r.0), r.1)

-- and the upper one be raised
pub IsRising-raise : (first : ℕ) (xs : List Note) (last at : ℕ) → last ≤ at → IsRising first xs last → IsRising first xs at
IsRising-raise first [] last at h r = omega arith
IsRising-raise first (x ∷ xs) last at h r = (r.0, IsRising-raise x.moment xs last at h r.1)

pub IsRising-push : (first : ℕ) (xs : List Note) (last : ℕ) (x : Note) → last ≤ x.moment → IsRising first xs last → IsRising first (xs ++ x ∷ []) x.moment
IsRising-push first [] last x h r = (omega arith, omega arith)
IsRising-push first (y ∷ xs) last x h r = (r.0, IsRising-push y.moment xs last x h r.1)

pub IsRising-drop : (n first : ℕ) (xs : List Note) (last : ℕ) → IsRising first xs last → IsRising first (drop n xs) last
IsRising-drop zero first xs last r = r
IsRising-drop (suc n) first [] last r = r
IsRising-drop (suc n) first (x ∷ xs) last r = IsRising-drop n first xs last (IsRising-lower first x.moment xs last r.0 r.1)

pub IsRising-filter : (p : Note → Bool) (first : ℕ) (xs : List Note) (last : ℕ) → IsRising first xs last → IsRising first (filter p xs) last
IsRising-filter p first [] last r = r
IsRising-filter p first (x ∷ xs) last r =
    let rest = IsRising-filter p x.moment xs last r.1 in
    elim (p x) as (λ b. IsRising first (cond b (x ∷ filter p xs) (filter p xs)) last) [
      | true ↦ (r.0, rest)
      | false ↦ IsRising-lower first x.moment (filter p xs) last r.0 rest
    ]

-- the notes but the youngest
pub IsRising-older : (first : ℕ) (left xs : List Note) (x : Note) (last : ℕ) → left ≡ xs ++ x ∷ [] → IsRising first left last → IsRising first xs last
IsRising-older first left xs x last cut r = older first xs (rw cut at r)
  where
    older : (first : ℕ) (xs : List Note) → IsRising first (xs ++ x ∷ []) last → IsRising first xs last
    older first [] r = omega (arith, r.0, r.1)
    older first (y ∷ xs) r = (r.0, older y.moment xs r.1)

-- the youngest is no lower than the bound
first-below_youngest : (first : ℕ) (xs : List Note) (x : Note) (last : ℕ) → IsRising first (xs ++ x ∷ []) last → first ≤ x.moment
first-below_youngest first [] x last r = r.0
first-below_youngest first (y ∷ xs) x last r = let rest = first-below_youngest y.moment xs x last r.1 in omega (arith, r.0)

-- a note is unexpired or not
is_unexpired-true : (forget at : ℕ) (x : Note) → is_unexpired forget at x ≡ true → at - x.moment < forget
is_unexpired-true forget at x h = grind (arith, nat_tests)

is_unexpired-false : (forget at : ℕ) (x : Note) → is_unexpired forget at x ≡ false → forget ≤ at - x.moment
is_unexpired-false forget at x h = grind (arith, nat_tests)

-- an expired note is left out
pub unexpired_notes-expired : (forget at : ℕ) (x : Note) (xs : List Note) → forget ≤ at - x.moment → unexpired_notes forget at (x ∷ xs) ≡ unexpired_notes forget at xs
unexpired_notes-expired forget at x xs h = grind (arith, common_steps)

-- where the lower bound is unexpired, all are
pub unexpired_notes-all : (forget at first : ℕ) (xs : List Note) (last : ℕ) → at - first < forget → IsRising first xs last → unexpired_notes forget at xs ≡ xs
unexpired_notes-all forget at first [] last h r = refl
unexpired_notes-all forget at first (x ∷ xs) last h r =
    let here : at - x.moment < forget = omega (arith, r.0) in
    let rest = unexpired_notes-all forget at x.moment xs last here r.1 in
    grind (arith, common_steps)

-- where the youngest is expired, all are
unexpired_notes-none : (forget at first : ℕ) (xs : List Note) (x : Note) (last : ℕ) → IsRising first (xs ++ x ∷ []) last → forget ≤ at - x.moment → unexpired_notes forget at (xs ++ x ∷ []) ≡ []
unexpired_notes-none forget at first [] x last r h = unexpired_notes-expired forget at x [] h
unexpired_notes-none forget at first (y ∷ xs) x last r h =
    let below = first-below_youngest y.moment xs x last r.1 in
    unexpired_notes-expired forget at y (xs ++ x ∷ []) (omega arith) ∙ unexpired_notes-none forget at y.moment xs x last r.1 h

-- ---- what a search from the youngest on meets

-- an expired note: none has the key
pub has_key-expired : (forget at : ℕ) (key : Key) (left xs : List Note) (x : Note) (last : ℕ) → left ≡ xs ++ x ∷ [] → IsRising 0 left last → is_unexpired forget at x ≡ false → has_key key (unexpired_notes forget at left) ≡ false
has_key-expired forget at key left xs x last cut r h =
    rw (cut, unexpired_notes-none forget at 0 xs x last (rw cut at r) (is_unexpired-false forget at x h))

-- a note of another key: those left answer
pub has_key-other : (forget at : ℕ) (key : Key) (left xs : List Note) (x : Note) → left ≡ xs ++ x ∷ [] → is_same_key x.key key ≡ false → has_key key (unexpired_notes forget at xs) ≡ has_key key (unexpired_notes forget at left)
has_key-other forget at key left xs x cut other =
    sym (rw (cut, filter-append (is_unexpired forget at) xs (x ∷ []), list_any-append (λ (n : Note). is_same_key n.key key) (unexpired_notes forget at xs))
    (elim (is_unexpired forget at x) as (λ b. (has_key key (unexpired_notes forget at xs) || has_key key (cond b (x ∷ []) [])) ≡ has_key key (unexpired_notes forget at xs)) [
      | true ↦ rw other (or_false (has_key key (unexpired_notes forget at xs)))
      | false ↦ or_false (has_key key (unexpired_notes forget at xs))
    ]))
  where
    or_false : (b : Bool) → (b || false) ≡ b
    or_false true = refl
    or_false false = refl

-- a note of the key: it is the youngest, so it answers for all
pub has_key-found : (forget at : ℕ) (key : Key) (left xs : List Note) (x : Note) (last : ℕ) → left ≡ xs ++ x ∷ [] → IsRising 0 left last → is_same_key x.key key ≡ true → has_key key (unexpired_notes forget at left) ≡ is_unexpired forget at x
has_key-found forget at key left xs x last cut r same = by_case (is_unexpired forget at x) refl
  where
    or_true : (b : Bool) → (b || true) ≡ true
    or_true true = refl
    or_true false = refl

    by_case : (t : Bool) → is_unexpired forget at x ≡ t → has_key key (unexpired_notes forget at left) ≡ t
    by_case false h = has_key-expired forget at key left xs x last cut r h
    by_case true h =
        rw (cut, filter-append (is_unexpired forget at) xs (x ∷ []), h, list_any-append (λ (n : Note). is_same_key n.key key) (unexpired_notes forget at xs) (x ∷ []), same)
        (or_true (has_key key (unexpired_notes forget at xs)))

-- ---- what is at the front

-- an unexpired note: all are unexpired
pub unexpired_notes-front : (forget at : ℕ) (xs : List Note) (last : ℕ) (x : Note) → IsRising 0 xs last → slice_get xs 0 ≡ Some x → is_unexpired forget at x ≡ true → unexpired_notes forget at xs ≡ xs
unexpired_notes-front forget at [] last x r spot h = refl
unexpired_notes-front forget at (y ∷ xs) last x r spot h =
    let same : y ≡ x = cc in
    unexpired_notes-all forget at y.moment (y ∷ xs) last (rw same (is_unexpired-true forget at x h)) (omega arith, r.1)

-- an expired note: it goes
pub unexpired_notes-drop_front : (forget at : ℕ) (xs : List Note) (x : Note) → slice_get xs 0 ≡ Some x → is_unexpired forget at x ≡ false → unexpired_notes forget at (drop 1 xs) ≡ unexpired_notes forget at xs
unexpired_notes-drop_front forget at [] x spot h = absurd (cc)
unexpired_notes-drop_front forget at (y ∷ xs) x spot h =
    let same : y ≡ x = cc in
    sym (unexpired_notes-expired forget at y xs (rw same (is_unexpired-false forget at x h)))

-- none
pub unexpired_notes-no_front : (forget at : ℕ) (xs : List Note) → slice_get xs 0 ≡ None → unexpired_notes forget at xs ≡ xs
unexpired_notes-no_front forget at [] spot = refl
unexpired_notes-no_front forget at (x ∷ xs) spot = absurd (cc)
