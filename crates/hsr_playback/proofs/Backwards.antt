-- Lists that are gone over from their end.
use Rattle.std.proofs.Common.{◌≡◌, ℕ, ◌+◌, ◌-◌, ◌/◌, ◌<◌, ◌≤◌, ◌∙◌, ◌++◌, ◌&&◌, ◌||◌, Bool, true, false, List, [], ◌∷◌, length, get_or, drop, ap, sym, arith, nat_le, nat_lt, cond, refl, if◌then◌else◌}
use Rattle.std.proofs.lemmas.List.{drop_more, drop_all, get_or-reverse, length-reverse, reverse-append}
use Rattle.std.specs.Prelude.{reverse}
use Rattle.std.specs.Str.{bytes_eq}
use Rattle.hsr_playback.specs.Known.{is_given, known_number}
use Rattle.hsr_playback.specs.Own.{is_handed_down, was_handed_down}
use Rattle.hsr_playback.specs.declared.known.Given.{Given}
use Rattle.hsr_playback.specs.declared.passage.Passage.{Passage}

-- what is left from an element on, counted from the end
pub back_more : {X : Type 0} (xs : List X) (j : ℕ) (x : X) → j < length xs → x ≡ get_or xs (length xs - 1 - j) x → drop j (reverse xs) ≡ x ∷ drop (j + 1) (reverse xs)
back_more xs j x h is =
    let within : j < length (reverse xs) = omega (arith, length-reverse xs, h) in
    drop_more (reverse xs) j x within ∙ ap (λ y. y ∷ drop (j + 1) (reverse xs)) (get_or-reverse xs j x h ∙ sym is)

pub back_all : {X : Type 0} (xs : List X) (j : ℕ) → length xs ≤ j → drop j (reverse xs) ≡ []
back_all xs j h = drop_all j (reverse xs) (omega (arith, length-reverse xs, h))

-- ---- a choice of three

first_is : {X : Type 0} (a b : Bool) (x y z : X) → a ≡ true → (if a then x else (if b then y else z)) ≡ x
first_is false b x y z p = absurd (cc)
first_is true b x y z p = refl

second_is : {X : Type 0} (a b : Bool) (x y z : X) → a ≡ false → b ≡ true → (if a then x else (if b then y else z)) ≡ y
second_is true b x y z p q = absurd (cc)
second_is false false x y z p q = absurd (cc)
second_is false true x y z p q = refl

third_is : {X : Type 0} (a b : Bool) (x y z : X) → a ≡ false → b ≡ false → (if a then x else (if b then y else z)) ≡ z
third_is true b x y z p q = absurd (cc)
third_is false true x y z p q = absurd (cc)
third_is false false x y z p q = refl

-- ---- numbers by which frames are known

known_more : (given : List Given) (at : ℕ) (source : List ℕ) (number j : ℕ) (g : Given) → j < length given → g ≡ get_or given (length given - 1 - j) g
    → known_number (drop j (reverse given)) at source number
    ≡ (if nat_le 400000 (at - g.at) then number else (if is_given g source number then g.reference else known_number (drop (j + 1) (reverse given)) at source number))
known_more given at source number j g h is = ap (λ past. known_number past at source number) (back_more given j g h is)

pub known_old : (given : List Given) (at : ℕ) (source : List ℕ) (number j : ℕ) (g : Given) → j < length given → g ≡ get_or given (length given - 1 - j) g
    → nat_le 400000 (at - g.at) ≡ true → known_number (drop j (reverse given)) at source number ≡ number
known_old given at source number j g h is old =
    known_more given at source number j g h is
    ∙ first_is (nat_le 400000 (at - g.at)) (is_given g source number) number g.reference (known_number (drop (j + 1) (reverse given)) at source number) old

pub known_here : (given : List Given) (at : ℕ) (source : List ℕ) (number j : ℕ) (g : Given) → j < length given → g ≡ get_or given (length given - 1 - j) g
    → nat_le 400000 (at - g.at) ≡ false → is_given g source number ≡ true → known_number (drop j (reverse given)) at source number ≡ g.reference
known_here given at source number j g h is young here =
    known_more given at source number j g h is
    ∙ second_is (nat_le 400000 (at - g.at)) (is_given g source number) number g.reference (known_number (drop (j + 1) (reverse given)) at source number) young here

pub known_on : (given : List Given) (at : ℕ) (source : List ℕ) (number j : ℕ) (g : Given) → j < length given → g ≡ get_or given (length given - 1 - j) g
    → nat_le 400000 (at - g.at) ≡ false → is_given g source number ≡ false
    → known_number (drop j (reverse given)) at source number ≡ known_number (drop (j + 1) (reverse given)) at source number
known_on given at source number j g h is young other =
    known_more given at source number j g h is
    ∙ third_is (nat_le 400000 (at - g.at)) (is_given g source number) number g.reference (known_number (drop (j + 1) (reverse given)) at source number) young other

pub known_all : (given : List Given) (at : ℕ) (source : List ℕ) (number j : ℕ) → length given ≤ j → known_number (drop j (reverse given)) at source number ≡ number
known_all given at source number j h = ap (λ past. known_number past at source number) (back_all given j h)

-- ---- what the host handed down

or_true : (b rest : Bool) → b ≡ true → (b || rest) ≡ true
or_true false rest p = absurd (cc)
or_true true rest p = refl

or_false : (b rest : Bool) → b ≡ false → (b || rest) ≡ rest
or_false true rest p = absurd (cc)
or_false false rest p = refl

handed_more : (within moment : ℕ) (plain : List ℕ) (before : List Passage) (j : ℕ) (p : Passage) → j < length before → p ≡ get_or before (length before - 1 - j) p
    → was_handed_down within moment plain (drop j (reverse before))
    ≡ (if nat_lt within ((moment - p.moment) / 1000) then false
    else ((is_handed_down p && bytes_eq plain p.octets) || was_handed_down within moment plain (drop (j + 1) (reverse before))))
handed_more within moment plain before j p h is = ap (was_handed_down within moment plain) (back_more before j p h is)

chosen_first : (a x : Bool) → a ≡ true → (if a then false else x) ≡ false
chosen_first false x p = absurd (cc)
chosen_first true x p = refl

chosen_next : (a x : Bool) → a ≡ false → (if a then false else x) ≡ x
chosen_next true x p = absurd (cc)
chosen_next false x p = refl

pub handed_old : (within moment : ℕ) (plain : List ℕ) (before : List Passage) (j : ℕ) (p : Passage) → j < length before → p ≡ get_or before (length before - 1 - j) p
    → nat_lt within ((moment - p.moment) / 1000) ≡ true → was_handed_down within moment plain (drop j (reverse before)) ≡ false
handed_old within moment plain before j p h is old =
    handed_more within moment plain before j p h is
    ∙ chosen_first (nat_lt within ((moment - p.moment) / 1000)) ((is_handed_down p && bytes_eq plain p.octets) || was_handed_down within moment plain (drop (j + 1) (reverse before))) old

pub handed_here : (within moment : ℕ) (plain : List ℕ) (before : List Passage) (j : ℕ) (p : Passage) → j < length before → p ≡ get_or before (length before - 1 - j) p
    → nat_lt within ((moment - p.moment) / 1000) ≡ false → (is_handed_down p && bytes_eq plain p.octets) ≡ true
    → was_handed_down within moment plain (drop j (reverse before)) ≡ true
handed_here within moment plain before j p h is young here =
    handed_more within moment plain before j p h is
    ∙ chosen_next (nat_lt within ((moment - p.moment) / 1000)) ((is_handed_down p && bytes_eq plain p.octets) || was_handed_down within moment plain (drop (j + 1) (reverse before))) young
    ∙ or_true (is_handed_down p && bytes_eq plain p.octets) (was_handed_down within moment plain (drop (j + 1) (reverse before))) here

pub handed_on : (within moment : ℕ) (plain : List ℕ) (before : List Passage) (j : ℕ) (p : Passage) → j < length before → p ≡ get_or before (length before - 1 - j) p
    → nat_lt within ((moment - p.moment) / 1000) ≡ false → (is_handed_down p && bytes_eq plain p.octets) ≡ false
    → was_handed_down within moment plain (drop j (reverse before)) ≡ was_handed_down within moment plain (drop (j + 1) (reverse before))
handed_on within moment plain before j p h is young other =
    handed_more within moment plain before j p h is
    ∙ chosen_next (nat_lt within ((moment - p.moment) / 1000)) ((is_handed_down p && bytes_eq plain p.octets) || was_handed_down within moment plain (drop (j + 1) (reverse before))) young
    ∙ or_false (is_handed_down p && bytes_eq plain p.octets) (was_handed_down within moment plain (drop (j + 1) (reverse before))) other

pub handed_all : (within moment : ℕ) (plain : List ℕ) (before : List Passage) (j : ℕ) → length before ≤ j → was_handed_down within moment plain (drop j (reverse before)) ≡ false
handed_all within moment plain before j h = ap (was_handed_down within moment plain) (back_all before j h)

-- one more is the latest
pub pushed_back : {X : Type 0} (xs : List X) (x : X) → reverse (xs ++ x ∷ []) ≡ x ∷ reverse xs
pushed_back xs x = reverse-append xs (x ∷ [])
