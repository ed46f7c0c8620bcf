-- Octets that are looked at in blocks.
use Rattle.std.proofs.Common.{ℕ, zero, suc, ◌≡◌, ◌+◌, ◌-◌, ◌*◌, ◌≤◌, ◌==◌, ◌∙◌, ◌&&◌, Bool, true, false, nat_le, nat_lt, List, [], ◌∷◌, ◌++◌, length, map, take, take-add, drop, refl, sym, ap, arith}
use Rattle.std.proofs.Math.Bool.{and_assoc, and-false}
use Rattle.std.proofs.lemmas.Bool.{and_parts}
use Rattle.std.proofs.lemmas.Bool.Decides.{nat_tests}
use Rattle.std.proofs.lemmas.List.{length-drop, take-append-drop, take_all}
use Rattle.std.specs.Simd.Lanes.{mask_l}
use Rattle.hsr_transcript_lines.specs.Exact.{is_upper}

-- no bit is set where none is a lower-case letter
pub none_set : (xs : List ℕ) → (mask_l (map (nat_le 97) xs) == 0) ≡ is_upper xs
none_set [] = refl
none_set (x ∷ xs) = go (nat_le 97 x) refl (none_set xs)
  where
    doubled : (m : ℕ) → ((0 + 2 * m) == 0) ≡ (m == 0)
    doubled zero = refl
    doubled (suc m) =
        let two : ((0 + 2 * suc m) == 0) ≡ false = grind (arith, nat_tests) in
        let one : (suc m == 0) ≡ false = grind (arith, nat_tests) in
        two ∙ sym one

    go : (t : Bool) → nat_le 97 x ≡ t → (mask_l (map (nat_le 97) xs) == 0) ≡ is_upper xs → (mask_l (map (nat_le 97) (x ∷ xs)) == 0) ≡ (nat_lt x 97 && is_upper xs)
    go true e rest =
        let letter : nat_lt x 97 ≡ false = grind (arith, nat_tests, e) in
        let set : ((1 + 2 * mask_l (map (nat_le 97) xs)) == 0) ≡ false = grind (arith, nat_tests) in
        rw (e, letter) set
    go false e rest =
        let other : nat_lt x 97 ≡ true = grind (arith, nat_tests, e) in
        rw (e, other) (doubled (mask_l (map (nat_le 97) xs)) ∙ rest)

upper_parts : (xs ys : List ℕ) → is_upper (xs ++ ys) ≡ (is_upper xs && is_upper ys)
upper_parts [] ys = refl
upper_parts (x ∷ xs) ys = ap (λ t. nat_lt x 97 && t) (upper_parts xs ys) ∙ sym (and_assoc (nat_lt x 97) (is_upper xs) (is_upper ys))

-- a block more
pub more_upper : (word : List ℕ) (at m : ℕ) → m ≡ at + 32 → is_upper (take 32 (drop at word)) ≡ true → is_upper (take at word) ≡ true
    → is_upper (take m word) ≡ true
more_upper word at m is block before =
    ap (λ (n : ℕ). is_upper (take n word)) is ∙ ap is_upper (take-add at 32 word) ∙ upper_parts (take at word) (take 32 (drop at word))
    ∙ rw (before, block) refl

-- a block with a lower-case letter
pub block_not_upper : (word : List ℕ) (at : ℕ) → is_upper (take 32 (drop at word)) ≡ false → is_upper word ≡ false
block_not_upper word at other =
    let rest : List ℕ = drop at word in
    let here : is_upper rest ≡ false
    = ap is_upper (sym (take-append-drop 32 rest)) ∙ upper_parts (take 32 rest) (drop 32 rest) ∙ rw other refl in
    ap is_upper (sym (take-append-drop at word)) ∙ upper_parts (take at word) rest ∙ rw here (and-false (is_upper (take at word)))

-- the last block, which may lie over a part of the one before it
pub last_upper : (word : List ℕ) (last whole : ℕ) → last ≤ whole → last + 32 ≡ length word → is_upper (take whole word) ≡ true
    → is_upper (take 32 (drop last word)) ≡ is_upper word
last_upper word last whole within is before =
    let n : ℕ = whole - last in
    let sum : last + n ≡ whole = omega arith in
    let parts : (is_upper (take last word) && is_upper (take n (drop last word))) ≡ true
    = sym (upper_parts (take last word) (take n (drop last word))) ∙ ap is_upper (sym (take-add last n word)) ∙ ap (λ (k : ℕ). is_upper (take k word)) sum ∙ before in
    let front : is_upper (take last word) ≡ true = (and_parts (is_upper (take last word)) _ parts).0 in
    let all : take 32 (drop last word) ≡ drop last word = take_all 32 (drop last word) (omega (arith, length-drop last word)) in
    let whole_is : is_upper word ≡ is_upper (drop last word)
    = ap is_upper (sym (take-append-drop last word)) ∙ upper_parts (take last word) (drop last word) ∙ rw front refl in
    ap is_upper all ∙ sym whole_is
