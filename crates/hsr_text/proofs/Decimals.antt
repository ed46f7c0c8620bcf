-- Decimal digits, read one by one with a test at each.
use Rattle.std.proofs.Common.{◌≡◌, ℕ, ◌+◌, ◌-◌, ◌*◌, ◌^◌, ◌<◌, ◌≤◌, ◌==◌, ◌&&◌, ◌||◌, nat_le, nat_lt, inl, inr, Option, None, Some, List, [], ◌∷◌, ◌∙◌, length, get_or, refl, sym, ap, arith, cond, Bool, true, false}
use Rattle.std.proofs.lemmas.Bool.{and_parts, and_right, cases_lt, or_left, or_right}
use Rattle.std.proofs.lemmas.Bool.Decides.{nat_tests}
use Rattle.std.specs.Str.{all_ascii_digits}
use Rattle.std.specs.Char.{is_ascii_digit}
use Rattle.hsr_text.specs.Words.{value_on, is_decimal, decimal_of}

-- the number of digits behind those that gave n
abbrev pub digits_on : ℕ → List ℕ → Option ℕ
digits_on n [] = Some n
digits_on n (b ∷ bs) = cond (is_ascii_digit b && nat_lt (10 * n + (b - 48)) (2 ^ 64)) (digits_on (10 * n + (b - 48)) bs) None

and_true : (t : Bool) → (t && true) ≡ t
and_true true = refl
and_true false = refl

abbrev told : ℕ → List ℕ → Option ℕ
told n ds = cond (all_ascii_digits ds && nat_lt (value_on n ds) (2 ^ 64)) (Some (value_on n ds)) None

value_grows : (n : ℕ) (ds : List ℕ) → n ≤ value_on n ds
value_grows n [] = omega arith
value_grows n (c ∷ cs) = let h = value_grows (10 * n + (c - 48)) cs in omega (arith, h)

digits_told : (n : ℕ) (ds : List ℕ) → n < 2 ^ 64 → digits_on n ds ≡ told n ds
digits_told n [] h = let e : nat_lt n (2 ^ 64) ≡ true = grind (arith, nat_tests) in ap (λ t. cond t (Some n) None) (sym e)
digits_told n (b ∷ bs) h = go (is_ascii_digit b) refl (nat_lt (10 * n + (b - 48)) (2 ^ 64)) refl (digits_told (10 * n + (b - 48)) bs)
  where
    go : (t : Bool) → is_ascii_digit b ≡ t → (u : Bool) → nat_lt (10 * n + (b - 48)) (2 ^ 64) ≡ u → (10 * n + (b - 48) < 2 ^ 64 → digits_on (10 * n + (b - 48)) bs ≡ told (10 * n + (b - 48)) bs) → digits_on n (b ∷ bs) ≡ told n (b ∷ bs)
    go false e u f more = rw e refl
    go true e true f more = rw (e, f) (more (grind (arith, nat_tests, f)))
    go true e false f more =
        let grown = value_grows (10 * n + (b - 48)) bs in
        let over : nat_lt (value_on (10 * n + (b - 48)) bs) (2 ^ 64) ≡ false = grind (arith, nat_tests, grown, f) in
        rw (e, f) (ap (λ t. cond t (Some (value_on (10 * n + (b - 48)) bs)) None) (sym (and_right (all_ascii_digits bs) _ over)))

-- a zero stands before other digits
pub zero_first : (word : List ℕ) → get_or word 0 0 ≡ 48 → 1 < length word → None ≡ decimal_of word
zero_first [] e h = absurd (omega arith)
zero_first (b ∷ []) e h = absurd (omega arith)
zero_first (b ∷ c ∷ cs) e h =
    let low : nat_lt 48 b ≡ false = grind (arith, nat_tests, e) in
    let others : (length (c ∷ cs) == 0) ≡ false = grind (arith, nat_tests) in
    let no : (nat_lt 48 b || length (c ∷ cs) == 0) ≡ false = rw (low, others) refl in
    rw (and_right (all_ascii_digits (b ∷ c ∷ cs)) _ no) refl

alone : (b : ℕ) (bs : List ℕ) → is_ascii_digit b ≡ true → (b ≡ 48 → length bs ≡ 0) → (nat_lt 48 b || length bs == 0) ≡ true
alone b bs digit lead = elim (cases_lt 48 b) [
  | inl above ↦ or_left _ _ (let e : nat_lt 48 b ≡ true = grind (arith, nat_tests, above) in e)
  | inr low ↦
      let least = (and_parts (nat_le 48 b) (nat_le b 57) digit).0 in
      let zero : b ≡ 48 = grind (arith, nat_tests, low, least) in
      or_right (nat_lt 48 b) _ (rw (lead zero) refl)
]

none_first : (b : ℕ) (bs : List ℕ) → (b ≡ 48 → length bs ≡ 0) → is_decimal (b ∷ bs) ≡ all_ascii_digits (b ∷ bs)
none_first b bs lead = go (is_ascii_digit b) refl
  where
    go : (t : Bool) → is_ascii_digit b ≡ t → is_decimal (b ∷ bs) ≡ all_ascii_digits (b ∷ bs)
    go false e = rw e refl
    go true e = rw (e, alone b bs e lead) (and_true (all_ascii_digits bs))

-- no zero stands before other digits
pub read_all : (word : List ℕ) → 0 < length word → (get_or word 0 0 ≡ 48 → length word ≤ 1) → digits_on 0 word ≡ decimal_of word
read_all [] some lead = absurd (omega arith)
read_all (b ∷ bs) some lead =
    let e = none_first b bs (λ z. let h = lead z in omega (arith, h)) in
    digits_told 0 (b ∷ bs) (omega arith) ∙ ap (λ t. cond (t && nat_lt (value_on 0 (b ∷ bs)) (2 ^ 64)) (Some (value_on 0 (b ∷ bs))) None) (sym e)
