-- Orders: by a key, and by a key and then by another order.
use Rattle.std.proofs.Common.{◌≡◌, ◌&&◌, ◌||◌, ◌⊎◌, inl, inr, ◌∙◌, ℕ, Bool, true, false, nat_lt, sym, ap, arith}
use Rattle.std.specs.Prelude.{nat_eq}
use Rattle.std.proofs.lemmas.Bool.{and_cases, and_left, and_parts, and_right, cases_Bool, eqb-true, eq-eqb, false≢true, le-ltb, ltb-false, ltb-true, ne_eqb, or_cases, or_from, or_parts}
use Rattle.hsr_latency.proofs.First.{IsOrder}

pub by_key : {A : Type 0} (key : A → ℕ) (gt : ℕ → ℕ → Bool) → IsOrder gt → IsOrder (λ (x y : A). gt (key x) (key y))
by_key key gt o = record {
  itself = λ a. o.itself (key a);
  other = λ a b. o.other (key a) (key b);
  through = λ a b c. o.through (key a) (key b) (key c);
}

pub lower_first : IsOrder nat_lt
lower_first = record {
  itself = λ a. le-ltb a a (omega arith);
  other = λ a b less. let is = ltb-true b a less in le-ltb a b (omega (arith, is));
  through = λ a b c x y. let one = ltb-false b a x in let two = ltb-false a c y in le-ltb b c (omega (arith, one, two));
}

pub higher_first : IsOrder (λ (x y : ℕ). nat_lt y x)
higher_first = record {
  itself = λ a. le-ltb a a (omega arith);
  other = λ a b less. let is = ltb-true a b less in le-ltb b a (omega (arith, is));
  through = λ a b c x y. let one = ltb-false a b x in let two = ltb-false c a y in le-ltb c b (omega (arith, one, two));
}

abbrev pub IsApart : (ℕ → ℕ → Bool) → Type 0
IsApart gt = (a b : ℕ) → gt a b ≡ false → gt b a ≡ false → a ≡ b

pub lower_apart : IsApart nat_lt
lower_apart a b x y = let one = ltb-false a b x in let two = ltb-false b a y in omega (arith, one, two)

pub higher_apart : IsApart (λ (x y : ℕ). nat_lt y x)
higher_apart a b x y = lower_apart a b y x

-- by the key, and where keys are equal by the other
pub by_key_then : {A : Type 0} (key : A → ℕ) (gt : ℕ → ℕ → Bool) → IsOrder gt → IsApart gt → (then : A → A → Bool) → IsOrder then →
    IsOrder (λ (x y : A). gt (key x) (key y) || (nat_eq (key x) (key y) && then x y))
by_key_then {A} key gt o apart then p = record {
  itself = λ a. or_from (gt (key a) (key a)) (nat_eq (key a) (key a) && then a a) (o.itself (key a)) (and_right (nat_eq (key a) (key a)) (then a a) (p.itself a));
  other = λ a b is. by_other a b (or_cases (gt (key b) (key a)) (nat_eq (key b) (key a) && then b a) is);
  through = λ a b c x y. by_through a b c (or_parts (gt (key b) (key a)) (nat_eq (key b) (key a) && then b a) x) (or_parts (gt (key a) (key c)) (nat_eq (key a) (key c) && then a c) y);
}
  where
    Over : A → A → Bool
    Over = λ x y. gt (key x) (key y) || (nat_eq (key x) (key y) && then x y)

    by_other : (a b : A) → (gt (key b) (key a) ≡ true) ⊎ ((nat_eq (key b) (key a) && then b a) ≡ true) → Over a b ≡ false
    by_other a b (inl more) =
        or_from (gt (key a) (key b)) (nat_eq (key a) (key b) && then a b) (o.other (key a) (key b) more)
        (and_left (nat_eq (key a) (key b)) (then a b) (ne_eqb (key a) (key b) (λ same. false≢true (sym (ap (λ k. gt (key b) k) same ∙ o.itself (key b)) ∙ more))))
    by_other a b (inr even) =
        let parts = and_parts (nat_eq (key b) (key a)) (then b a) even in
        let same = eqb-true (key b) (key a) parts.0 in
        or_from (gt (key a) (key b)) (nat_eq (key a) (key b) && then a b) (ap (λ k. gt (key a) k) same ∙ o.itself (key a))
        (and_right (nat_eq (key a) (key b)) (then a b) (p.other a b parts.1))

    no_more : (x y : A) → key x ≡ key y → (nat_eq (key x) (key y) && then x y) ≡ false → then x y ≡ false
    no_more x y same h = by_case (and_cases (nat_eq (key x) (key y)) (then x y) h)
      where
        by_case : (nat_eq (key x) (key y) ≡ false) ⊎ (then x y ≡ false) → then x y ≡ false
        by_case (inl apart_is) = absurd (false≢true (sym apart_is ∙ eq-eqb (key x) (key y) same))
        by_case (inr is) = is

    by_through : (a b c : A) → (gt (key b) (key a) ≡ false) × ((nat_eq (key b) (key a) && then b a) ≡ false) → (gt (key a) (key c) ≡ false) × ((nat_eq (key a) (key c) && then a c) ≡ false) →
        Over b c ≡ false
    by_through a b c x y =
        or_from (gt (key b) (key c)) (nat_eq (key b) (key c) && then b c) (o.through (key a) (key b) (key c) x.0 y.0) (by_case (cases_Bool (nat_eq (key b) (key c))))
      where
        by_case : (nat_eq (key b) (key c) ≡ true) ⊎ (nat_eq (key b) (key c) ≡ false) → (nat_eq (key b) (key c) && then b c) ≡ false
        by_case (inl even) =
            let same = eqb-true (key b) (key c) even in
            let near : key b ≡ key a = apart (key b) (key a) x.0 (ap (λ k. gt (key a) k) same ∙ y.0) in
            let far : key a ≡ key c = sym near ∙ same in
            and_right (nat_eq (key b) (key c)) (then b c) (p.through a b c (no_more b a near x.1) (no_more a c far y.1))
        by_case (inr other) = and_left (nat_eq (key b) (key c)) (then b c) other
