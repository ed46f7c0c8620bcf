-- Steps of which some are left out: where the others stand, and the spans of their sends.
use Rattle.std.proofs.Common.{◌≡◌, ◌⊎◌, inl, inr, ℕ, zero, suc, ◌+◌, ◌-◌, ◌<◌, ◌≤◌, ◌==◌, ◌&&◌, nat_lt, nat_le, not, Bool, true, false, cond, if◌then◌else◌, List, [], ◌∷◌, ◌++◌, length, map, filter, take, Option, Some, None, refl, sym, ap, ◌∙◌, subst, arith, ⊎_elim}
use Rattle.std.specs.Prelude.{count_by, slice_get}
use Rattle.hsr_scenario.specs.declared.steps.Order.{Order}
use Rattle.hsr_plays.specs.Setup.{asked_by}
use Rattle.hsr_plays.specs.Spans.{cut_after, cut_behind, end_from, ends_span, moment_after, moment_behind, span_if, spans_from}
use Rattle.hsr_plays.specs.declared.span.Asked.{Asked}
use Rattle.hsr_plays.specs.declared.span.SendSpan.{SendSpan}
use Rattle.hsr_faults.proofs.Counting.{count_cons}

-- ---- spans that stand elsewhere

-- the same send, which stands elsewhere
pub record IsSame (base : ℕ) (where_is : ℕ → ℕ) (a b : SendSpan) : Type 0 where
  pub low : base ≤ b.index
  pub above : b.index < b.end
  pub asked : a.asked ≡ b.asked
  pub index : a.index ≡ where_is b.index
  pub end : a.end ≡ where_is b.end

-- the second spans are the same as some of the first
pub data AreSomeOf (base : ℕ) (where_is : ℕ → ℕ) : List SendSpan → List SendSpan → Type 0 where
  nothing : AreSomeOf base where_is [] []
  both : (a b : SendSpan) (xs ys : List SendSpan) → IsSame base where_is a b → AreSomeOf base where_is xs ys → AreSomeOf base where_is (a ∷ xs) (b ∷ ys)
  one : (a : SendSpan) (xs ys : List SendSpan) → AreSomeOf base where_is xs ys → AreSomeOf base where_is (a ∷ xs) ys

-- ---- the end of a span

end_shift : (within : Option ℕ) (sent i : ℕ) (os : List Order) → end_from within sent (suc i) os ≡ suc (end_from within sent i os)
end_shift within sent i [] = refl
end_shift within sent i (o ∷ os) =
    let same : suc i + 1 ≡ suc (i + 1) = omega arith in
    step (ends_span within sent o) (ap (λ n. end_from within sent n os) same ∙ end_shift within sent (i + 1) os)
  where
    step : (b : Bool) → end_from within sent (suc i + 1) os ≡ suc (end_from within sent (i + 1) os) → (if b then suc i else end_from within sent (suc i + 1) os) ≡ suc (if b then i else end_from within sent (i + 1) os)
    step true rest = refl
    step false rest = rest

pub end_after : (within : Option ℕ) (sent i : ℕ) (os : List Order) → end_from within sent i os ≡ i + end_from within sent 0 os
end_after within sent zero os = sym (Rattle.std.proofs.Common.zero-add (end_from within sent 0 os))
end_after within sent (suc i) os = let rest = end_after within sent i os in let one = end_shift within sent i os in omega (arith, rest, one)

-- where some links are off
module _ (off : ℕ → Bool) where
  -- ---- left out

  -- the step turns no clock, ends no span, and cuts or mends no link but those that are off
  pub record IsIdle (o : Order) : Type 0 where
    pub moment : (m : ℕ) → moment_after m o ≡ m
    pub ends : (within : Option ℕ) (sent : ℕ) → ends_span within sent o ≡ false
    pub cut : (l : ℕ) → off l ≡ false → (was : Bool) → cut_after l was o ≡ was

  pub data Thin : List Order → List Order → Type 0 where
    none : Thin [] []
    keep : (o : Order) (os ts : List Order) → Thin os ts → Thin (o ∷ os) (o ∷ ts)
    left : (o : Order) (os ts : List Order) → IsIdle o → Thin os ts → Thin (o ∷ os) ts

  pub thin_filter : (p : Order → Bool) → ((o : Order) → p o ≡ false → IsIdle o) → (os : List Order) → Thin os (filter p os)
  thin_filter p idle [] = none
  thin_filter p idle (o ∷ os) = by_test (p o) refl (thin_filter p idle os)
    where
      by_test : (b : Bool) → p o ≡ b → Thin os (filter p os) → Thin (o ∷ os) (cond b (o ∷ filter p os) (filter p os))
      by_test true is t = keep o os (filter p os) t
      by_test false is t = left o os (filter p os) (idle o is) t

  -- ---- where they stand

  -- the index among all steps of the one at an index among those that are left
  pub place : (os ts : List Order) → Thin os ts → ℕ → ℕ
  place _ _ none j = j
  place _ _ (keep o os ts t) zero = zero
  place _ _ (keep o os ts t) (suc j) = suc (place os ts t j)
  place _ _ (left o os ts idle t) j = suc (place os ts t j)

  pub place_rises : (os ts : List Order) (t : Thin os ts) (j k : ℕ) → j < k → place os ts t j < place os ts t k
  unfolding place
  place_rises _ _ none j k up = up
  place_rises _ _ (keep o os ts t) zero zero up = absurd (omega (arith, up))
  place_rises _ _ (keep o os ts t) zero (suc k) up = omega arith
  place_rises _ _ (keep o os ts t) (suc j) zero up = absurd (omega (arith, up))
  place_rises _ _ (keep o os ts t) (suc j) (suc k) up = let rest = place_rises os ts t j k (omega (arith, up)) in omega (arith, rest)
  place_rises _ _ (left o os ts idle t) j k up = let rest = place_rises os ts t j k up in omega (arith, rest)

  pub place_end : (os ts : List Order) (t : Thin os ts) → place os ts t (length ts) ≡ length os
  unfolding place
  place_end _ _ none = refl
  place_end _ _ (keep o os ts t) = ap suc (place_end os ts t)
  place_end _ _ (left o os ts idle t) = ap suc (place_end os ts t)

  pub place_got : (os ts : List Order) (t : Thin os ts) (j : ℕ) (o : Order) → slice_get ts j ≡ Some o → slice_get os (place os ts t j) ≡ Some o
  unfolding place
  place_got _ _ none j o got = got
  place_got _ _ (keep x os ts t) zero o got = got
  place_got _ _ (keep x os ts t) (suc j) o got = place_got os ts t j o got
  place_got _ _ (left x os ts idle t) j o got = place_got os ts t j o got

  pub place_moment : (os ts : List Order) (t : Thin os ts) (m j : ℕ) → moment_behind m (take j ts) ≡ moment_behind m (take (place os ts t j) os)
  unfolding place
  place_moment _ _ none m j = refl
  place_moment _ _ (keep o os ts t) m zero = refl
  place_moment _ _ (keep o os ts t) m (suc j) = place_moment os ts t (moment_after m o) j
  place_moment _ _ (left o os ts idle t) m j = place_moment os ts t m j ∙ ap (λ n. moment_behind n (take (place os ts t j) os)) (sym (idle.moment m))

  pub place_ends : (os ts : List Order) (t : Thin os ts) (within : Option ℕ) (sent : ℕ) → end_from within sent 0 os ≡ place os ts t (end_from within sent 0 ts)
  unfolding place
  place_ends _ _ none within sent = refl
  place_ends _ _ (keep o os ts t) within sent = step (ends_span within sent o) (place_ends os ts t within sent)
    where
      step : (b : Bool) → end_from within sent 0 os ≡ place os ts t (end_from within sent 0 ts) →
          (if b then 0 else end_from within sent (0 + 1) os) ≡ place (o ∷ os) (o ∷ ts) (keep o os ts t) (if b then 0 else end_from within sent (0 + 1) ts)
      step true rest = refl
      step false rest = end_shift within sent 0 os ∙ (ap suc rest ∙ ap (place (o ∷ os) (o ∷ ts) (keep o os ts t)) (sym (end_shift within sent 0 ts)))
  place_ends _ _ (left o os ts idle t) within sent =
      ap (λ (b : Bool). if b then 0 else end_from within sent (0 + 1) os) (idle.ends within sent) ∙ (end_shift within sent 0 os ∙ ap suc (place_ends os ts t within sent))

  -- cuts of links that aren't off
  pub place_cut : (os ts : List Order) (t : Thin os ts) (l : ℕ) (was : Bool) (j : ℕ) → off l ≡ false → cut_behind l was (take j ts) ≡ cut_behind l was (take (place os ts t j) os)
  unfolding place
  place_cut _ _ none l was j on = refl
  place_cut _ _ (keep o os ts t) l was zero on = refl
  place_cut _ _ (keep o os ts t) l was (suc j) on = place_cut os ts t l (cut_after l was o) j on
  place_cut _ _ (left o os ts idle t) l was j on = place_cut os ts t l was j on ∙ ap (λ b. cut_behind l b (take (place os ts t j) os)) (sym (idle.cut l on was))

  pub thin_spans : (os ts : List Order) (t : Thin os ts) (within : Option ℕ) (m i j : ℕ) (base : ℕ) (where_is : ℕ → ℕ) → base ≤ i → ((n : ℕ) → where_is (i + n) ≡ j + place os ts t n) →
      AreSomeOf base where_is (spans_from within m j os) (spans_from within m i ts)
  unfolding place
  thin_spans _ _ none within m i j base where_is low at = nothing
  thin_spans _ _ (keep o os ts t) within m i j base where_is low at =
      step (asked_by o) (thin_spans os ts t within (moment_after m o) (i + 1) (j + 1) base where_is (omega (arith, low))
      (λ n. let e : i + 1 + n ≡ i + suc n = omega arith in let next = at (suc n) in ap where_is e ∙ omega (arith, next)))
    where
      same : (asked : Asked) → IsSame base where_is (record { asked = asked; index = j; moment = m; end = end_from within m (j + 1) os }) (record { asked = asked; index = i; moment = m; end = end_from within m (i + 1) ts })
      same asked =
          let first = at zero in
          let i_is : i + 0 ≡ i = omega arith in
          let here : where_is i ≡ where_is (i + 0) = ap where_is (sym i_is) in
          let ends = place_ends os ts t within m in
          let mine = end_after within m (j + 1) os in
          let theirs : end_from within m (i + 1) ts ≡ i + suc (end_from within m 0 ts) = let e = end_after within m (i + 1) ts in omega (arith, e) in
          let there = at (suc (end_from within m 0 ts)) in
          let moved : where_is (end_from within m (i + 1) ts) ≡ where_is (i + suc (end_from within m 0 ts)) = ap where_is theirs in
          record { low = low; above = omega (arith, theirs); asked = refl; index = omega (arith, first, here); end = omega (arith, ends, mine, there, moved) }

      step : (asked : Option Asked) → AreSomeOf base where_is (spans_from within (moment_after m o) (j + 1) os) (spans_from within (moment_after m o) (i + 1) ts) →
          AreSomeOf base where_is (span_if within m j os asked ++ spans_from within (moment_after m o) (j + 1) os) (span_if within m i ts asked ++ spans_from within (moment_after m o) (i + 1) ts)
      step None rest = rest
      step (Some asked) rest = both _ _ _ _ (same asked) rest
  thin_spans _ _ (left o os ts idle t) within m i j base where_is low at =
      step (asked_by o) (subst (λ n. AreSomeOf base where_is (spans_from within n (j + 1) os) (spans_from within m i ts)) (sym (idle.moment m))
      (thin_spans os ts t within m i (j + 1) base where_is low (λ n. let here = at n in omega (arith, here))))
    where
      step : (asked : Option Asked) → AreSomeOf base where_is (spans_from within (moment_after m o) (j + 1) os) (spans_from within m i ts) →
          AreSomeOf base where_is (span_if within m j os asked ++ spans_from within (moment_after m o) (j + 1) os) (spans_from within m i ts)
      step None rest = rest
      step (Some asked) rest = one _ _ _ rest

-- ---- what is asked of some of them

-- one of the second is one of the first
pub some_got : (base : ℕ) (where_is : ℕ → ℕ) (xs ys : List SendSpan) → AreSomeOf base where_is xs ys → (i : ℕ) (b : SendSpan) → slice_get ys i ≡ Some b → (j : ℕ) × (a : SendSpan) × (slice_get xs j ≡ Some a) × IsSame base where_is a b
some_got base where_is _ _ nothing i b got = absurd (nope got)
  where
    nope : None ≡ Some b → ⊥
    nope e = cc
some_got base where_is _ _ (both a x xs ys same rest) zero b got =
    let is : x ≡ b = let e : Some x ≡ Some b = got in cc in
    (zero, a, refl, subst (λ (y : SendSpan). IsSame base where_is a y) is same)
some_got base where_is _ _ (both a x xs ys same rest) (suc i) b got = let found = some_got base where_is xs ys rest i b got in (suc found.0, found.1, found.2, found.3)
some_got base where_is _ _ (one a xs ys rest) i b got = let found = some_got base where_is xs ys rest i b got in (suc found.0, found.1, found.2, found.3)

-- no more of the second pass a test than of the first
pub some_count : (base : ℕ) (where_is : ℕ → ℕ) (p q : SendSpan → Bool) → ((a b : SendSpan) → IsSame base where_is a b → q b ≡ true → p a ≡ true) → (xs ys : List SendSpan) → AreSomeOf base where_is xs ys → count_by q ys ≤ count_by p xs
some_count base where_is p q also _ _ nothing = omega arith
some_count base where_is p q also _ _ (both a b xs ys same rest) =
    let more = some_count base where_is p q also xs ys rest in
    let mine = count_cons p a xs in
    let theirs = count_cons q b ys in
    let here = no_more (q b) refl in
    omega (arith, more, mine, theirs, here)
  where
    no_more : (t : Bool) → q b ≡ t → cond {A = ℕ} (q b) 1 0 ≤ cond {A = ℕ} (p a) 1 0
    no_more true is =
        let x : cond {A = ℕ} (q b) 1 0 ≡ 1 = ap (λ (t : Bool). cond {A = ℕ} t 1 0) is in
        let y : cond {A = ℕ} (p a) 1 0 ≡ 1 = ap (λ (t : Bool). cond {A = ℕ} t 1 0) (also a b same is) in
        omega (arith, x, y)
    no_more false is = let x : cond {A = ℕ} (q b) 1 0 ≡ 0 = ap (λ (t : Bool). cond {A = ℕ} t 1 0) is in omega (arith, x)
some_count base where_is p q also _ _ (one a xs ys rest) =
    let more = some_count base where_is p q also xs ys rest in
    let mine = count_cons p a xs in
    omega (arith, more, mine)
