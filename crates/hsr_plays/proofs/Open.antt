-- When a send is open, and which sends are open at once.
use Rattle.std.proofs.Common.{◌≡◌, ℕ, ◌+◌, ◌-◌, ◌<◌, ◌≤◌, ◌==◌, ◌&&◌, nat_lt, nat_le, Bool, true, false, cond, if◌then◌else◌, List, [], ◌∷◌, length, drop, count_by, Option, Some, refl, sym, ap, ◌∙◌, subst, arith, zero, suc, ltb-true, lt-ltb, leb-true, le-leb, eqb-true, zero-add, ⊎_elim}
use Rattle.std.specs.Prelude.{slice_get}
use Rattle.std.specs.List.{AllByRecursion, list_any}
use Rattle.std.proofs.lemmas.Bool.{and_from, and_parts, cases_Bool, cases_eq, false≢true, eqb-false}
use Rattle.std.proofs.lemmas.Option.{slice_get_within}
use Rattle.hsr_run_laws.proofs.Lists.{any_with, count_more, none_all, one_if, zero_if}
use Rattle.hsr_scenario.specs.declared.steps.Order.{Order}
use Rattle.hsr_plays.specs.Conditions.{HasRoom, OfSends}
use Rattle.hsr_plays.specs.Setup.{Setup}
use Rattle.hsr_plays.specs.Spans.{end_from, ends_span, is_open_at, meets, spans, spans_from}
use Rattle.hsr_plays.specs.declared.span.SendSpan.{SendSpan}
use Rattle.hsr_plays.proofs.Asking.{asked_at, is_placed}
use Rattle.hsr_plays.proofs.Times.{end_above}

-- ---- at a time

pub open_parts : (n : ℕ) (span : SendSpan) → is_open_at n span ≡ true → (span.index < n) × (n ≤ span.end)
open_parts n span h = let parts = and_parts (nat_lt span.index n) (nat_le n span.end) h in (ltb-true span.index n parts.0, leb-true n span.end parts.1)

pub open_from : (n : ℕ) (span : SendSpan) → span.index < n → n ≤ span.end → is_open_at n span ≡ true
open_from n span above below = and_from (nat_lt span.index n) (nat_le n span.end) (lt-ltb span.index n above) (le-leb n span.end below)

-- two that are open at once meet
pub open_meet : (n : ℕ) (a b : SendSpan) → is_open_at n a ≡ true → is_open_at n b ≡ true → meets a b ≡ true
open_meet n a b is_a is_b =
    let p = open_parts n a is_a in
    let q = open_parts n b is_b in
    and_from (nat_lt a.index b.end) (nat_lt b.index a.end) (lt-ltb a.index b.end (omega (arith, p, q))) (lt-ltb b.index a.end (omega (arith, p, q)))

-- ---- the end

got_behind : (a k : ℕ) (orders : List Order) (o : Order) → slice_get orders (a + k) ≡ Some o → slice_get (drop a orders) k ≡ Some o
got_behind zero k orders o got = subst (λ n. slice_get orders n ≡ Some o) (zero-add k) got
got_behind (suc a) k [] o got = absurd cc
got_behind (suc a) k (q ∷ later) o got =
    let e : suc a + k ≡ suc (a + k) = omega arith in got_behind a k later o (subst (λ n. slice_get (q ∷ later) n ≡ Some o) e got)

-- the step at the end of a span ends it
at_end : (within : Option ℕ) (m i : ℕ) (later : List Order) (k : ℕ) (o : Order) → end_from within m i later ≡ i + k → slice_get later k ≡ Some o → ends_span within m o ≡ true
at_end within m i [] k o e got = absurd cc
at_end within m i (q ∷ later) zero o e got = step (ends_span within m q) refl e
  where
    step : (b : Bool) → ends_span within m q ≡ b → (if b then i else end_from within m (i + 1) later) ≡ i + 0 → ends_span within m o ≡ true
    step true is e = let same : q ≡ o = let f : Some q ≡ Some o = got in cc in ap (ends_span within m) (sym same) ∙ is
    step false is e = let above = end_above within m (i + 1) later in absurd (omega (arith, above, e))
at_end within m i (q ∷ later) (suc k) o e got = step (ends_span within m q) e (λ there. at_end within m (i + 1) later k o there got)
  where
    step : (b : Bool) → (if b then i else end_from within m (i + 1) later) ≡ i + suc k → (end_from within m (i + 1) later ≡ i + 1 + k → ends_span within m o ≡ true) → ends_span within m o ≡ true
    step true e rest = absurd (omega (arith, e))
    step false e rest = rest (omega (arith, e))

-- what is open before a step that doesn't end its span is open behind it
pub still_open : (within : Option ℕ) (orders : List Order) (j : ℕ) (span : SendSpan) → slice_get (spans_from within 0 0 orders) j ≡ Some span →
    (n : ℕ) (o : Order) → slice_get orders n ≡ Some o → ends_span within span.moment o ≡ false → is_open_at n span ≡ true → is_open_at (n + 1) span ≡ true
still_open within orders j span listed n o got goes_on is_open =
    let p = open_parts n span is_open in
    let a = asked_at within 0 0 orders j span listed in
    let index = a.index_is in
    ⊎_elim
    (λ same.
    let k : suc a.at + (n - suc a.at) ≡ n = omega (arith, p, index) in
    let there : slice_get (drop (suc a.at) orders) (n - suc a.at) ≡ Some o = got_behind (suc a.at) (n - suc a.at) orders o (ap (slice_get orders) k ∙ got) in
    let end = a.end_is in
    let is : end_from within span.moment (span.index + 1) (drop (suc a.at) orders) ≡ span.index + 1 + (n - suc a.at) = omega (arith, end, same, p, index) in
    absurd (false≢true (sym goes_on ∙ at_end within span.moment (span.index + 1) (drop (suc a.at) orders) (n - suc a.at) o is there)))
    (λ other. open_from (n + 1) span (omega (arith, p)) (above (span.end) p.1 other))
    (cases_eq n span.end)
  where
    above : (e : ℕ) → n ≤ e → (n ≡ e → ⊥) → n + 1 ≤ e
    above e low other = omega arith

-- a send is open behind its step
pub opened : (within : Option ℕ) (orders : List Order) (j : ℕ) (span : SendSpan) → slice_get (spans_from within 0 0 orders) j ≡ Some span → is_open_at (span.index + 1) span ≡ true
opened within orders j span listed = let p = is_placed within orders j span listed in open_from (span.index + 1) span (omega arith) p.above

-- ---- how many are open

fewer : (p q : SendSpan → Bool) (xs : List SendSpan) → AllByRecursion (λ x. p x ≡ true → q x ≡ true) xs → count_by p xs ≤ count_by q xs
fewer p q [] all = omega arith
fewer p q (x ∷ xs) all =
    let rest = fewer p q xs all.1 in
    let a = count_more p x xs in
    let b = count_more q x xs in
    ⊎_elim (λ yes. let one = one_if (p x) yes in let two = one_if (q x) (all.0 yes) in omega arith)
    (λ no. let none = zero_if (p x) no in omega arith) (cases_Bool (p x))

nobody : (xs : List SendSpan) → count_by (is_open_at 0) xs ≤ 0
nobody [] = omega arith
nobody (x ∷ xs) =
    let rest = nobody xs in
    let a = count_more (is_open_at 0) x xs in
    ⊎_elim (λ yes. let p = open_parts 0 x yes in absurd (omega (arith, p))) (λ no. let none = zero_if (is_open_at 0 x) no in omega arith) (cases_Bool (is_open_at 0 x))

-- a send of a list, with its place
found : (p : SendSpan → Bool) (xs : List SendSpan) → list_any p xs ≡ true → (i : ℕ) × (x : SendSpan) × (slice_get xs i ≡ Some x) × (p x ≡ true)
found p [] h = absurd (false≢true h)
found p (x ∷ xs) h =
    ⊎_elim (λ here. (zero, x, refl, here)) (λ later. let at = found p xs later in (suc at.0, at.1, at.2, at.3)) (Rattle.std.proofs.lemmas.Bool.or_cases (p x) (list_any p xs) h)

-- where there is room behind each send there is room at each time
pub room_always : (s : Setup) → OfSends HasRoom s → (n : ℕ) → count_by (is_open_at n) (spans s) ≤ s.room
room_always s room zero = let none = nobody (spans s) in omega arith
room_always s room (suc n) =
    let rest = room_always s room n in
    ⊎_elim
    (λ some.
    let at = found (λ (x : SendSpan). x.index == n) (spans s) some in
    let is = eqb-true at.1.index n at.3 in
    let next : at.1.index + 1 ≡ suc n = omega (arith, is) in
    subst (λ m. count_by (is_open_at m) (spans s) ≤ s.room) next (room at.0 at.1 at.2))
    (λ none.
    let less = fewer (is_open_at (suc n)) (is_open_at n) (spans s) (before (spans s) (none_all (λ (x : SendSpan). x.index == n) (spans s) none)) in
    omega arith)
    (cases_Bool (list_any (λ (x : SendSpan). x.index == n) (spans s)))
  where
    before : (xs : List SendSpan) → AllByRecursion (λ (x : SendSpan). (x.index == n) ≡ false) xs → AllByRecursion (λ x. is_open_at (suc n) x ≡ true → is_open_at n x ≡ true) xs
    before [] all = tt
    before (x ∷ xs) all = (
      (λ is.
          let p = open_parts (suc n) x is in
          let other = eqb-false x.index n all.0 in
          open_from n x (lower x.index p.0 other) (omega (arith, p))),
      before xs all.1,
    )
      where
        lower : (i : ℕ) → i < suc n → (i ≡ n → ⊥) → i < n
        lower i a b = omega arith
