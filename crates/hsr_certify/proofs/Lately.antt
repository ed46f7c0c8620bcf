-- Since any time of a span the clock rose by less than so much, just where the test says so.
use Rattle.std.proofs.Common.{◌≡◌, ℕ, ◌+◌, ◌-◌, ◌<◌, ◌≤◌, min, nat_lt, true, List, [], ◌∷◌, length, take, drop, refl, sym, ap, ◌∙◌, arith, zero, suc, ltb-true, lt-ltb, ⊎_elim, length-drop}
use Rattle.std.proofs.lemmas.Bool.{and_parts, and_from, cases_lt}
use Rattle.hsr_tables.specs.Known.{node_forget}
use Rattle.hsr_scenario.specs.declared.steps.Order.{Order}
use Rattle.hsr_plays.specs.Spans.{RisesLess, moment_after, moment_at, moment_behind}
use Rattle.hsr_plays.specs.declared.span.SendSpan.{SendSpan}
use Rattle.hsr_certify.specs.Tests.{inner_steps, least_behind, rises_less, stays_below, was_lately}
use Rattle.hsr_plays.proofs.Asking.{IsPlaced}
use Rattle.hsr_certify.proofs.Brief.{at_time, inner_length, inside_rises, length_of_take, rises_inside}
use Rattle.hsr_certify.proofs.Rises.{mom}
use Rattle.hsr_plays.proofs.Times.{moment_on_from, take_within}

-- ---- the least moment

-- no moment behind some first steps is below the least
pub least_under : (least m : ℕ) (steps : List Order) → least ≤ m → (k : ℕ) → k ≤ length steps → least_behind least m steps ≤ mom m steps k
least_under least m [] low zero few = low
least_under least m [] low (suc k) few = absurd (omega (arith, few))
least_under least m (o ∷ later) low zero few =
    let rest = under (min least (moment_after m o)) (moment_after m o) later in
    omega (arith, rest, low)
  where
    under : (l n : ℕ) (steps : List Order) → least_behind l n steps ≤ l
    under l n [] = omega arith
    under l n (q ∷ qs) = let rest = under (min l (moment_after n q)) (moment_after n q) qs in omega (arith, rest)
least_under least m (o ∷ later) low (suc k) few = least_under (min least (moment_after m o)) (moment_after m o) later (omega arith) k (omega (arith, few))

-- and it is one of them, or the least before
record IsLeast (least m : ℕ) (steps : List Order) : Type 0 where
  bound : (x : ℕ) → x ≤ least → ((k : ℕ) → 0 < k → k ≤ length steps → x ≤ mom m steps k) → x ≤ least_behind least m steps

is_least : (least m : ℕ) (steps : List Order) → IsLeast least m steps
is_least least m [] = record { bound = λ x low all. low }
is_least least m (o ∷ later) =
    let rest = is_least (min least (moment_after m o)) (moment_after m o) later in
    record {
      bound = λ x low all.
          let first : x ≤ moment_after m o = all (suc zero) (omega arith) (omega arith) in
          rest.bound x (omega (arith, low, first)) (λ k positive few. all (suc k) (omega arith) (omega (arith, few)));
    }

-- ---- a bound

pub stays_so : (bound m : ℕ) (steps : List Order) → stays_below bound m steps ≡ true → (k : ℕ) → 0 < k → k ≤ length steps → mom m steps k < bound
stays_so bound m [] is k positive few = absurd (omega (arith, positive, few))
stays_so bound m (o ∷ later) is zero positive few = absurd (omega (arith, positive))
stays_so bound m (o ∷ later) is (suc zero) positive few = ltb-true (moment_after m o) bound (and_parts (nat_lt (moment_after m o) bound) (stays_below bound (moment_after m o) later) is).0
stays_so bound m (o ∷ later) is (suc (suc k)) positive few =
    stays_so bound (moment_after m o) later (and_parts (nat_lt (moment_after m o) bound) (stays_below bound (moment_after m o) later) is).1 (suc k) (omega arith) (omega (arith, few))

pub so_stays : (bound m : ℕ) (steps : List Order) → ((k : ℕ) → 0 < k → k ≤ length steps → mom m steps k < bound) → stays_below bound m steps ≡ true
so_stays bound m [] all = refl
so_stays bound m (o ∷ later) all =
    and_from _ _ (lt-ltb (moment_after m o) bound (all (suc zero) (omega arith) (omega arith)))
    (so_stays bound (moment_after m o) later (λ k positive few. all (suc k) (omega arith) (omega (arith, few))))

-- ---- since a span

positive_limit : 0 < 60000000
positive_limit = omega arith

module _ (orders : List Order) (span : SendSpan) (p : IsPlaced orders span) (i : ℕ) (ended : span.end ≤ i) (there : i ≤ length orders) where
  abbrev behind : List Order
  behind = take (i - span.end) (drop span.end orders)

  abbrev inner : List Order
  inner = inner_steps orders span

  -- the moment at the end of the span
  at_end : moment_behind span.moment inner ≡ moment_at orders span.end
  at_end =
      let above = p.above in
      let inside = p.inside in
      let count = inner_length orders span p.inside p.above p.moment in
      let last : span.index + 1 + (span.end - (span.index + 1)) ≡ span.end = omega (arith, above) in
      sym (ap (moment_at orders) (sym last) ∙ (at_time orders span p.inside p.above p.moment (span.end - (span.index + 1)) (omega (arith, above))
      ∙ ap (moment_behind span.moment) (all inner (span.end - (span.index + 1)) (omega (arith, count)))))
    where
      all : (xs : List Order) (n : ℕ) → length xs ≤ n → take n xs ≡ xs
      all [] zero few = refl
      all [] (suc n) few = refl
      all (x ∷ xs) zero few = absurd (omega (arith, few))
      all (x ∷ xs) (suc n) few = ap (λ (ys : List Order). x ∷ ys) (all xs n (omega (arith, few)))

  -- and at each time behind it
  at_behind : (t : ℕ) → t ≤ i - span.end → mom (moment_behind span.moment inner) behind t ≡ moment_at orders (span.end + t)
  at_behind t low =
      ap (λ m. moment_behind m (take t behind)) at_end
      ∙ (ap (moment_behind (moment_at orders span.end)) (take_within t (i - span.end) (drop span.end orders) low)
      ∙ sym (moment_on_from 0 span.end t orders))

  behind_length : length behind ≡ i - span.end
  behind_length =
      let rest = length-drop span.end orders in
      length_of_take (i - span.end) (drop span.end orders) (omega (arith, rest, there))

  pub lately_so : was_lately orders i span ≡ true → RisesLess orders node_forget span.index span.end i
  lately_so is j k first low order last =
      ⊎_elim
      (λ beyond. beyond_end beyond)
      (λ within. rises_inside orders span p.inside p.above p.moment node_forget positive_limit parts.0 j k first low order (omega (arith, within)))
      (cases_lt span.end k)
    where
      parts : (rises_less node_forget span.moment span.moment inner ≡ true)
          × (stays_below (least_behind span.moment span.moment inner + node_forget) (moment_behind span.moment inner) behind ≡ true)
      parts = and_parts (rises_less node_forget span.moment span.moment inner) (stays_below (least_behind span.moment span.moment inner + node_forget) (moment_behind span.moment inner) behind) is

      beyond_end : span.end < k → moment_at orders k < moment_at orders j + node_forget
      beyond_end beyond =
          let above = p.above in
          let count = inner_length orders span p.inside p.above p.moment in
          let more = behind_length in
          let kt : span.end + (k - span.end) ≡ k = omega (arith, beyond) in
          let jt : span.index + 1 + (j - (span.index + 1)) ≡ j = omega (arith, first) in
          let stays = stays_so (least_behind span.moment span.moment inner + node_forget) (moment_behind span.moment inner) behind parts.1 (k - span.end) (omega (arith, beyond)) (omega (arith, more, last)) in
          let at_k : mom (moment_behind span.moment inner) behind (k - span.end) ≡ moment_at orders k = at_behind (k - span.end) (omega (arith, last)) ∙ ap (moment_at orders) kt in
          let under = least_under span.moment span.moment inner (omega arith) (j - (span.index + 1)) (omega (arith, count, low)) in
          let at_j : moment_at orders j ≡ mom span.moment inner (j - (span.index + 1)) = ap (moment_at orders) (sym jt) ∙ at_time orders span p.inside p.above p.moment (j - (span.index + 1)) (omega (arith, jt, low)) in
          omega (arith, stays, at_k, under, at_j)

  pub so_lately : RisesLess orders node_forget span.index span.end i → was_lately orders i span ≡ true
  so_lately less =
      and_from _ _
      (inside_rises orders span p.inside p.above p.moment node_forget positive_limit (λ j k first low order last. less j k first low order (omega (arith, last, ended))))
      (so_stays (least_behind span.moment span.moment inner + node_forget) (moment_behind span.moment inner) behind stays)
    where
      stays : (k : ℕ) → 0 < k → k ≤ length behind → mom (moment_behind span.moment inner) behind k < least_behind span.moment span.moment inner + node_forget
      stays k positive few =
          let more = behind_length in
          let count = inner_length orders span p.inside p.above p.moment in
          let above = p.above in
          let at_k = at_behind k (omega (arith, few, more)) in
          let least = is_least span.moment span.moment inner in
          let apart : (t : ℕ) → t ≤ length inner → moment_at orders (span.end + k) < mom span.moment inner t + node_forget = λ t short.
          let at_t = at_time orders span p.inside p.above p.moment t (omega (arith, short, count, above)) in
          let l = less (span.index + 1 + t) (span.end + k) (omega arith) (omega (arith, short, count, above)) (omega (arith, short, count, above)) (omega (arith, few, more, ended)) in
          omega (arith, l, at_t) in
          let bound = least.bound (suc (moment_at orders (span.end + k)) - node_forget) (let a = apart zero (omega arith) in omega (arith, a)) (λ t positive short. let a = apart t short in omega (arith, a)) in
          omega (arith, bound, at_k)
