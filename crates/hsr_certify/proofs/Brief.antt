-- The clock rises by less than 400 milliseconds in a span just where the test says so.
use Rattle.std.proofs.Common.{◌≡◌, ℕ, ◌+◌, ◌-◌, ◌<◌, ◌≤◌, true, List, [], ◌∷◌, length, take, drop, refl, sym, ap, ◌∙◌, arith, zero, suc}
use Rattle.std.proofs.Common.{length-drop}
use Rattle.hsr_scenario.specs.declared.steps.Order.{Order}
use Rattle.hsr_plays.specs.Spans.{RisesLess, moment_at, moment_behind}
use Rattle.hsr_plays.specs.declared.span.SendSpan.{SendSpan}
use Rattle.hsr_certify.specs.Tests.{inner_steps, rises_less}
use Rattle.hsr_certify.proofs.Rises.{mom, rises_so, so_rises}
use Rattle.hsr_plays.proofs.Times.{moment_on_from, take_within}

-- the first steps of some, as many as there are
pub length_of_take : (n : ℕ) (orders : List Order) → n ≤ length orders → length (take n orders) ≡ n
length_of_take zero orders few = refl
length_of_take (suc n) [] few = absurd (omega (arith, few))
length_of_take (suc n) (o ∷ later) few = ap suc (length_of_take n later (omega (arith, few)))

module _ (orders : List Order) (span : SendSpan) (inside : span.end ≤ length orders) (above : span.index + 1 ≤ span.end) (moment : span.moment ≡ moment_at orders (span.index + 1)) where
  -- each time of the span is a number of its inner steps
  pub at_time : (t : ℕ) → span.index + 1 + t ≤ span.end → moment_at orders (span.index + 1 + t) ≡ mom span.moment (inner_steps orders span) t
  at_time t low =
      moment_on_from 0 (span.index + 1) t orders
      ∙ (ap (λ m. moment_behind m (take t (drop (span.index + 1) orders))) (sym moment)
      ∙ ap (λ xs. moment_behind span.moment xs) (sym (take_within t (span.end - (span.index + 1)) (drop (span.index + 1) orders) (omega (arith, low)))))

  pub inner_length : length (inner_steps orders span) ≡ span.end - (span.index + 1)
  inner_length =
      let rest = length-drop (span.index + 1) orders in
      length_of_take (span.end - (span.index + 1)) (drop (span.index + 1) orders) (omega (arith, rest, inside))

  pub rises_inside : (limit : ℕ) → 0 < limit → rises_less limit span.moment span.moment (inner_steps orders span) ≡ true → RisesLess orders limit span.index span.end span.end
  rises_inside limit some is j k first low order last =
      let r = rises_so limit span.moment span.moment (inner_steps orders span) some (omega arith) is in
      let count = inner_length in
      let jt : span.index + 1 + (j - (span.index + 1)) ≡ j = omega (arith, first) in
      let kt : span.index + 1 + (k - (span.index + 1)) ≡ k = omega (arith, first, order) in
      let below = r.apart (j - (span.index + 1)) (k - (span.index + 1)) (omega (arith, order)) (omega (arith, last, count)) in
      let at_j : moment_at orders j ≡ mom span.moment (inner_steps orders span) (j - (span.index + 1)) = ap (moment_at orders) (sym jt) ∙ at_time (j - (span.index + 1)) (omega (arith, jt, low)) in
      let at_k : moment_at orders k ≡ mom span.moment (inner_steps orders span) (k - (span.index + 1)) = ap (moment_at orders) (sym kt) ∙ at_time (k - (span.index + 1)) (omega (arith, kt, last)) in
      omega (arith, below, at_j, at_k)

  pub inside_rises : (limit : ℕ) → 0 < limit → RisesLess orders limit span.index span.end span.end → rises_less limit span.moment span.moment (inner_steps orders span) ≡ true
  inside_rises limit some less = so_rises limit span.moment span.moment (inner_steps orders span) some (record { below = λ k positive few. apart zero k (omega arith) few; apart = apart })
    where
      apart : (j k : ℕ) → j ≤ k → k ≤ length (inner_steps orders span) → mom span.moment (inner_steps orders span) k < mom span.moment (inner_steps orders span) j + limit
      apart j k order few =
          let count = inner_length in
          let at_j = at_time j (omega (arith, order, few, count, above)) in
          let at_k = at_time k (omega (arith, few, count, above)) in
          let l = less (span.index + 1 + j) (span.index + 1 + k) (omega arith) (omega (arith, order, few, count, above)) (omega (arith, order)) (omega (arith, few, count, above)) in
          omega (arith, l, at_j, at_k)
