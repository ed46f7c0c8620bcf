-- By how much the clock rises: a walk with the least moment so far finds it.
use Rattle.std.proofs.Common.{◌≡◌, ℕ, ◌+◌, ◌<◌, ◌≤◌, min, nat_lt, true, List, [], ◌∷◌, length, take, refl, sym, subst, arith, zero, suc, ltb-true, lt-ltb}
use Rattle.std.proofs.lemmas.Bool.{and_parts, and_from}
use Rattle.hsr_scenario.specs.declared.steps.Order.{Order}
use Rattle.hsr_plays.specs.Spans.{moment_after, moment_behind}
use Rattle.hsr_certify.specs.Tests.{rises_less}

-- the moment behind some first of these steps, the first of which is done at a moment
abbrev pub mom : ℕ → List Order → ℕ → ℕ
mom m steps k = moment_behind m (take k steps)

-- behind each step the moment is below a bound, and at no time so much above that at an earlier one
pub record Rises (limit least m : ℕ) (steps : List Order) : Type 0 where
  pub below : (k : ℕ) → 0 < k → k ≤ length steps → mom m steps k < least + limit
  pub apart : (j k : ℕ) → j ≤ k → k ≤ length steps → mom m steps k < mom m steps j + limit

pub rises_so : (limit least m : ℕ) (steps : List Order) → 0 < limit → least ≤ m → rises_less limit least m steps ≡ true → Rises limit least m steps
rises_so limit least m [] some low is = record {
  below = λ k positive few. absurd (omega (arith, positive, few));
  apart = λ j k order few.
      let k0 : k ≡ 0 = omega (arith, few) in
      let j0 : j ≡ 0 = omega (arith, few, order) in
      subst (λ x. mom m [] x < mom m [] j + limit) (sym k0) (subst (λ x. mom m [] 0 < mom m [] x + limit) (sym j0) (omega (arith, some)));
}
rises_so limit least m (o ∷ later) some low is =
    let parts = and_parts (nat_lt (moment_after m o) (min least (moment_after m o) + limit)) (rises_less limit (min least (moment_after m o)) (moment_after m o) later) is in
    let here = ltb-true (moment_after m o) (min least (moment_after m o) + limit) parts.0 in
    let rest = rises_so limit (min least (moment_after m o)) (moment_after m o) later some (omega arith) parts.1 in
    record { below = below here rest; apart = apart here rest }
  where
    under : moment_after m o < min least (moment_after m o) + limit → Rises limit (min least (moment_after m o)) (moment_after m o) later →
        (k : ℕ) → k ≤ length later → mom (moment_after m o) later k < min least (moment_after m o) + limit
    under here rest zero few = here
    under here rest (suc k) few = rest.below (suc k) (omega arith) few

    below : moment_after m o < min least (moment_after m o) + limit → Rises limit (min least (moment_after m o)) (moment_after m o) later →
        (k : ℕ) → 0 < k → k ≤ length (o ∷ later) → mom m (o ∷ later) k < least + limit
    below here rest zero positive few = absurd (omega (arith, positive))
    below here rest (suc k) positive few = let u = under here rest k (omega (arith, few)) in omega (arith, u)

    apart : moment_after m o < min least (moment_after m o) + limit → Rises limit (min least (moment_after m o)) (moment_after m o) later →
        (j k : ℕ) → j ≤ k → k ≤ length (o ∷ later) → mom m (o ∷ later) k < mom m (o ∷ later) j + limit
    apart here rest zero zero order few = omega (arith, some)
    apart here rest zero (suc k) order few = let u = under here rest k (omega (arith, few)) in omega (arith, u, low)
    apart here rest (suc j) zero order few = absurd (omega (arith, order))
    apart here rest (suc j) (suc k) order few = rest.apart j k (omega (arith, order)) (omega (arith, few))

pub so_rises : (limit least m : ℕ) (steps : List Order) → 0 < limit → Rises limit least m steps → rises_less limit least m steps ≡ true
so_rises limit least m [] some r = refl
so_rises limit least m (o ∷ later) some r =
    let first : moment_after m o < least + limit = r.below (suc zero) (omega arith) (omega arith) in
    let here : moment_after m o < min least (moment_after m o) + limit = omega (arith, first, some) in
    let rest : Rises limit (min least (moment_after m o)) (moment_after m o) later = record { below = below; apart = λ j k order few. r.apart (suc j) (suc k) (omega (arith, order)) (omega (arith, few)) } in
    and_from _ _ (lt-ltb (moment_after m o) (min least (moment_after m o) + limit) here) (so_rises limit (min least (moment_after m o)) (moment_after m o) later some rest)
  where
    below : (k : ℕ) → 0 < k → k ≤ length later → mom (moment_after m o) later k < min least (moment_after m o) + limit
    below k positive few =
        let a = r.below (suc k) (omega arith) (omega (arith, few)) in
        let b : mom m (o ∷ later) (suc k) < mom m (o ∷ later) 1 + limit = r.apart (suc zero) (suc k) (omega arith) (omega (arith, few)) in
        omega (arith, a, b)
