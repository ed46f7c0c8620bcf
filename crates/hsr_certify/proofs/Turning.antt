-- Where the clock goes back, if it does.
use Rattle.std.proofs.Common.{◌≡◌, ℕ, ◌+◌, ◌<◌, ◌≤◌, nat_le, Bool, true, false, if◌then◌else◌, List, [], ◌∷◌, length, take, Some, None, refl, sym, ◌∙◌, arith, zero, suc, leb-true, le-leb}
use Rattle.std.proofs.lemmas.Bool.{false≢true}
use Rattle.hsr_scenario.specs.declared.steps.Order.{Order}
use Rattle.hsr_plays.specs.Spans.{moment_after, moment_behind}
use Rattle.hsr_certify.specs.Tests.{first_back}

pub never_back : (m i : ℕ) (orders : List Order) → first_back m i orders ≡ None → (j : ℕ) → j < length orders → moment_behind m (take j orders) ≤ moment_behind m (take (suc j) orders)
never_back m i [] none j below = absurd (omega (arith, below))
never_back m i (o ∷ later) none j below = step (nat_le m (moment_after m o)) refl none (never_back (moment_after m o) (i + 1) later) j below
  where
    step : (b : Bool) → nat_le m (moment_after m o) ≡ b → (if b then first_back (moment_after m o) (i + 1) later else Some i) ≡ None →
        (first_back (moment_after m o) (i + 1) later ≡ None → (j : ℕ) → j < length later → moment_behind (moment_after m o) (take j later) ≤ moment_behind (moment_after m o) (take (suc j) later)) →
        (j : ℕ) → j < length (o ∷ later) → moment_behind m (take j (o ∷ later)) ≤ moment_behind m (take (suc j) (o ∷ later))
    step false is none rest j below = absurd cc
    step true is none rest zero below = leb-true m (moment_after m o) is
    step true is none rest (suc j) below = rest none j (omega (arith, below))

pub record GoesBack (m i : ℕ) (orders : List Order) (n : ℕ) : Type 0 where
  pub at : ℕ
  pub is : n ≡ i + at
  pub below : at < length orders
  pub back : moment_behind m (take at orders) ≤ moment_behind m (take (suc at) orders) → ⊥
  pub before : (j : ℕ) → j < at → moment_behind m (take j orders) ≤ moment_behind m (take (suc j) orders)

pub goes_back : (m i : ℕ) (orders : List Order) (n : ℕ) → first_back m i orders ≡ Some n → GoesBack m i orders n
goes_back m i [] n some = absurd cc
goes_back m i (o ∷ later) n some = step (nat_le m (moment_after m o)) refl some (goes_back (moment_after m o) (i + 1) later n)
  where
    step : (b : Bool) → nat_le m (moment_after m o) ≡ b → (if b then first_back (moment_after m o) (i + 1) later else Some i) ≡ Some n →
        (first_back (moment_after m o) (i + 1) later ≡ Some n → GoesBack (moment_after m o) (i + 1) later n) → GoesBack m i (o ∷ later) n
    step false is some rest =
        let same : i ≡ n = cc in
        record {
          at = zero;
          is = omega (arith, same);
          below = omega arith;
          back = λ h. false≢true (sym is ∙ le-leb m (moment_after m o) h);
          before = λ j low. absurd (omega (arith, low));
        }
    step true is some rest =
        let g = rest some in
        let at = g.is in
        let low = g.below in
        record { at = suc g.at; is = omega (arith, at); below = omega (arith, low); back = g.back; before = earlier g }
      where
        earlier : (g : GoesBack (moment_after m o) (i + 1) later n) (j : ℕ) → j < suc g.at → moment_behind m (take j (o ∷ later)) ≤ moment_behind m (take (suc j) (o ∷ later))
        earlier g zero low = leb-true m (moment_after m o) is
        earlier g (suc j) low = g.before j (omega (arith, low))
