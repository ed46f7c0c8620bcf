-- Gaps that grow without a bound.
use Rattle.std.proofs.Common.{◌≡◌, ℕ, zero, suc, ◌+◌, ◌-◌, ◌<◌, ◌≤◌, false, true, nat_lt, refl, ap, sym, arith}
use Rattle.std.proofs.lemmas.Bool.Decides.{nat_tests}
use Rattle.hsr_plan_text.specs.declared.plan.Pace.{Pace}
use Rattle.hsr_plan_schedule.specs.Moments.{next_gap}
use Rattle.hsr_plan_schedule.specs.Publishing.{grown}

pub over : (at gap : ℕ) (pace : Pace) (until : ℕ) → grown 0 at gap pace until ≡ gap
unfolding grown
over at gap pace until = refl

-- a frame behind the next gap comes before the end
pub on : (n at gap : ℕ) (pace : Pace) (until : ℕ) → 0 < n → at + next_gap pace gap < until
    → grown n at gap pace until ≡ grown (n - 1) (at + next_gap pace gap) (next_gap pace gap) pace until
unfolding grown
on zero at gap pace until some h = absurd (omega arith)
on (suc n) at gap pace until some h =
    let e : nat_lt (at + next_gap pace gap) until ≡ true = grind (arith, nat_tests) in
    let m : suc n - 1 ≡ n = omega arith in
    rw e (ap (λ x. grown x (at + next_gap pace gap) (next_gap pace gap) pace until) (sym m))

-- none does
pub stop : (n at gap : ℕ) (pace : Pace) (until : ℕ) → until ≤ at + next_gap pace gap → grown n at gap pace until ≡ gap
unfolding grown
stop zero at gap pace until h = refl
stop (suc n) at gap pace until h = let e : nat_lt (at + next_gap pace gap) until ≡ false = grind (arith, nat_tests) in rw e refl

-- the frame is behind the end itself
pub past : (n at gap : ℕ) (pace : Pace) (until : ℕ) → until ≤ at → grown n at gap pace until ≡ gap
past n at gap pace until h = stop n at gap pace until (omega arith)
