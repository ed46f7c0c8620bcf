-- The moments of sends rise.
use Rattle.std.proofs.Common.{◌≡◌, ℕ, zero, suc, ◌<◌, ◌≤◌, max, Bool, true, false, List, [], ◌∷◌, ◌++◌, length, slice_index_or, refl, sym, subst, ap, ◌∙◌, append_assoc, append-nil, arith}
use Rattle.std.specs.Prelude.{if◌then◌else◌}
use Rattle.std.specs.List.Sorted.{IsNonDecreasing}
use Rattle.hsr_world_steps.specs.declared.step.Step.{Step}
use Rattle.hsr_world_steps.specs.declared.step.Step.TheVariants.{Clock, Send, Supervise, Age, Put, Take, Judge, Cut, Mend, Inject}
use Rattle.hsr_scenario.specs.declared.steps.Order.{Order}
use Rattle.hsr_scenario.specs.declared.steps.Order.TheVariants as order
use Rattle.hsr_plan_scenario.specs.Sends.{is_sending, moment_behind, send_moments}

-- numbers rise from one on
pub record RiseFrom (least : ℕ) (xs : List ℕ) : Type 0 where
  pub above : (i : ℕ) (d : ℕ) → i < length xs → least ≤ slice_index_or xs i d
  pub rise : IsNonDecreasing xs

from_none : (least : ℕ) → RiseFrom least []
from_none least = record {
  above = λ i d below. absurd (omega (arith, below));
  rise = λ i j d low below. absurd (omega (arith, below));
}

from_less : (least more : ℕ) (xs : List ℕ) → least ≤ more → RiseFrom more xs → RiseFrom least xs
from_less least more xs le from = record { above = λ i d below. let above = from.above i d below in omega (arith, le, above); rise = from.rise }

from_one : (least : ℕ) (xs : List ℕ) → RiseFrom least xs → RiseFrom least (least ∷ xs)
from_one least xs from = record { above = above; rise = rise }
  where
    above : (i : ℕ) (d : ℕ) → i < length (least ∷ xs) → least ≤ slice_index_or (least ∷ xs) i d
    above zero d below = omega arith
    above (suc i) d below = from.above i d (omega (arith, below))

    rise : (i j : ℕ) (d : ℕ) → i ≤ j → j < length (least ∷ xs) → slice_index_or (least ∷ xs) i d ≤ slice_index_or (least ∷ xs) j d
    rise zero j d low below = above j d below
    rise (suc i) zero d low below = absurd (omega (arith, low))
    rise (suc i) (suc j) d low below = from.rise i j d (omega (arith, low)) (omega (arith, below))

behind : (now : ℕ) (o : Order) → now ≤ moment_behind now o
behind now (order.Step (Clock at)) = omega arith
behind now (order.Step (Send k from dst vlan ethertype payload)) = omega arith
behind now (order.Step (Supervise k about)) = omega arith
behind now (order.Step (Age k)) = omega arith
behind now (order.Step (Put k port)) = omega arith
behind now (order.Step (Take l dir)) = omega arith
behind now (order.Step (Judge k port)) = omega arith
behind now (order.Step (Cut l)) = omega arith
behind now (order.Step (Mend l)) = omega arith
behind now (order.Step (Inject l dir octets)) = omega arith
behind now order.Drain = omega arith

one_more : (is : Bool) (now : ℕ) (xs : List ℕ) → RiseFrom now xs → RiseFrom now ((if is then now ∷ [] else []) ++ xs)
one_more true now xs from = from_one now xs from
one_more false now xs from = from

rising : (now : ℕ) (orders : List Order) → RiseFrom now (send_moments now orders)
rising now [] = from_none now
rising now (o ∷ orders) =
    one_more (is_sending o) now (send_moments (moment_behind now o) orders)
    (from_less now (moment_behind now o) (send_moments (moment_behind now o) orders) (behind now o) (rising (moment_behind now o) orders))

pub moments_rise : (orders : List Order) (moments : List ℕ) → moments ≡ send_moments 0 orders → IsNonDecreasing moments
moments_rise orders moments is = subst IsNonDecreasing (sym is) (rising 0 orders).rise

-- ---- one order more

pub moments_step : (moments before after : List ℕ) (now next : ℕ) (o : Order) (rest left : List Order) → left ≡ o ∷ rest → next ≡ moment_behind now o →
    after ≡ moments ++ (if is_sending o then now ∷ [] else []) → moments ++ send_moments now left ≡ before → after ++ send_moments next rest ≡ before
moments_step moments before after now next o rest left split is pushed so_far =
    ap (λ ms. ms ++ send_moments next rest) pushed
    ∙ append_assoc moments (if is_sending o then now ∷ [] else []) (send_moments next rest)
    ∙ ap (λ n. moments ++ ((if is_sending o then now ∷ [] else []) ++ send_moments n rest)) is
    ∙ ap (λ os. moments ++ send_moments now os) (sym split) ∙ so_far
