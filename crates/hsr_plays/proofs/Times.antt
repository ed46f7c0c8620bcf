-- Moments and cuts at times, and where spans end.
use Rattle.std.proofs.Common.{◌≡◌, ℕ, ◌+◌, ◌≤◌, Bool, true, false, if◌then◌else◌, List, [], ◌∷◌, length, take, drop, Option, Some, refl, ap, ◌∙◌, arith, zero, suc, zero-add}
use Rattle.std.specs.Prelude.{slice_get}
use Rattle.hsr_scenario.specs.declared.steps.Order.{Order}
use Rattle.hsr_scenario.specs.declared.steps.Order.TheVariants as order
use Rattle.hsr_world_steps.specs.declared.step.Step.TheVariants.{Clock, Send, Supervise, Age, Put, Take, Judge, Cut, Mend, Inject}
use Rattle.hsr_plays.specs.Setup.{asked_by}
use Rattle.hsr_plays.specs.Spans.{cut_after, cut_behind, end_from, ends_span, moment_after, moment_behind}
use Rattle.hsr_plays.specs.declared.span.Asked.{Asked}

-- ---- one time behind another

-- the moment t steps behind the a-th
pub moment_on_from : (m a t : ℕ) (orders : List Order) → moment_behind m (take (a + t) orders) ≡ moment_behind (moment_behind m (take a orders)) (take t (drop a orders))
moment_on_from m zero t orders = ap (λ n. moment_behind m (take n orders)) (zero-add t)
moment_on_from m (suc a) zero [] = let e : suc a + 0 ≡ suc a = omega arith in ap (λ n. moment_behind m (take n [])) e
moment_on_from m (suc a) (suc t) [] = let e : suc a + suc t ≡ suc (a + suc t) = omega arith in ap (λ n. moment_behind m (take n [])) e
moment_on_from m (suc a) t (o ∷ later) =
    let e : suc a + t ≡ suc (a + t) = omega arith in
    ap (λ n. moment_behind m (take n (o ∷ later))) e ∙ moment_on_from (moment_after m o) a t later

-- whether a link is cut t steps behind the a-th
pub cut_on : (l : ℕ) (was : Bool) (a t : ℕ) (orders : List Order) → cut_behind l was (take (a + t) orders) ≡ cut_behind l (cut_behind l was (take a orders)) (take t (drop a orders))
cut_on l was zero t orders = ap (λ n. cut_behind l was (take n orders)) (zero-add t)
cut_on l was (suc a) zero [] = let e : suc a + 0 ≡ suc a = omega arith in ap (λ n. cut_behind l was (take n [])) e
cut_on l was (suc a) (suc t) [] = let e : suc a + suc t ≡ suc (a + suc t) = omega arith in ap (λ n. cut_behind l was (take n [])) e
cut_on l was (suc a) t (o ∷ later) =
    let e : suc a + t ≡ suc (a + t) = omega arith in
    ap (λ n. cut_behind l was (take n (o ∷ later))) e ∙ cut_on l (cut_after l was o) a t later

-- of some first of some first steps
pub take_within : (t n : ℕ) (orders : List Order) → t ≤ n → take t (take n orders) ≡ take t orders
take_within zero n orders low = refl
take_within (suc t) zero orders low = absurd (omega (arith, low))
take_within (suc t) (suc n) [] low = refl
take_within (suc t) (suc n) (o ∷ later) low = ap (λ (xs : List Order). o ∷ xs) (take_within t n later (omega (arith, low)))

-- a send turns no clock
pub ask_keeps : (o : Order) (asked : Asked) (m : ℕ) → asked_by o ≡ Some asked → moment_after m o ≡ m
ask_keeps (order.Step (Clock at)) asked m is = absurd cc
ask_keeps (order.Step (Send node from dst vlan ethertype payload)) asked m is = refl
ask_keeps (order.Step (Supervise node about)) asked m is = refl
ask_keeps (order.Step (Age node)) asked m is = refl
ask_keeps (order.Step (Put node port)) asked m is = refl
ask_keeps (order.Step (Take link dir)) asked m is = refl
ask_keeps (order.Step (Judge node port)) asked m is = refl
ask_keeps (order.Step (Cut link)) asked m is = refl
ask_keeps (order.Step (Mend link)) asked m is = refl
ask_keeps (order.Step (Inject link dir octets)) asked m is = refl
ask_keeps order.Drain asked m is = refl

-- the moment behind a step is that behind the steps before it and the step
pub next_moment : (m n : ℕ) (orders : List Order) (o : Order) → slice_get orders n ≡ Some o → moment_behind m (take (suc n) orders) ≡ moment_after (moment_behind m (take n orders)) o
next_moment m n [] o listed = absurd cc
next_moment m zero (first ∷ later) o listed =
    let same : first ≡ o = let e : Some first ≡ Some o = listed in cc in
    ap (moment_after m) same
next_moment m (suc n) (first ∷ later) o listed = next_moment (moment_after m first) n later o listed

-- ---- the end of a span

pub end_above : (within : Option ℕ) (sent index : ℕ) (later : List Order) → index ≤ end_from within sent index later
end_above within sent index [] = omega arith
end_above within sent index (o ∷ later) = step (ends_span within sent o) (end_above within sent (index + 1) later)
  where
    step : (b : Bool) → index + 1 ≤ end_from within sent (index + 1) later → index ≤ (if b then index else end_from within sent (index + 1) later)
    step true rest = omega arith
    step false rest = omega (arith, rest)

pub end_below : (within : Option ℕ) (sent index : ℕ) (later : List Order) → end_from within sent index later ≤ index + length later
end_below within sent index [] = omega arith
end_below within sent index (o ∷ later) = step (ends_span within sent o) (end_below within sent (index + 1) later)
  where
    step : (b : Bool) → end_from within sent (index + 1) later ≤ index + 1 + length later → (if b then index else end_from within sent (index + 1) later) ≤ index + length (o ∷ later)
    step true rest = omega arith
    step false rest = omega (arith, rest)
