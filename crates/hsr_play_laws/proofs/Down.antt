-- Cuts at times, and what is down in a span.
use Rattle.std.proofs.Common.{◌≡◌, ◌⊎◌, inl, inr, ℕ, ◌+◌, ◌-◌, ◌<◌, ◌≤◌, ◌||◌, Bool, true, false, if◌then◌else◌, List, [], ◌∷◌, ◌++◌, length, take, drop, Option, Some, None, refl, sym, ap, ◌∙◌, subst, arith, zero, suc}
use Rattle.std.specs.Prelude.{slice_get}
use Rattle.std.proofs.lemmas.Bool.{or_left, or_right}
use Rattle.hsr_scenario.specs.declared.steps.Order.{Order}
use Rattle.hsr_plays.specs.Spans.{cut_after, cut_behind, is_cut_at, is_down, is_down_in, steps_of}
use Rattle.hsr_plays.specs.declared.span.SendSpan.{SendSpan}
use Rattle.hsr_plays.proofs.Times.{cut_on}

-- behind a step
pub next_cut : (l : ℕ) (was : Bool) (n : ℕ) (orders : List Order) (o : Order) → slice_get orders n ≡ Some o → cut_behind l was (take (suc n) orders) ≡ cut_after l (cut_behind l was (take n orders)) o
next_cut l was n [] o listed = absurd cc
next_cut l was zero (first ∷ later) o listed =
    let same : first ≡ o = let e : Some first ≡ Some o = listed in cc in
    ap (cut_after l was) same
next_cut l was (suc n) (first ∷ later) o listed = next_cut l (cut_after l was first) n later o listed

-- a link that is cut behind some of the steps is down in them
down_in : (l : ℕ) (was : Bool) (t d : ℕ) (orders : List Order) → t ≤ d → cut_behind l was (take t orders) ≡ true → is_down_in l was (take d orders) ≡ true
down_in l was zero zero orders low cut = cut
down_in l was zero (suc d) [] low cut = cut
down_in l was zero (suc d) (o ∷ later) low cut = or_left was (is_down_in l (cut_after l was o) (take d later)) cut
down_in l was (suc t) zero orders low cut = absurd (omega (arith, low))
down_in l was (suc t) (suc d) [] low cut = cut
down_in l was (suc t) (suc d) (o ∷ later) low cut = or_right was (is_down_in l (cut_after l was o) (take d later)) (down_in l (cut_after l was o) t d later (omega (arith, low)) cut)

pub down_at : (orders : List Order) (span : SendSpan) (l time : ℕ) → span.index ≤ time → time ≤ span.end → is_cut_at orders time l ≡ true → is_down orders span l ≡ true
down_at orders span l time above below cut =
    let e : span.index + (time - span.index) ≡ time = omega (arith, above) in
    let there = sym (cut_on l false span.index (time - span.index) orders) ∙ (ap (λ n. cut_behind l false (take n orders)) e ∙ cut) in
    down_in l (is_cut_at orders span.index l) (time - span.index) (span.end - span.index) (drop span.index orders) (omega (arith, above, below)) there

-- the step that comes next
pub next_is : (done later : List Order) (o : Order) → slice_get (done ++ o ∷ later) (length done) ≡ Some o
next_is [] later o = refl
next_is (q ∷ done) later o = next_is done later o
