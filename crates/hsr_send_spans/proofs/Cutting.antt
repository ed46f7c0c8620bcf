-- Which links are cut, and which are down in a span, as sets of their numbers.
use Rattle.std.proofs.Common.{◌≡◌, ℕ, ◌+◌, ◌-◌, ◌<◌, ◌≤◌, ◌==◌, ◌||◌, Bool, true, false, if◌then◌else◌, List, [], ◌∷◌, take, drop, refl, sym, ap, ◌∙◌, arith, eqb-true, eq-eqb}
use Rattle.hsr_bitset.specs.Numbers.{has}
use Rattle.hsr_scenario.specs.declared.steps.Order.{Order}
use Rattle.hsr_plays.specs.Spans.{cut_behind, is_down_in}
use Rattle.hsr_plays.proofs.Times.{cut_on}
use Rattle.hsr_send_spans.specs.Down.{AreCutAt, is_down_with}

-- a number that a set doesn't have isn't that of a link below
pub past : (n link : ℕ) (is_in old : Bool) → n < link → old ≡ (if n == link then is_in else old)
past n link is_in old low = step (n == link) refl
  where
    step : (b : Bool) → (n == link) ≡ b → old ≡ (if b then is_in else old)
    step true is = let e = eqb-true n link is in absurd (omega (arith, e, low))
    step false is = refl

turned : (n link : ℕ) → (n == link) ≡ (link == n)
turned n link = step (n == link) (link == n) refl refl
  where
    step : (a b : Bool) → (n == link) ≡ a → (link == n) ≡ b → a ≡ b
    step true true x y = refl
    step false false x y = refl
    step true false x y = let e = eqb-true n link x in let z = eq-eqb link n (sym e) in let w : false ≡ true = sym y ∙ z in absurd cc
    step false true x y = let e = eqb-true link n y in let z = eq-eqb n link (sym e) in let w : false ≡ true = sym x ∙ z in absurd cc

either : (b old : Bool) → (if b then true else old) ≡ (b || old)
either true old = refl
either false old = refl

pub cut_put : (n link : ℕ) (old : Bool) → (if n == link then true else old) ≡ ((link == n) || old)
cut_put n link old = either (n == link) old ∙ ap (λ b. b || old) (turned n link)

pub mend_put : (n link : ℕ) (old : Bool) → (if n == link then false else old) ≡ (if link == n then false else old)
mend_put n link old = ap (λ b. if b then false else old) (turned n link)

swapped : (b old : Bool) → (if b then true else old) ≡ (old || (b || false))
swapped true true = refl
swapped true false = refl
swapped false true = refl
swapped false false = refl

pub down_put : (n link : ℕ) (old : Bool) → (if n == link then true else old) ≡ (old || ((link == n) || false))
down_put n link old = swapped (n == link) old ∙ ap (λ b. old || (b || false)) (turned n link)

pub unchanged : (old : Bool) → old ≡ (old || false)
unchanged true = refl
unchanged false = refl

pub none_mended : (b old : Bool) → old ≡ (old || (if b then false else false))
none_mended true old = unchanged old
none_mended false old = unchanged old

-- ---- a span

always : (n : ℕ) (steps : List Order) → is_down_in n true steps ≡ true
always n [] = refl
always n (order ∷ later) = refl

-- what is down stays so in a span, and what is cut joins it
pub down_more : (n : ℕ) (was : Bool) (order : Order) (later : List Order) → is_down_in n (is_down_with n was order) later ≡ is_down_in n was (order ∷ later)
down_more n true order later = always n later
down_more n false order later = refl

-- ---- the time

pub cut_later : (orders : List Order) (from time : ℕ) (old new : List ℕ) → from ≤ time → AreCutAt orders from old →
    ((n : ℕ) → n < 512 → has new n ≡ cut_behind n (has old n) (take (time - from) (drop from orders))) → AreCutAt orders time new
cut_later orders from time old new low before made n small =
    let there : from + (time - from) ≡ time = omega (arith, low) in
    made n small
    ∙ (ap (λ b. cut_behind n b (take (time - from) (drop from orders))) (before n small)
    ∙ (sym (cut_on n false from (time - from) orders) ∙ ap (λ m. cut_behind n false (take m orders)) there))
