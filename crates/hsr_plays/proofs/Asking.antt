-- Each span is of a step that asks for a send.
use Rattle.std.proofs.Common.{◌≡◌, ℕ, ◌+◌, ◌≤◌, List, [], ◌∷◌, ◌++◌, length, take, drop, Option, Some, None, refl, sym, ap, ◌∙◌, arith, zero, suc}
use Rattle.std.specs.Prelude.{slice_get}
use Rattle.hsr_scenario.specs.declared.steps.Order.{Order}
use Rattle.hsr_plays.specs.Setup.{asked_by}
use Rattle.hsr_plays.specs.Spans.{end_from, moment_after, moment_at, moment_behind, span_if, spans_from}
use Rattle.hsr_plays.specs.declared.span.Asked.{Asked}
use Rattle.hsr_plays.specs.declared.span.SendSpan.{SendSpan}
use Rattle.hsr_plays.proofs.Times.{ask_keeps, end_above, end_below, next_moment}

-- the step at a place among steps from an index on
pub record IsAskedAt (within : Option ℕ) (moment index : ℕ) (orders : List Order) (span : SendSpan) : Type 0 where
  pub at : ℕ
  pub order : Order
  pub listed : slice_get orders at ≡ Some order
  pub index_is : span.index ≡ index + at
  pub asked : asked_by order ≡ Some span.asked
  pub moment_is : span.moment ≡ moment_behind moment (take at orders)
  pub above : span.index + 1 ≤ span.end
  pub inside : span.end ≤ index + length orders
  pub end_is : span.end ≡ end_from within span.moment (span.index + 1) (drop (suc at) orders)

pub asked_at : (within : Option ℕ) (moment index : ℕ) (orders : List Order) (j : ℕ) (span : SendSpan) → slice_get (spans_from within moment index orders) j ≡ Some span →
    IsAskedAt within moment index orders span
asked_at within moment index [] j span listed = absurd cc
asked_at within moment index (first ∷ later) j span listed =
    step (asked_by first) refl j listed (λ i there. asked_at within (moment_after moment first) (index + 1) later i span there)
  where
    further : IsAskedAt within (moment_after moment first) (index + 1) later span → IsAskedAt within moment index (first ∷ later) span
    further a =
        let is = a.index_is in
        let low = a.inside in
        record { at = suc a.at; order = a.order; listed = a.listed; index_is = omega (arith, is); asked = a.asked; moment_is = a.moment_is; above = a.above; inside = omega (arith, low); end_is = a.end_is }

    step : (o : Option Asked) → asked_by first ≡ o → (j : ℕ) → slice_get (span_if within moment index later o ++ spans_from within (moment_after moment first) (index + 1) later) j ≡ Some span →
        ((i : ℕ) → slice_get (spans_from within (moment_after moment first) (index + 1) later) i ≡ Some span → IsAskedAt within (moment_after moment first) (index + 1) later span) →
        IsAskedAt within moment index (first ∷ later) span
    step None is j listed rest = further (rest j listed)
    step (Some asked) is zero listed rest =
        let made : SendSpan = record { asked = asked; index = index; moment = moment; end = end_from within moment (index + 1) later } in
        let same : made ≡ span = let e : Some made ≡ Some span = listed in cc in
        let here : index ≡ span.index = ap (λ (x : SendSpan). x.index) same in
        let there : end_from within moment (index + 1) later ≡ span.end = ap (λ (x : SendSpan). x.end) same in
        let above = end_above within moment (index + 1) later in
        let below = end_below within moment (index + 1) later in
        record {
          at = zero;
          order = first;
          listed = refl;
          index_is = omega (arith, here);
          asked = is ∙ ap (λ (x : SendSpan). Some x.asked) same;
          moment_is = sym (ap (λ (x : SendSpan). x.moment) same);
          above = omega (arith, here, there, above);
          inside = omega (arith, there, below);
          end_is = sym there ∙ (ap (λ n. end_from within moment (n + 1) later) here ∙ ap (λ n. end_from within n (span.index + 1) later) (ap (λ (x : SendSpan). x.moment) same));
        }
    step (Some asked) is (suc j) listed rest = further (rest j listed)

-- ---- where a span stands

-- it ends behind its send, no later than the last step; and its moment is the world's then
pub record IsPlaced (orders : List Order) (span : SendSpan) : Type 0 where
  pub above : span.index + 1 ≤ span.end
  pub inside : span.end ≤ length orders
  pub moment : span.moment ≡ moment_at orders (span.index + 1)

pub is_placed : (within : Option ℕ) (orders : List Order) (j : ℕ) (span : SendSpan) → slice_get (spans_from within 0 0 orders) j ≡ Some span → IsPlaced orders span
is_placed within orders j span listed =
    let a = asked_at within 0 0 orders j span listed in
    let is = a.index_is in
    let inside = a.inside in
    let same : suc a.at ≡ span.index + 1 = omega (arith, is) in
    let next = next_moment 0 a.at orders a.order a.listed in
    record {
      above = a.above;
      inside = omega (arith, inside);
      moment = a.moment_is ∙ (sym (ask_keeps a.order span.asked (moment_behind 0 (take a.at orders)) a.asked) ∙ (sym next ∙ ap (moment_at orders) same));
    }
