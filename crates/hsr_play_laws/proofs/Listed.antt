-- The span of a step that asks for a send is listed.
use Rattle.std.proofs.Common.{◌≡◌, ℕ, ◌+◌, List, [], ◌∷◌, ◌++◌, length, Option, Some, None, refl, sym, ap, ◌∙◌, subst, arith, zero, suc}
use Rattle.std.specs.Prelude.{slice_get}
use Rattle.hsr_scenario.specs.declared.steps.Order.{Order}
use Rattle.hsr_plays.specs.Setup.{asked_by}
use Rattle.hsr_plays.specs.Spans.{end_from, moment_after, span_if, spans_from}
use Rattle.hsr_plays.specs.declared.span.Asked.{Asked}
use Rattle.hsr_plays.specs.declared.span.SendSpan.{SendSpan}

pub record IsListed (within : Option ℕ) (moment index : ℕ) (orders : List Order) (n : ℕ) (asked : Asked) : Type 0 where
  pub at : ℕ
  pub span : SendSpan
  pub listed : slice_get (spans_from within moment index orders) at ≡ Some span
  pub asked_is : span.asked ≡ asked
  pub index_is : span.index ≡ index + n

pub span_listed : (within : Option ℕ) (moment index : ℕ) (orders : List Order) (n : ℕ) (o : Order) (asked : Asked) → slice_get orders n ≡ Some o → asked_by o ≡ Some asked → IsListed within moment index orders n asked
span_listed within moment index [] n o asked got is = absurd cc
span_listed within moment index (first ∷ later) zero o asked got is =
    let same : first ≡ o = let e : Some first ≡ Some o = got in cc in
    let here : asked_by first ≡ Some asked = ap asked_by same ∙ is in
    let made : SendSpan = record { asked = asked; index = index; moment = moment; end = end_from within moment (index + 1) later } in
    record {
      at = zero;
      span = made;
      listed = ap (λ q. slice_get (span_if within moment index later q ++ spans_from within (moment_after moment first) (index + 1) later) 0) here;
      asked_is = refl;
      index_is = omega arith;
    }
span_listed within moment index (first ∷ later) (suc n) o asked got is = by_first (asked_by first) refl (span_listed within (moment_after moment first) (index + 1) later n o asked got is)
  where
    by_first : (q : Option Asked) → asked_by first ≡ q → IsListed within (moment_after moment first) (index + 1) later n asked → IsListed within moment index (first ∷ later) (suc n) asked
    by_first None e l =
        let i = l.index_is in
        record { at = l.at; span = l.span; listed = ap (λ q. slice_get (span_if within moment index later q ++ spans_from within (moment_after moment first) (index + 1) later) l.at) e ∙ l.listed; asked_is = l.asked_is; index_is = omega (arith, i) }
    by_first (Some a) e l =
        let i = l.index_is in
        record { at = suc l.at; span = l.span; listed = ap (λ q. slice_get (span_if within moment index later q ++ spans_from within (moment_after moment first) (index + 1) later) (suc l.at)) e ∙ l.listed; asked_is = l.asked_is; index_is = omega (arith, i) }
