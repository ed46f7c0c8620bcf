use Rattle.std.proofs.Common.{◌≡◌, ◌∙◌, ap, arith, cond, nat_eq, refl, rules, sym, tests}
use Rattle.std.specs.List.{list_any}
use Rattle.std.proofs.lemmas.Bool.{cond-false, cond-true}
use Rattle.std.proofs.lemmas.Iterator.{YieldsList-from_slice}
use Rattle.std.proofs.lemmas.Iterator.Search.{any_from_yields_List}
use Rattle.std.proofs.lemmas.Option.{slice_get_read}
use Rattle.hsr_taps.proofs.Naming.{asked_step}
use Rattle.hsr_taps.proofs.points.asked_for.Goals.{else-any, then-any}
use Rattle.hsr_taps.proofs.points.asked_for.Goals as goal

pub loop-point-preserved : goal.loop-point-preserved
loop-point-preserved c =
    let i = c.args.i in
    let points = c.args.points.now in
    let k = c.loop-point.point-index in
    let p = c.point-item.result in
    let name = c.loop-point.name.now in
    let here = slice_get_read points _ k p refl (omega arith) c.point-item.is in
    let list : c.deref.result.now ≡ p.interfaces = c.deref.ensures.value ∙ ap (λ x. x.interfaces) c.point.view_is in
    let found : c.any.result ≡ list_any (λ j. nat_eq j i) p.interfaces
    = any_from_yields_List (λ j. nat_eq j i) _ _ c.any.result c.any.ensures.ran (YieldsList-from_slice c.deref.result.now cc) (λ x b q k. search (rules, tests))
    ∙ ap (list_any (λ j. nat_eq j i)) list in
    let new : c.if-any.name.now ≡ cond (list_any (λ j. nat_eq j i) p.interfaces) p.name name
    = elim c.if-any.branch [
      | then-any w ↦ ap (λ x. x.now) w.name-is ∙ w.as_bytes-name.ensures.value ∙ ap (λ x. x.name) c.point.view_is
          ∙ sym (cond-true (list_any (λ j. nat_eq j i) p.interfaces) p.name name (sym found ∙ w.if-any.true))
      | else-any w ↦ ap (λ x. x.now) w.name-is ∙ sym (cond-false (list_any (λ j. nat_eq j i) p.interfaces) p.name name (sym found ∙ w.if-any.false))
    ] in
    asked_step i points k p name c.if-any.name.now _ here new c.loop-point.invariant
