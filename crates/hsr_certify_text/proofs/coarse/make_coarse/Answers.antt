use Rattle.std.proofs.Common.{rules, ◌∙◌, ap, not, [], ◌∷◌, ◌++◌}
use Rattle.std.proofs.lemmas.List.Elements.{filter_from_retain}
use Rattle.hsr_scenario.specs.declared.steps.Order.TheVariants.{Drain}
use Rattle.hsr_plays.specs.Conditions.{is_fine}
use Rattle.hsr_certify_text.proofs.coarse.make_coarse.Goals as goal

pub returns : goal.returns
returns c =
    let kept = filter_from_retain _ (λ order. not (is_fine order)) (λ f order b f' k. search rules) _ c.args.orders.now.items _ c.retain.ensures.filtered in
    c.in_ok-push.ensures.items ∙ ap (λ orders. orders ++ Drain ∷ []) kept
