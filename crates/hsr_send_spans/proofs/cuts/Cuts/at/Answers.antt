use Rattle.std.proofs.Common.{rules, ◌≡◌, ◌-◌, ◌∙◌, ap, take, drop}
use Rattle.hsr_bitset.specs.Numbers.{has}
use Rattle.hsr_plays.specs.Spans.{cut_behind}
use Rattle.hsr_send_spans.proofs.Cutting.{cut_later}
use Rattle.hsr_send_spans.proofs.cuts.Cuts.at.Goals as goal

pub returns-clause-links : goal.returns-clause-links
returns-clause-links c =
    let from = c.until-from.result in
    let steps : c.first_steps-steps.result.now ≡ take (c.args.time - c.until-from.result.time) (drop c.until-from.result.time c.args.orders.now) = search rules in
    cut_later c.args.orders.now from.time c.args.time from.links c.with_cuts.result c.until-from.ensures.within c.until-from.ensures.links
    (λ n small. c.with_cuts.ensures n small ∙ ap (cut_behind n (has from.links n)) steps)
