use Rattle.std.proofs.Common.{◌∙◌, arith, set, subst, sym, ap}
use Rattle.hsr_latency.specs.Kept.{greater}
use Rattle.hsr_latency.specs.Taken.{Keeps}
use Rattle.hsr_latency.proofs.Grouping.{kept_at, kept_nowhere}
use Rattle.hsr_latency.proofs.grouped.keep.Goals as goal

pub returns-in-Some : goal.returns-in-Some
returns-in-Some c =
    let old = c.args.longest.now.items in
    let i = c.in-Some.group in
    let low = c.if-group-len.true in
    let is = c.greater.ensures ∙ ap (λ o. greater o c.args.delay) c.index.ensures in
    subst (λ group. Keeps group c.args.delay old (set old i c.greater.result)) (sym c.in-Some.is) (kept_at i c.args.delay old c.index.result.now c.greater.result (omega (arith, low, c.len.ensures)) is)

pub returns-else-group-len : goal.returns-else-group-len
returns-else-group-len c =
    let high = c.if-group-len.false in
    let old = c.args.longest.now.items in
    subst (λ group. Keeps group c.args.delay old old) (sym c.in-Some.is) (kept_nowhere c.in-Some.group c.args.delay old (omega (arith, high, c.len.ensures)))
