use Rattle.std.proofs.Common.{◌-◌, ◌^◌, ◌∙◌, ap, arith, min}
use Rattle.std.proofs.lemmas.List.{take_all}
use Rattle.hsr_health.specs.Counted.{no_counts}
use Rattle.hsr_health.specs.Order.{wrong_lanes}
use Rattle.hsr_health.proofs.Ranking.{tenth_most, lanes_more}
use Rattle.hsr_health.proofs.order.lane_is_common.Goals as goal

pub loop-own-preserved : goal.loop-own-preserved
loop-own-preserved c = lanes_more c.args.counts.now c.loop-own.own-index no_counts c.loop-own.lane _ (omega arith) c.loop-own.invariant (omega arith)

pub returns : goal.returns
returns c =
    tenth_most c.loop-own.lane c.args.copies (wrong_lanes c.args.counts.now) c.saturating_mul.result
    (c.loop-own.invariant ∙ ap (λ l. min (wrong_lanes l) (2 ^ 64 - 1)) (take_all c.loop-own.own-index c.args.counts.now (omega arith))) (omega arith)
    c.saturating_mul.ensures
