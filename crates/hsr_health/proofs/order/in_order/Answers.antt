use Rattle.std.specs.Prelude.{◌==◌, filter}
use Rattle.hsr_health.specs.Order.{rank_of}
use Rattle.hsr_health.specs.declared.reason.Reason.{Reason}
use Rattle.hsr_health.proofs.Ranking.{ranked}
use Rattle.hsr_health.proofs.order.in_order.Goals as goal

pub loop-rank-preserved : goal.loop-rank-preserved
loop-rank-preserved c =
    ranked (λ rank. filter (λ (reason : Reason). rank_of reason.word c.args.facts == rank) c.args.reasons.now) c.loop-rank.rank c.loop-rank.sorted.items _ c.loop-rank.invariant c.in_ok-put_ranked.ensures
