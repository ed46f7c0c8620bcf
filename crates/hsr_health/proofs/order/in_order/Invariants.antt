use Rattle.std.proofs.Common.{◌≡◌}
use Rattle.std.specs.Prelude.{◌==◌, filter}
use Rattle.std.specs.List.{flat_map, range_with_len}
use Rattle.hsr_health.specs.Order.{rank_of}
use Rattle.hsr_health.proofs.order.in_order.Given as goal

-- those of the ranks so far
abbrev pub invariant-loop-rank : goal.invariant-loop-rank
invariant-loop-rank l = l.sorted.items ≡ flat_map (λ rank. filter (λ reason. rank_of reason.word l.facts == rank) l.reasons) (range_with_len 0 l.rank)
