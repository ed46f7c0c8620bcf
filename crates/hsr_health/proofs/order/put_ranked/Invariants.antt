use Rattle.std.proofs.Common.{◌≡◌, ◌++◌, take}
use Rattle.std.specs.Prelude.{◌==◌, filter}
use Rattle.hsr_health.specs.Order.{rank_of}
use Rattle.hsr_health.proofs.order.put_ranked.Given as goal

-- those of the rank so far stand behind the others
abbrev pub invariant-loop-reason : goal.invariant-loop-reason
invariant-loop-reason l = l.sorted.items ≡ l.fn.sorted.items ++ filter (λ reason. rank_of reason.word l.facts == l.rank) (take l.reason-index l.reasons)
