use Rattle.std.proofs.Common.{◌≡◌, ℕ, ◌<◌, ◌&&◌, ◌||◌, take}
use Rattle.std.specs.Prelude.{nat_eq}
use Rattle.std.specs.List.{list_any}
use Rattle.hsr_bitset.specs.Numbers.{has}
use Rattle.hsr_plan_sweep.specs.Audience.{needs}
use Rattle.hsr_plan_report.proofs.missing.with_missing.Given as goal

-- the nodes so far
abbrev pub invariant-loop-node : goal.invariant-loop-node
invariant-loop-node l =
    (k : ℕ) → k < 512 → has l.set k ≡ (has l.fn.missing k || (list_any (λ n. nat_eq n k) (take l.node-index l.delivery.missed) && needs l.audience l.fn.stream l.delivery.at k))
