use Rattle.std.proofs.Common.{◌≡◌, ◌≤◌, ◌+◌, ◌++◌, length}
use Rattle.hsr_downs.specs.Drains.{drains_from}
use Rattle.hsr_downs.proofs.draining.drains.Given as goal

abbrev pub invariant-loop-order : goal.invariant-loop-order
invariant-loop-order l =
    (l.list.items ++ drains_from l.moment l.planned l.rest ≡ drains_from 0 0 l.fn.orders) × (l.planned + length l.rest ≤ length l.fn.orders)

abbrev pub decreases-loop-order : goal.decreases-loop-order
decreases-loop-order l = length l.rest
