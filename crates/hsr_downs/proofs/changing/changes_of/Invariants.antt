use Rattle.std.proofs.Common.{◌≡◌, ◌≤◌, ◌+◌, ◌++◌, length}
use Rattle.hsr_downs.specs.Changes.{changes_from}
use Rattle.hsr_downs.proofs.changing.changes_of.Given as goal

abbrev pub invariant-loop-order : goal.invariant-loop-order
invariant-loop-order l =
    (l.list.items ++ changes_from l.moment l.planned l.rest ≡ changes_from 0 0 l.fn.orders) × (l.planned + length l.rest ≤ length l.fn.orders)

abbrev pub decreases-loop-order : goal.decreases-loop-order
decreases-loop-order l = length l.rest
