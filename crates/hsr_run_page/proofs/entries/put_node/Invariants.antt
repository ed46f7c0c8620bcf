use Rattle.std.proofs.Common.{◌≡◌, ◌≤◌, ◌+◌, ◌++◌, length}
use Rattle.hsr_run_page.specs.Entries.{stamped_from}
use Rattle.hsr_run_page.proofs.entries.put_node.Given as goal

abbrev pub invariant-loop-stamp : goal.invariant-loop-stamp
invariant-loop-stamp l = (l.all.items ++ stamped_from l.fn.node l.place l.left ≡ l.initial.all.items ++ stamped_from l.fn.node 0 l.fn.stamps)
    × (l.place + length l.left ≤ length l.fn.stamps)

abbrev pub decreases-loop-stamp : goal.decreases-loop-stamp
decreases-loop-stamp l = length l.left
