use Rattle.std.proofs.Common.{◌≡◌, ◌≤◌, ◌+◌, ◌++◌, length}
use Rattle.hsr_timeline.specs.Fronts.{lists_of}
use Rattle.hsr_run_page.specs.Entries.{stamped_all, stamped_nodes}
use Rattle.hsr_run_page.proofs.entries.stamped_all.Given as goal

abbrev pub invariant-loop-list : goal.invariant-loop-list
invariant-loop-list l = (l.all.items ++ stamped_nodes l.node (lists_of l.left) ≡ stamped_all (lists_of l.fn.stamps))
    × (l.node + length l.left ≤ length l.fn.stamps)

abbrev pub decreases-loop-list : goal.decreases-loop-list
decreases-loop-list l = length l.left
