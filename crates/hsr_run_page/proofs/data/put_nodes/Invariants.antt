use Rattle.std.proofs.Common.{◌≡◌, ◌≤◌, ◌+◌, ◌++◌, length}
use Rattle.hsr_timeline.specs.Fronts.{lists_of}
use Rattle.hsr_run_page.specs.Data.{node_rows, node_rows_from}
use Rattle.hsr_run_page.proofs.data.put_nodes.Given as goal

abbrev pub invariant-loop-place : goal.invariant-loop-place
invariant-loop-place l = (l.text.items ++ node_rows_from (lists_of l.fn.names) l.number l.left ≡ l.initial.text.items ++ node_rows (lists_of l.fn.names) l.fn.places)
    × (l.number + length l.left ≤ length l.fn.places)

abbrev pub decreases-loop-place : goal.decreases-loop-place
decreases-loop-place l = length l.left
