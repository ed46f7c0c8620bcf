use Rattle.std.proofs.Common.{◌≡◌, ◌≤◌}
use Rattle.hsr_run_tables.specs.Table.{IsBetween, table_text, written}
use Rattle.hsr_run_tables.specs.Tables.{node_head, node_rows}
use Rattle.hsr_run_tables.proofs.nodes.node_table.Given as goal

abbrev pub invariant-loop-node : goal.invariant-loop-node
invariant-loop-node g l =
    IsBetween l.table × (written l.table ≡ table_text node_head (node_rows l.fn.naming l.closed.run l.node)) × (l.node ≤ l.node-end)
