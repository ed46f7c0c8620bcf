use Rattle.std.proofs.Common.{◌≡◌, ◌≤◌}
use Rattle.hsr_run_tables.specs.Table.{IsBetween, table_text, written}
use Rattle.hsr_run_tables.specs.Tables.{link_head, link_rows}
use Rattle.hsr_run_tables.proofs.links.link_table.Given as goal

abbrev pub invariant-loop-link : goal.invariant-loop-link
invariant-loop-link g l =
    IsBetween l.table × (written l.table ≡ table_text link_head (link_rows l.fn.naming l.closed.run l.link)) × (l.link ≤ l.link-end)
