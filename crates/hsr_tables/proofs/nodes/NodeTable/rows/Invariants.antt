use Rattle.std.proofs.Common.{◌≡◌, ◌≤◌, take, length}
use Rattle.std.specs.Prelude.{map}
use Rattle.hsr_tables.specs.Known.{known}
use Rattle.hsr_tables.proofs.nodes.NodeTable.rows.Given as goal

abbrev pub invariant-loop-row : goal.invariant-loop-row
invariant-loop-row l = record {
  so_far : l.list.items ≡ map (λ r. r.0) (known l.at (take l.row-index l.row-items));
  few : length l.list.items ≤ l.row-index;
}
