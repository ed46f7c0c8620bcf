use Rattle.std.proofs.Common.{◌≡◌, length}
use Rattle.hsr_plan_report.specs.StreamRows.{EachNoted}
use Rattle.hsr_plan_report.proofs.streams.rows_of.Given as goal

-- each stream so far has its row
abbrev pub invariant-loop-number : goal.invariant-loop-number
invariant-loop-number l = record {
  long : length l.rows.items ≡ l.number;
  have : EachNoted l.all (length l.nodes) l.rows.items;
}
