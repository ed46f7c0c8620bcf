use Rattle.std.proofs.Common.{◌≡◌, ◌++◌, take}
use Rattle.std.specs.List.{flat_map}
use Rattle.hsr_plan_page.specs.Data.{outage_row}
use Rattle.hsr_plan_page.proofs.data.put_outages.Given as goal

abbrev pub invariant-loop-row : goal.invariant-loop-row
invariant-loop-row l = l.text.items ≡ l.initial.text.items ++ flat_map outage_row (take l.row-index l.rows)
