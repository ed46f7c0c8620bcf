use Rattle.std.proofs.Common.{◌≡◌, ◌++◌, take}
use Rattle.std.specs.List.{flat_map}
use Rattle.hsr_run_page.specs.Rows.{down_row}
use Rattle.hsr_run_page.proofs.data.put_downs.Given as goal

abbrev pub invariant-loop-down : goal.invariant-loop-down
invariant-loop-down l = l.text.items ≡ l.initial.text.items ++ flat_map down_row (take l.down-index l.downs)
