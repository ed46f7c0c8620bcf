use Rattle.std.proofs.Common.{◌≡◌, ◌++◌, take}
use Rattle.std.specs.List.{flat_map}
use Rattle.hsr_run_page.specs.Rows.{drain_row}
use Rattle.hsr_run_page.proofs.data.put_drains.Given as goal

abbrev pub invariant-loop-drain : goal.invariant-loop-drain
invariant-loop-drain l = l.text.items ≡ l.initial.text.items ++ flat_map drain_row (take l.drain-index l.drains)
