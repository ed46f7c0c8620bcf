use Rattle.std.proofs.Common.{◌≡◌, ◌++◌, take}
use Rattle.hsr_run_page.specs.Data.{entry_rows}
use Rattle.hsr_run_page.proofs.data.put_entries.Given as goal

abbrev pub invariant-loop-at : goal.invariant-loop-at
invariant-loop-at g l = l.text.items ≡ l.initial.text.items ++ entry_rows l.closed.run l.sends l.span (take l.at-index l.entries)
