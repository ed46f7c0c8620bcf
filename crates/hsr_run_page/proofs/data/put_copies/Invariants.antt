use Rattle.std.proofs.Common.{◌≡◌, ◌++◌, take}
use Rattle.hsr_run_page.specs.Data.{copy_rows}
use Rattle.hsr_run_page.proofs.data.put_copies.Given as goal

abbrev pub invariant-loop-arrow : goal.invariant-loop-arrow
invariant-loop-arrow g l = l.text.items ≡ l.initial.text.items ++ copy_rows l.closed.run (take l.arrow-index l.arrows)
