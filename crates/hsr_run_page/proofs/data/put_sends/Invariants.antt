use Rattle.std.proofs.Common.{◌≡◌, ◌++◌, take}
use Rattle.hsr_run_page.specs.Data.{send_rows}
use Rattle.hsr_run_page.proofs.data.put_sends.Given as goal

abbrev pub invariant-loop-sent : goal.invariant-loop-sent
invariant-loop-sent g l = l.text.items ≡ l.initial.text.items ++ send_rows l.closed.run l.deliveries (take l.sent-index l.sends)
