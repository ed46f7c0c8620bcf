use Rattle.std.proofs.Common.{◌≡◌, ◌++◌}
use Rattle.hsr_deliveries.specs.Counted.{deliveries_at}
use Rattle.hsr_deliveries.proofs.delivering.list_record.Given as goal

abbrev pub invariant-loop-i : goal.invariant-loop-i
invariant-loop-i g l = l.sends.items ≡ l.initial.sends.items ++ deliveries_at l.traces l.fn.number l.place l.entries l.i
