use Rattle.std.proofs.Common.{◌≡◌, ◌++◌, replicate}
use Rattle.hsr_plan_payload.proofs.ber.put_zeros.Given as goal

abbrev pub invariant-loop-done : goal.invariant-loop-done
invariant-loop-done l = l.out.items ≡ l.initial.out.items ++ replicate l._done 0
