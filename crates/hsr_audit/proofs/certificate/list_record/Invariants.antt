use Rattle.std.proofs.Common.{◌≡◌, ◌++◌}
use Rattle.hsr_audit.specs.Listed.{listed_at}
use Rattle.hsr_audit.proofs.certificate.list_record.Given as goal

abbrev pub invariant-loop-i : goal.invariant-loop-i
invariant-loop-i l = l.sends.items ≡ l.initial.sends.items ++ listed_at l.macs l.fn.number l.place l.entries l.i
