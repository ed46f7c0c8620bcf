use Rattle.std.proofs.Common.{◌≡◌}
use Rattle.hsr_faults.specs.Fault.{offs}
use Rattle.hsr_faults.proofs.faults.push_links.Given as goal

abbrev pub invariant-loop-link : goal.invariant-loop-link
invariant-loop-link l = l.list.items ≡ offs l.link 0
