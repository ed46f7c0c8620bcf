use Rattle.std.proofs.Common.{◌≡◌}
use Rattle.hsr_runner.specs.Wires.{roles_below}
use Rattle.hsr_runner.proofs.role.roles_of.Given as goal

abbrev pub invariant-loop-number : goal.invariant-loop-number
invariant-loop-number l = l.roles.items ≡ roles_below l.topology l.number
