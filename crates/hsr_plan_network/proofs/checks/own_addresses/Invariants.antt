use Rattle.std.proofs.Common.{◌≡◌, drop}
use Rattle.hsr_plan_network.specs.Checks.{own_addresses}
use Rattle.hsr_plan_network.proofs.checks.own_addresses.Given as goal

abbrev pub invariant-loop-i : goal.invariant-loop-i
invariant-loop-i l = own_addresses (drop l.i l.addresses) ≡ own_addresses l.addresses
