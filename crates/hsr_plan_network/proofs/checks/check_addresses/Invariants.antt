use Rattle.std.proofs.Common.{◌≡◌, drop}
use Rattle.hsr_plan_network.specs.Checks.{each_passes, address_passes}
use Rattle.hsr_plan_network.proofs.checks.check_addresses.Given as goal

abbrev pub invariant-loop-address : goal.invariant-loop-address
invariant-loop-address l = each_passes (address_passes l.network) (drop l.address-index l.addresses) ≡ each_passes (address_passes l.network) l.addresses
