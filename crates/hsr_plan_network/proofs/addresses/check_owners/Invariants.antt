use Rattle.std.proofs.Common.{◌≡◌, drop}
use Rattle.hsr_plan_network.specs.Addresses.{is_own}
use Rattle.hsr_plan_network.specs.Checks.{each_passes}
use Rattle.hsr_plan_network.proofs.addresses.check_owners.Given as goal

abbrev pub invariant-loop-address : goal.invariant-loop-address
invariant-loop-address l = each_passes (is_own l.nodes) (drop l.address-index l.addresses) ≡ each_passes (is_own l.nodes) l.addresses
