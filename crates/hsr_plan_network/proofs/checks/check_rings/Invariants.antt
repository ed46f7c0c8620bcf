use Rattle.std.proofs.Common.{◌≡◌, drop}
use Rattle.hsr_plan_network.specs.Checks.{each_passes, ring_passes}
use Rattle.hsr_plan_network.proofs.checks.check_rings.Given as goal

abbrev pub invariant-loop-ring : goal.invariant-loop-ring
invariant-loop-ring l = each_passes (ring_passes l.rings) (drop l.ring-index l.rings) ≡ each_passes (ring_passes l.rings) l.rings
