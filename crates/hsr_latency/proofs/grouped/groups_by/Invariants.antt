use Rattle.std.proofs.Common.{◌≡◌, take}
use Rattle.hsr_node.specs.declared.event.Probe.{Probe}
use Rattle.hsr_deliveries.specs.Counted.{value_of}
use Rattle.hsr_latency.specs.Taken.{group_of}
use Rattle.hsr_latency.proofs.grouped.groups_by.Given as goal

-- the groups of the members so far
abbrev pub invariant-loop-member : goal.invariant-loop-member
invariant-loop-member l = (send : Probe) → value_of l.groups send ≡ group_of (take l.member-index l.members) send
