use Rattle.std.proofs.Common.{◌≡◌, map, take}
use Rattle.hsr_health.specs.Kinds.{untagged_by}
use Rattle.hsr_health.proofs.kinds.untagged_kinds.Given as goal

abbrev pub invariant-loop-own : goal.invariant-loop-own
invariant-loop-own l = l.kinds.items ≡ map untagged_by (take l.own-index l.counts)
