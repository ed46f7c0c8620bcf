use Rattle.std.proofs.Common.{◌≡◌, map, take}
use Rattle.hsr_health.specs.Kinds.{malformed_by}
use Rattle.hsr_health.proofs.kinds.malformed_kinds.Given as goal

abbrev pub invariant-loop-own : goal.invariant-loop-own
invariant-loop-own l = l.kinds.items ≡ map malformed_by (take l.own-index l.counts)
