use Rattle.std.proofs.Common.{◌≡◌, map}
use Rattle.std.specs.List.{range_with_len}
use Rattle.hsr_health.specs.Told.{saw_single}
use Rattle.hsr_health.proofs.source_reasons.seen_single.Given as goal

-- the groups so far
abbrev pub invariant-loop-group : goal.invariant-loop-group
invariant-loop-group l = l.seen.items ≡ map (saw_single l.groups l.counts) (range_with_len 0 l.group)
