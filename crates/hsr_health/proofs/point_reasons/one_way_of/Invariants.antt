use Rattle.std.proofs.Common.{◌≡◌, map, take}
use Rattle.hsr_health.specs.Told.{is_kept_one_way}
use Rattle.hsr_health.proofs.point_reasons.one_way_of.Given as goal

-- those so far
abbrev pub invariant-loop-seen : goal.invariant-loop-seen
invariant-loop-seen l = l.flags.items ≡ map (is_kept_one_way l.ring l.copies l.both) (take l.seen-index l.all)
