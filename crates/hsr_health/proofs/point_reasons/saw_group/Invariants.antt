use Rattle.std.proofs.Common.{◌≡◌, ◌&&◌, false, take}
use Rattle.std.specs.List.{list_any}
use Rattle.hsr_frame.specs.Address.{is_group}
use Rattle.hsr_sightings.specs.Ring.{is_at}
use Rattle.hsr_health.proofs.point_reasons.saw_group.Given as goal

-- none so far is such
abbrev pub invariant-loop-caught : goal.invariant-loop-caught
invariant-loop-caught l = list_any (λ c. is_at l.ring l.point c && is_group c.copy.dst) (take l.caught-index l.copies) ≡ false
