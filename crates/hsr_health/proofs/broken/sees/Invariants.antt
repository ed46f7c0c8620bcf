use Rattle.std.proofs.Common.{◌≡◌, false, take}
use Rattle.std.specs.List.{list_any}
use Rattle.hsr_health.specs.Broken.{is_seen}
use Rattle.hsr_health.proofs.broken.sees.Given as goal

-- none so far is such
abbrev pub invariant-loop-caught : goal.invariant-loop-caught
invariant-loop-caught l = list_any (is_seen l.ring l.point l.way) (take l.caught-index l.copies) ≡ false
