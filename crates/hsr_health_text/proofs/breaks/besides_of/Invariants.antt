use Rattle.std.proofs.Common.{◌≡◌, take}
use Rattle.std.specs.List.{flat_map}
use Rattle.hsr_health_text.specs.Breaks.{if_beside}
use Rattle.hsr_health_text.proofs.breaks.besides_of.Given as goal

abbrev pub invariant-loop-i : goal.invariant-loop-i
invariant-loop-i l = l.besides.items ≡ flat_map (if_beside l.spans l.point l.base) (take l.i-index l.breaks)
