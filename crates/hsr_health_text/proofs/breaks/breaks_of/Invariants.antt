use Rattle.std.proofs.Common.{◌≡◌, take}
use Rattle.std.specs.List.{flat_map}
use Rattle.hsr_health_text.specs.Breaks.{if_break}
use Rattle.hsr_health_text.proofs.breaks.breaks_of.Given as goal

abbrev pub invariant-loop-i : goal.invariant-loop-i
invariant-loop-i l = l.breaks.items ≡ flat_map (if_break l.spans) (take l.i-index l.told)
