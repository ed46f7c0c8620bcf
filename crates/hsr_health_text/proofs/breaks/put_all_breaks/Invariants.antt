use Rattle.std.proofs.Common.{◌≡◌, ◌++◌, take}
use Rattle.std.specs.List.{flat_map}
use Rattle.hsr_health_text.specs.Breaks.{break_at}
use Rattle.hsr_health_text.proofs.breaks.put_all_breaks.Given as goal

abbrev pub invariant-loop-i : goal.invariant-loop-i
invariant-loop-i l = l.text.items ≡ l.initial.text.items ++ flat_map (break_at l.spans l.breaks l.points) (take l.i-index l.breaks)
