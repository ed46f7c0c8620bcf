use Rattle.std.proofs.Common.{◌≡◌, ◌++◌, take}
use Rattle.std.specs.List.{flat_map}
use Rattle.hsr_plan_sweep.specs.Lines.{next_point}
use Rattle.hsr_plan_sweep.proofs.lines.put_others.Given as goal

abbrev pub invariant-loop-off : goal.invariant-loop-off
invariant-loop-off l = l.text.items ≡ l.initial.text.items ++ flat_map (next_point l.words) (take l.off-index l.offs)
