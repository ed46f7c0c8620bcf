use Rattle.std.proofs.Common.{◌≡◌, ◌++◌, take}
use Rattle.std.specs.List.{flat_map}
use Rattle.hsr_plan_sweep.specs.Lines.{play_line}
use Rattle.hsr_plan_sweep.proofs.lines.put_lines.Given as goal

abbrev pub invariant-loop-played : goal.invariant-loop-played
invariant-loop-played l = l.text.items ≡ l.initial.text.items ++ flat_map (play_line l.words) (take l.played-index l.plays)
