use Rattle.std.proofs.Common.{◌≡◌, ◌++◌, take}
use Rattle.std.specs.List.{flat_map}
use Rattle.hsr_judging_text.specs.Lines.{line}
use Rattle.hsr_judging_text.proofs.report.put_lines.Given as goal

abbrev pub invariant-loop-deviation : goal.invariant-loop-deviation
invariant-loop-deviation l = l.text.items ≡ l.initial.text.items ++ flat_map (line l.scene l.all) (take l.deviation-index l.deviations)
