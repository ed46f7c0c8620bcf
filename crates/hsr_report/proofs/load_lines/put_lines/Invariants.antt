use Rattle.std.proofs.Common.{◌≡◌, ◌++◌, take}
use Rattle.std.specs.List.{flat_map}
use Rattle.hsr_report.specs.LoadLines.{load_line}
use Rattle.hsr_report.proofs.load_lines.put_lines.Given as goal

abbrev pub invariant-loop-load : goal.invariant-loop-load
invariant-loop-load l = l.text.items ≡ l.initial.text.items ++ flat_map (load_line l.naming l.places) (take l.load-index l.loads)
