use Rattle.std.proofs.Common.{◌≡◌, ◌++◌, take}
use Rattle.std.specs.List.{flat_map}
use Rattle.hsr_judging_text.specs.Lines.{difference_text}
use Rattle.hsr_judging_text.specs.Words.{behind}
use Rattle.hsr_judging_text.proofs.lines.put_other_differences.Given as goal

abbrev pub invariant-loop-difference : goal.invariant-loop-difference
invariant-loop-difference l =
    l.text.items ≡ l.initial.text.items ++ flat_map (behind (difference_text l.expected l.copy)) (take l.difference-index l.fields)
