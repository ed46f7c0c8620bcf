use Rattle.std.proofs.Common.{◌≡◌, ◌+◌, ◌++◌, drop}
use Rattle.hsr_stimuli.specs.Telling.{lines_from}
use Rattle.hsr_stimuli.proofs.telling.put_lines.Given as goal

abbrev pub invariant-loop-i : goal.invariant-loop-i
invariant-loop-i l =
    l.text.items ++ lines_from l.place (l.i + 1) (drop l.i l.list) ≡ l.initial.text.items ++ lines_from l.place 1 l.list
