use Rattle.std.proofs.Common.{◌≡◌, ◌++◌, drop}
use Rattle.hsr_timeline.specs.Fronts.{lists_of}
use Rattle.hsr_explanation.specs.Lines.{lines_of}
use Rattle.hsr_explanation.proofs.lines.put_explanation.Given as goal

abbrev pub invariant-loop-words : goal.invariant-loop-words
invariant-loop-words l = l.text.items ++ lines_of (lists_of (drop l.words-index l.lines)) ≡ l.initial.text.items ++ lines_of (lists_of l.lines)
