use Rattle.std.proofs.Common.{◌≡◌, [], ◌++◌, length}
use Rattle.hsr_timeline.specs.Fronts.{lists_of}
use Rattle.hsr_diagram_text.specs.Wrapped.{wrapped_from}
use Rattle.hsr_diagram_text.proofs.wrapping.wrapped.Given as goal

abbrev pub invariant-loop-letter : goal.invariant-loop-letter
invariant-loop-letter l = lists_of l.lines.items ++ wrapped_from l.line.items l.rest ≡ wrapped_from [] l.words

abbrev pub decreases-loop-letter : goal.decreases-loop-letter
decreases-loop-letter l = length l.rest
