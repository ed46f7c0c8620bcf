use Rattle.std.proofs.Common.{◌≡◌, ◌++◌, length, map}
use Rattle.hsr_timeline.specs.Fronts.{lists_of}
use Rattle.hsr_run_names.specs.Naming.{entries_told, told_by}
use Rattle.hsr_run_names.proofs.naming.entry_names.Given as goal

abbrev pub invariant-loop-entry : goal.invariant-loop-entry
invariant-loop-entry l = map told_by l.names.items ++ entries_told l.entries (lists_of l.next) ≡ entries_told l.list (lists_of l.streams)

abbrev pub decreases-loop-entry : goal.decreases-loop-entry
decreases-loop-entry l = length l.entries
