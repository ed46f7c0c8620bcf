use Rattle.std.proofs.Common.{◌≡◌, ◌++◌}
use Rattle.hsr_run_index.specs.Turns.{holds_from}
use Rattle.hsr_timeline.proofs.mains.main_places.Given as goal

abbrev pub invariant-loop-i : goal.invariant-loop-i
invariant-loop-i l = l.places.items ++ holds_from 0 l.entries l.i ≡ holds_from 0 l.entries 0
