use Rattle.std.proofs.Common.{◌≡◌, ◌++◌, drop, filter}
use Rattle.hsr_timeline.specs.Choice.{is_wanted}
use Rattle.hsr_timeline.proofs.choosing.chosen.Given as goal

abbrev pub invariant-loop-i : goal.invariant-loop-i
invariant-loop-i g l = l.list.items ++ filter (is_wanted l.closed.run l.choice) (drop l.i l.rows) ≡ filter (is_wanted l.closed.run l.choice) l.rows
