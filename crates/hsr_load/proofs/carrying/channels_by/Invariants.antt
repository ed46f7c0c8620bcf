use Rattle.std.proofs.Common.{◌≡◌}
use Rattle.hsr_load.specs.Carried.{channels_below}
use Rattle.hsr_load.proofs.carrying.channels_by.Given as goal

abbrev pub invariant-loop-link : goal.invariant-loop-link
invariant-loop-link g l = l.list.items ≡ channels_below l.closed.run l.link
