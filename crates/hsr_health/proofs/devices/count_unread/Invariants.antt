use Rattle.std.proofs.Common.{take}
use Rattle.hsr_health.proofs.Living.{AreUnread}
use Rattle.hsr_health.proofs.devices.count_unread.Given as goal

-- those so far
abbrev pub invariant-loop-i : goal.invariant-loop-i
invariant-loop-i l = AreUnread l.of_copy (take l.i l.unread) l.fn.counts.items l.counts.items
