use Rattle.std.proofs.Common.{◌≡◌, max, [], length}
use Rattle.hsr_plan_schedule.specs.Room.{most_open}
use Rattle.hsr_plan_schedule.proofs.room.most_open.Given as goal

abbrev pub invariant-loop-order : goal.invariant-loop-order
invariant-loop-order l = max l.most (most_open l.limit l.now l.sends.items l.left) ≡ most_open l.limit 0 [] l.orders

abbrev pub decreases-loop-order : goal.decreases-loop-order
decreases-loop-order l = length l.left
