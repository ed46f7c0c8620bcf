use Rattle.std.proofs.Common.{◌≡◌, length, drop}
use Rattle.hsr_plan_schedule.specs.Moments.{left, sent_by}
use Rattle.hsr_plan_schedule.proofs.sends.left_by_all.Given as goal

abbrev pub invariant-loop-index : goal.invariant-loop-index
invariant-loop-index l = left l.rest (length (sent_by l.stream l.index (drop l.index l.senders) l.timing l.until l.dst)) ≡ left l.room (length (sent_by l.stream 0 l.senders l.timing l.until l.dst))
