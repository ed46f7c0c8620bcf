use Rattle.std.proofs.Common.{◌≡◌, ◌++◌, drop}
use Rattle.hsr_plan_schedule.specs.Moments.{sent_by}
use Rattle.hsr_plan_schedule.proofs.sends.sent_by.Given as goal

abbrev pub invariant-loop-index : goal.invariant-loop-index
invariant-loop-index l = l.occasions.items ++ sent_by l.stream l.index (drop l.index l.senders) l.timing l.until l.dst ≡ sent_by l.stream 0 l.senders l.timing l.until l.dst
