use Rattle.std.proofs.Common.{◌≡◌, ◌+◌, length, take}
use Rattle.hsr_plan_report.specs.Streams.{AreSent}
use Rattle.hsr_plan_report.proofs.sent.sent_of.Given as goal

-- the sends so far are counted
abbrev pub invariant-loop-index : goal.invariant-loop-index
invariant-loop-index l = record {
  long : length l.sent.items ≡ l.last + 1;
  sent : AreSent l.streams l.last (take l.index l.outcomes) l.sent.items;
}
