use Rattle.std.proofs.Common.{◌≡◌, ◌++◌, reverse, take}
use Rattle.hsr_node.specs.Record.{now}
use Rattle.hsr_audit.specs.Timed.{sent_moments}
use Rattle.hsr_audit.proofs.moments.put_sent.Given as goal

abbrev pub invariant-loop-x : goal.invariant-loop-x
invariant-loop-x l = record {
  moment : l.moment ≡ now (reverse (take l.x-index l.entries));
  sends : l.sends.items ≡ l.initial.sends.items ++ sent_moments (reverse (take l.x-index l.entries));
}
