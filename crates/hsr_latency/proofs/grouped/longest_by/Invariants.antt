use Rattle.std.proofs.Common.{◌≡◌, length, take}
use Rattle.hsr_deliveries.specs.Counted.{value_of}
use Rattle.hsr_latency.specs.Taken.{AreKept}
use Rattle.hsr_latency.proofs.grouped.longest_by.Given as goal

-- the greatest so far
abbrev pub invariant-loop-delay : goal.invariant-loop-delay
invariant-loop-delay l = record {
  many : length l.longest.items ≡ l.fn.many;
  kept : AreKept (value_of l.groups) (take l.delay-index l.delays) l.longest.items;
}
