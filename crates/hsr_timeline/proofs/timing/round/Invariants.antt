use Rattle.std.proofs.Common.{◌≡◌, false}
use Rattle.hsr_timeline.specs.Fronts.{AreBlocked, IsFront, lists_of}
use Rattle.hsr_timeline.proofs.timing.round.Given as goal

abbrev pub invariant-loop-node : goal.invariant-loop-node
invariant-loop-node l = record {
  front : IsFront (lists_of l.records) (lists_of l.stamps.items);
  blocked : l.moved ≡ false → AreBlocked (lists_of l.records) (lists_of l.stamps.items) l.node;
}
