use Rattle.std.proofs.Common.{◌≡◌, false}
use Rattle.hsr_timeline.specs.Fronts.{IsFront, lists_of}
use Rattle.hsr_timeline.proofs.timing.catch_up.Given as goal

abbrev pub invariant-loop : goal.invariant-loop
invariant-loop l = record {
  front : IsFront (lists_of l.records) (lists_of l.stamps.items);
  still : l.moved ≡ false → lists_of l.stamps.items ≡ lists_of l.initial.stamps.items;
}
