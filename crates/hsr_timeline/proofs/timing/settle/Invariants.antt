use Rattle.hsr_timeline.specs.Fronts.{IsFront, lists_of}
use Rattle.hsr_timeline.proofs.timing.settle.Given as goal

abbrev pub invariant-loop : goal.invariant-loop
invariant-loop l = IsFront (lists_of l.records) (lists_of l.stamps.items)
