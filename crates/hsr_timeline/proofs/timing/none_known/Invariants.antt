use Rattle.std.proofs.Common.{◌≡◌, [], replicate}
use Rattle.hsr_timeline.specs.Fronts.{lists_of}
use Rattle.hsr_timeline.proofs.timing.none_known.Given as goal

abbrev pub invariant-loop : goal.invariant-loop
invariant-loop l = lists_of l.stamps.items ≡ replicate l.index []
