use Rattle.std.proofs.Common.{◌≡◌, ◌++◌}
use Rattle.std.specs.List.{flat_map, range_with_len}
use Rattle.hsr_judging_text.specs.Deviations.{observed_told}
use Rattle.hsr_judging_text.proofs.deviation.put_observed.Given as goal

abbrev pub invariant-loop-k : goal.invariant-loop-k
invariant-loop-k l = l.deviations.items ≡ l.initial.deviations.items ++ flat_map (observed_told l.judgement) (range_with_len 0 l.k)
