use Rattle.std.proofs.Common.{◌≡◌, ◌++◌}
use Rattle.std.specs.List.{flat_map, range_with_len}
use Rattle.hsr_judging_text.specs.Deviations.{missing_told}
use Rattle.hsr_judging_text.proofs.deviation.put_missing.Given as goal

abbrev pub invariant-loop-i : goal.invariant-loop-i
invariant-loop-i l = l.deviations.items ≡ l.initial.deviations.items ++ flat_map (missing_told l.judgement) (range_with_len 0 l.i)
