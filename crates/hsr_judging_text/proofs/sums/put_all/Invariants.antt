use Rattle.std.proofs.Common.{◌≡◌, ◌++◌, take}
use Rattle.std.specs.List.{flat_map}
use Rattle.hsr_judging_text.specs.Sums.{sum_line}
use Rattle.hsr_judging_text.proofs.sums.put_all.Given as goal

abbrev pub invariant-loop-sum : goal.invariant-loop-sum
invariant-loop-sum l = l.text.items ≡ l.initial.text.items ++ flat_map sum_line (take l.sum-index l.sums)
