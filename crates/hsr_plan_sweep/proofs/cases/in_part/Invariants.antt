use Rattle.std.proofs.Common.{◌≡◌, ◌++◌, drop}
use Rattle.hsr_plan_sweep.specs.Cases.{in_part}
use Rattle.hsr_plan_sweep.proofs.cases.in_part.Given as goal

abbrev pub invariant-loop-index : goal.invariant-loop-index
invariant-loop-index l = l.list.items ++ in_part l.part l.index (drop l.index l.cases) ≡ in_part l.part 0 l.cases
