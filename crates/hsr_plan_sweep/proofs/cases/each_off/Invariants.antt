use Rattle.std.proofs.Common.{◌≡◌, ◌++◌, map, take}
use Rattle.hsr_plan_sweep.specs.declared.cases.Case.TheVariants.{Off}
use Rattle.hsr_plan_sweep.proofs.cases.each_off.Given as goal

abbrev pub invariant-loop-fault : goal.invariant-loop-fault
invariant-loop-fault l = l.cases.items ≡ map Off (take l.fault-index l.faults)
