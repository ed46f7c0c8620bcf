use Rattle.std.proofs.Common.{◌≡◌, ◌++◌, map, take}
use Rattle.hsr_faults.specs.declared.fault.Fault.TheVariants.{Two}
use Rattle.hsr_faults.proofs.faults.push_pairs.Given as goal

abbrev pub invariant-loop-second : goal.invariant-loop-second
invariant-loop-second l = l.list.items ≡ l.fn.list.items ++ map (Two l.first) (take l.second-index l.later)
