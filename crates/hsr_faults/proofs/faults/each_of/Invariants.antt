use Rattle.std.proofs.Common.{◌≡◌, map, take}
use Rattle.hsr_faults.specs.declared.fault.Fault.TheVariants.{One}
use Rattle.hsr_faults.proofs.faults.each_of.Given as goal

abbrev pub invariant-loop-off : goal.invariant-loop-off
invariant-loop-off l = l.list.items ≡ map One (take l.off-index l.offs)
