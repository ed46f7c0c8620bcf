use Rattle.hsr_plan_outages.specs.Outages.{TellsLines}
use Rattle.hsr_plan_outages.proofs.outages.put_lines.Given as goal

abbrev pub invariant-loop-fault : goal.invariant-loop-fault
invariant-loop-fault l = TellsLines l.nodes l.sweep l.faults l.fault-index l.initial.text.items l.text.items l.cutting
