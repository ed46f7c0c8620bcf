use Rattle.hsr_plan_report.specs.Outages.{AreOutageRows}
use Rattle.hsr_plan_report.proofs.outages.rows_of.Given as goal

abbrev pub invariant-loop-fault : goal.invariant-loop-fault
invariant-loop-fault l = AreOutageRows l.sweep l.faults l.fault-index l.rows.items
