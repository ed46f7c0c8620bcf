use Rattle.hsr_routes.specs.Routes.{bare}
use Rattle.hsr_faults.specs.Lines.{AreMissed}
use Rattle.hsr_faults.proofs.outage.all_missed.Given as goal

abbrev pub invariant-loop-i : goal.invariant-loop-i
invariant-loop-i l = AreMissed (bare l.topology.places l.topology.links) l.fault l.groups l.i l.all.items
