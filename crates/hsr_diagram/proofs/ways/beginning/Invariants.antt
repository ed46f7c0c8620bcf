use Rattle.hsr_diagram.specs.Panels.{IsLaneOf}
use Rattle.hsr_diagram.proofs.ways.beginning.Given as goal

abbrev pub invariant-loop : goal.invariant-loop
invariant-loop l = IsLaneOf l.topology.links l.lane × IsLaneOf l.topology.links l.at
