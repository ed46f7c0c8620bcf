use Rattle.std.proofs.Common.{◌≡◌, ◌++◌, drop}
use Rattle.hsr_plan_network.specs.Checks.{stations_of}
use Rattle.hsr_plan_network.proofs.checks.stations_of.Given as goal

abbrev pub invariant-loop-redbox : goal.invariant-loop-redbox
invariant-loop-redbox l = l.stations.items ++ stations_of (drop l.redbox-index l.redboxes) ≡ stations_of l.redboxes
