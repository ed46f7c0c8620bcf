use Rattle.std.proofs.Common.{◌≡◌, drop}
use Rattle.hsr_plan_network.specs.Names.{joined}
use Rattle.hsr_plan_network.proofs.names.join.Given as goal

abbrev pub invariant-loop-name : goal.invariant-loop-name
invariant-loop-name l = joined l.seen.items (drop l.name-index l.names) ≡ joined l.initial.seen.items l.names
