use Rattle.std.proofs.Common.{◌≡◌, drop}
use Rattle.hsr_certify.specs.Served.{first_missed_from}
use Rattle.hsr_certify.proofs.serving.first_missed.Given as goal

abbrev pub invariant-loop-node : goal.invariant-loop-node
invariant-loop-node l = first_missed_from l.span l.nodes l.node (drop l.node l.places) ≡ first_missed_from l.span l.nodes 0 l.places
