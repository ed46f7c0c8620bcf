use Rattle.std.proofs.Common.{◌≡◌, ◌++◌, length}
use Rattle.hsr_faults.specs.Fault.{faults_of_two, pairs}
use Rattle.hsr_faults.proofs.faults.faults_of_two.Given as goal

abbrev pub invariant-loop-first : goal.invariant-loop-first
invariant-loop-first l = l.list.items ++ pairs l.rest ≡ faults_of_two (length l.fn.topology.links) (length l.fn.topology.places)

abbrev pub decreases-loop-first : goal.decreases-loop-first
decreases-loop-first l = length l.rest
