use Rattle.hsr_faults.specs.Lines.{AreCutsBelow}
use Rattle.hsr_faults.proofs.outage.told.Given as goal

abbrev pub invariant-loop-j : goal.invariant-loop-j
invariant-loop-j l = AreCutsBelow l.groups l.of l.missed l.j l.cuts.items
