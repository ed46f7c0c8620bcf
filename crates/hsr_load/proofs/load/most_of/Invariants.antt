use Rattle.std.proofs.Common.{◌≡◌, None, drop}
use Rattle.std.specs.Prelude.{fold}
use Rattle.hsr_load.specs.Sums.{more}
use Rattle.hsr_load.proofs.load.most_of.Given as goal

abbrev pub invariant-loop-load : goal.invariant-loop-load
invariant-loop-load l = fold more l.most (drop l.load-index l.loads) ≡ fold more None l.loads
