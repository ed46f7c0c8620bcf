use Rattle.std.proofs.Common.{◌≡◌, [], drop}
use Rattle.hsr_judging_text.specs.Sums.{sums_from}
use Rattle.hsr_judging_text.proofs.sums.sums_of.Given as goal

-- what is left is counted behind what was
abbrev pub invariant-loop-deviation : goal.invariant-loop-deviation
invariant-loop-deviation l =
    sums_from l.scene l.sums.items (drop l.deviation-index l.deviations) ≡ sums_from l.scene [] l.deviations
