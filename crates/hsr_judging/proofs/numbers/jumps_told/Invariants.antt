use Rattle.std.proofs.Common.{◌≡◌, ◌++◌, drop}
use Rattle.hsr_judging.specs.Numbers.{jumps_in, jumps_told, told_from}
use Rattle.hsr_judging.proofs.numbers.jumps_told.Given as goal

-- what was told and what is left to tell are all that is told
abbrev pub invariant-loop-k : goal.invariant-loop-k
invariant-loop-k l =
    l.told.items ++ told_from (jumps_in l.left.items) l.expected (drop l.k l.gots) ≡ jumps_told l.jumps l.expected l.gots
