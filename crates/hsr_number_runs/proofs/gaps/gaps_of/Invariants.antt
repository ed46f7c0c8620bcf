use Rattle.std.proofs.Common.{◌≡◌, ◌++◌, drop}
use Rattle.hsr_number_runs.specs.Gaps.{gaps_from, gaps_in}
use Rattle.hsr_number_runs.proofs.gaps.gaps_of.Given as goal

-- the gaps so far and those behind the last number are all
abbrev pub invariant-loop-behind : goal.invariant-loop-behind
invariant-loop-behind l = record {
  all : l.gaps.items ++ gaps_from l.last (drop l.behind-index l.in_runs) ≡ gaps_in l.in_runs;
}
