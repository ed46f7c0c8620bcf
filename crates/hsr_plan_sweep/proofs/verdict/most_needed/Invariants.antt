use Rattle.std.proofs.Common.{◌≡◌, drop}
use Rattle.std.specs.Prelude.{fold}
use Rattle.hsr_plan_sweep.specs.Verdict.{needed_with}
use Rattle.hsr_plan_sweep.proofs.verdict.most_needed.Given as goal

abbrev pub invariant-loop-played : goal.invariant-loop-played
invariant-loop-played l = fold needed_with l.most (drop l.played-index l.plays) ≡ fold needed_with 0 l.plays
