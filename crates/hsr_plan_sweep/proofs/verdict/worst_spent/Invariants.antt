use Rattle.std.proofs.Common.{◌≡◌, drop}
use Rattle.std.specs.Prelude.{fold}
use Rattle.hsr_report.specs.declared.spending.Spending.TheVariants.{Within}
use Rattle.hsr_plan_sweep.specs.Verdict.{spent_with}
use Rattle.hsr_plan_sweep.proofs.verdict.worst_spent.Given as goal

abbrev pub invariant-loop-played : goal.invariant-loop-played
invariant-loop-played l = fold spent_with l.most (drop l.played-index l.plays) ≡ fold spent_with (Within 0) l.plays
