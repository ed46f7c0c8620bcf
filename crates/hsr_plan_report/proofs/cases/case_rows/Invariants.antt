use Rattle.hsr_plan_report.specs.Cases.{AreCaseRows}
use Rattle.hsr_plan_report.proofs.cases.case_rows.Given as goal

abbrev pub invariant-loop-played : goal.invariant-loop-played
invariant-loop-played l = AreCaseRows l.naming l.plays l.played-index l.rows.items
