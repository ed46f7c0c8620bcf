use Rattle.std.proofs.Common.{inl}
use Rattle.hsr_plan_report.proofs.reporting.told_of_plan.Goals as goal

pub returns-in-Err-clause-none : goal.returns-in-Err-clause-none
returns-in-Err-clause-none g c = λ told. inl (c.in-Err.ensures.none told)
