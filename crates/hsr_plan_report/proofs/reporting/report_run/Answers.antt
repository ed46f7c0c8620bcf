use Rattle.hsr_plan_report.proofs.Whole.{run_whole}
use Rattle.hsr_plan_report.proofs.reporting.report_run.Goals as goal

pub returns-in-Ok : goal.returns-in-Ok
returns-in-Ok g c =
    run_whole (g.R.Read.remaining c.args.reader.now) c.in-Ok.octets.items c.as_slice.result.now c.args.asked c.args.is_shown _ _ _ _ c.answer.result c.in-Ok.ensures c.as_slice.ensures.value
    c.answer.ensures
