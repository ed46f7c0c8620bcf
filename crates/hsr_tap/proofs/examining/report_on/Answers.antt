use Rattle.std.proofs.lemmas.Result.{err_from_is_err_and}
use Rattle.hsr_tap.proofs.Examined.{is_examined, untellable}
use Rattle.hsr_tap.proofs.examining.report_on.Goals as goal

pub health_of-requires : goal.health_of-requires
health_of-requires c = (c.requires.1.capture, c.requires.1.is_bounded, c.requires.1.is_gathered)

pub returns-clause-told : goal.returns-clause-told
returns-clause-told c =
    is_examined c.args.looking.now c.args.expected.now c.args.gathered c.in_ok-health.health _ _ c.in_ok-health.ensures.health
    c.in_ok-report_of.ensures.text c.in_ok-report_of.ensures.well

pub returns-in_err-health-clause-unseen : goal.returns-in_err-health-clause-unseen
returns-in_err-health-clause-unseen c =
    let exit = err_from_is_err_and c.from_residual.result c.from_residual.ensures.1 in
    rw (exit.1, exit.2) (untellable c.args.looking.now c.args.gathered c.in_err-health.field-0.0 c.in_err-health.ensures.fault)
