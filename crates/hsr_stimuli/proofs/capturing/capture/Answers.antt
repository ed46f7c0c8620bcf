use Rattle.std.proofs.lemmas.Result.{err_from_is_err_and}
use Rattle.hsr_stimuli.proofs.Fitting.{no_header}
use Rattle.hsr_stimuli.proofs.capturing.capture.Goals as goal

pub returns-in_err-put_section_header-clause-too_long : goal.returns-in_err-put_section_header-clause-too_long
returns-in_err-put_section_header-clause-too_long c =
    let exit = err_from_is_err_and c.from_residual.result c.from_residual.ensures.1 in
    rw (exit.1, exit.2) (no_header _ _ c.in_err-put_section_header.ensures.too_long)
