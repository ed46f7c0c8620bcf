use Rattle.std.proofs.lemmas.Result.{err_from_is_err_and}
use Rattle.hsr_diagram.proofs.picturing.picture_run.Goals as goal

pub returns-in_err-wanted-clause-refused : goal.returns-in_err-wanted-clause-refused
returns-in_err-wanted-clause-refused g c =
    let exit = err_from_is_err_and c.from_residual.result c.from_residual.ensures.1 in
    rw (exit.1, exit.2) (c.in_err-wanted.ensures.refused c.args.most)
