use Rattle.std.proofs.lemmas.Result.{err_from_is_err_and}
use Rattle.hsr_tap.proofs.running.told.Goals as goal

pub returns-in_err-device-clause-untold : goal.returns-in_err-device-clause-untold
returns-in_err-device-clause-untold c =
    let exit = err_from_is_err_and c.from_residual.result c.from_residual.ensures.1 in
    rw (exit.1, exit.2) (c.in_err-device.ensures.fault c.args.fcs c.args.octets.now.items)
