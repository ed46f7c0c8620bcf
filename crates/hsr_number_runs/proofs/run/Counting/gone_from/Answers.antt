use Rattle.hsr_number_runs.proofs.Running.{goes_on}
use Rattle.hsr_number_runs.proofs.run.Counting.gone_from.Goals as goal

pub returns : goal.returns
returns c = λ before known room.
    goes_on before c.args.n c.args.top c.extended_by-extended.result c.is_there-was_there.result c.gone_in.result (c.extended_by-extended.ensures room)
    (c.is_there-was_there.ensures before known) c.gone_in.ensures
