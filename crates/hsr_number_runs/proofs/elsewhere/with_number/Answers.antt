use Rattle.std.proofs.Common.{arith}
use Rattle.hsr_number_runs.proofs.Standing.{own_told}
use Rattle.hsr_number_runs.proofs.elsewhere.with_number.Goals as goal

pub returns : goal.returns
returns c = λ before told. own_told before c.args.place c.args.p c.args.told _ c.between.result (omega arith) (omega arith) c.between.ensures told
