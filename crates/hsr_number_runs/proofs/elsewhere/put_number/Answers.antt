use Rattle.std.proofs.Common.{arith, subst, sym}
use Rattle.hsr_number_runs.specs.Nearest.{IsTold}
use Rattle.hsr_number_runs.proofs.Standing.{put_told, still_told}
use Rattle.hsr_number_runs.proofs.elsewhere.put_number.Goals as goal

pub returns-then-sender-len-clause-told : goal.returns-then-sender-len-clause-told
returns-then-sender-len-clause-told c = λ before told.
    put_told before c.args.place c.args.p c.args.told.now.items c.index.result.now c.with_number.result (omega (arith, c.args.told.now.ok.0, c.len.ensures, c.if-sender-len.true))
    (λ own. c.with_number.ensures before (subst (IsTold before c.args.place c.args.p.sender) (sym c.index.ensures) own)) told

pub returns-else-sender-len-clause-told : goal.returns-else-sender-len-clause-told
returns-else-sender-len-clause-told c = λ before told.
    still_told before c.args.place c.args.p c.args.told.now.items (omega (arith, c.args.told.now.ok.0, c.len.ensures, c.if-sender-len.false)) told
