use Rattle.std.proofs.Common.{◌+◌, ◌<◌, ◌^◌, ◌∙◌, ap, subst, sym}
use Rattle.std.specs.Prelude.{IfSome}
use Rattle.hsr_number_runs.specs.Runs.{gone_on}
use Rattle.hsr_number_runs.proofs.run.Counting.gone_on.Goals as goal

pub returns-in-None : goal.returns-in-None
returns-in-None c = λ before known room. sym (ap (gone_on before c.args.n) c.in-None.is)

pub returns-in-Some : goal.returns-in-Some
returns-in-Some c = λ before known room.
    c.gone_from.ensures before known (subst (λ o. IfSome o (λ t. t.extended + 65536 < 2 ^ 64)) c.in-Some.is room) ∙ sym (ap (gone_on before c.args.n) c.in-Some.is)
