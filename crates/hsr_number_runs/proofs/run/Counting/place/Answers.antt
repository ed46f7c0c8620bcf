use Rattle.std.proofs.Common.{◌∙◌, arith, subst, sym}
use Rattle.std.specs.Prelude.{◌+◌, ◌<◌, ◌^◌, IfSome}
use Rattle.hsr_number_runs.proofs.Running.{is_placed}
use Rattle.hsr_number_runs.proofs.run.Counting.place.Goals as goal

pub returns : goal.returns
returns c = λ before known room.
    let top_is = c.top_of-top.ensures ∙ known.tops c.args.n.group in
    let own_room = subst (λ o. IfSome o (λ t. t.extended + 65536 < 2 ^ 64)) (sym top_is) (room c.args.n.group) in
    is_placed before c.args.n c.args.self.now.runs c.top_of-top.result c.gone_on-gone.result c.begun-first.result c.unwrap_or-in_run.result c.restart_by-restart.result
    top_is (c.gone_on-gone.ensures before known own_room) known.runs c.begun-first.ensures c.unwrap_or-in_run.ensures c.restart_by-restart.ensures (omega arith)
