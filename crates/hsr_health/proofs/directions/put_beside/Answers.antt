use Rattle.std.proofs.Common.{◌∙◌, ap, arith, set}
use Rattle.hsr_health.specs.Counted.{beside_with}
use Rattle.hsr_health.specs.declared.directions.Beside.{Beside}
use Rattle.hsr_health.proofs.Sourcing.{changed_past, changed_put}
use Rattle.hsr_health.proofs.directions.put_beside.Goals as goal

pub returns-then-point-len-clause-all : goal.returns-then-point-len-clause-all
returns-then-point-len-clause-all c =
    let all = c.args.all.now.items in
    ap (λ (x : Beside). set all c.args.point x) c.with_other.ensures
    ∙ changed_put (beside_with c.args.had c.args.came_too) all c.args.point c.index.result.now (omega (arith, c.args.all.now.ok.0, c.len.ensures, c.if-point-len.true)) c.index.ensures

pub returns-else-point-len-clause-all : goal.returns-else-point-len-clause-all
returns-else-point-len-clause-all c =
    changed_past (beside_with c.args.had c.args.came_too) c.args.all.now.items c.args.point (omega (arith, c.args.all.now.ok.0, c.len.ensures, c.if-point-len.false))
