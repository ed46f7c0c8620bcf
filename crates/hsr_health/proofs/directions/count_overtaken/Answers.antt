use Rattle.std.proofs.Common.{◌∙◌, ap, arith, set}
use Rattle.hsr_health.specs.Counted.{overtaken_more}
use Rattle.hsr_health.specs.declared.directions.DirectionNumbers.{DirectionNumbers}
use Rattle.hsr_health.proofs.Sourcing.{changed_past, changed_put}
use Rattle.hsr_health.proofs.directions.count_overtaken.Goals as goal

pub returns-then-direction-len-clause-all : goal.returns-then-direction-len-clause-all
returns-then-direction-len-clause-all c =
    let all = c.args.all.now.items in
    ap (λ (x : DirectionNumbers). set all c.args.direction x) c.overtaken_more.ensures
    ∙ changed_put overtaken_more all c.args.direction c.index.result.now (omega (arith, c.args.all.now.ok.0, c.len.ensures, c.if-direction-len.true)) c.index.ensures

pub returns-else-direction-len-clause-all : goal.returns-else-direction-len-clause-all
returns-else-direction-len-clause-all c = changed_past overtaken_more c.args.all.now.items c.args.direction (omega (arith, c.args.all.now.ok.0, c.len.ensures, c.if-direction-len.false))
