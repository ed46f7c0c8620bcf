use Rattle.std.proofs.Common.{◌≡◌, ◌∙◌, ap, arith, set}
use Rattle.hsr_health.specs.Counted.{one_more}
use Rattle.hsr_health.proofs.Sourcing.{changed_past, changed_put}
use Rattle.hsr_health.proofs.directions.count_point.Goals as goal

pub returns-then-point-len-clause-begun : goal.returns-then-point-len-clause-begun
returns-then-point-len-clause-begun c =
    let begun = c.args.begun.now.items in
    let value : c.saturating_add.result ≡ one_more c.index.result.now = omega arith in
    ap (set begun c.args.point) value
    ∙ changed_put one_more begun c.args.point c.index.result.now (omega (arith, c.args.begun.now.ok.0, c.len.ensures, c.if-point-len.true)) c.index.ensures

pub returns-else-point-len-clause-begun : goal.returns-else-point-len-clause-begun
returns-else-point-len-clause-begun c = changed_past one_more c.args.begun.now.items c.args.point (omega (arith, c.args.begun.now.ok.0, c.len.ensures, c.if-point-len.false))
