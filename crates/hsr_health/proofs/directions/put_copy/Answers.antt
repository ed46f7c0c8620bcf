use Rattle.std.proofs.Common.{◌∙◌, ap, arith, set}
use Rattle.hsr_health.specs.Counted.{changed, direction_with}
use Rattle.hsr_health.specs.declared.directions.DirectionNumbers.{DirectionNumbers}
use Rattle.hsr_health.proofs.Sourcing.{changed_past, changed_put}
use Rattle.hsr_health.proofs.directions.put_copy.Goals as goal

pub returns-then-direction-len-clause-all : goal.returns-then-direction-len-clause-all
returns-then-direction-len-clause-all c =
    let all = c.args.all.now.items in
    let direction = c.direction_of-direction.result in
    ap (λ (x : DirectionNumbers). set all direction x) c.with.ensures ∙ ap (λ b. set all direction (direction_with c.args.carried b c.index.result.now)) c.is_late.ensures
    ∙ changed_put (direction_with c.args.carried c.args.marks.is_late) all direction c.index.result.now (omega (arith, c.args.all.now.ok.0, c.len.ensures, c.if-direction-len.true)) c.index.ensures
    ∙ ap (λ n. changed (direction_with c.args.carried c.args.marks.is_late) n all) c.direction_of-direction.ensures

pub returns-else-direction-len-clause-all : goal.returns-else-direction-len-clause-all
returns-else-direction-len-clause-all c =
    let all = c.args.all.now.items in
    changed_past (direction_with c.args.carried c.args.marks.is_late) all c.direction_of-direction.result (omega (arith, c.args.all.now.ok.0, c.len.ensures, c.if-direction-len.false))
    ∙ ap (λ n. changed (direction_with c.args.carried c.args.marks.is_late) n all) c.direction_of-direction.ensures
