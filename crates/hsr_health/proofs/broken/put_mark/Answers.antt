use Rattle.std.proofs.Common.{◌||◌, ◌∙◌, Bool, ap, arith, set}
use Rattle.hsr_health.proofs.Sourcing.{changed_past, changed_put}
use Rattle.hsr_health.proofs.broken.put_mark.Goals as goal

pub returns-then-source-len-clause-marks : goal.returns-then-source-len-clause-marks
returns-then-source-len-clause-marks c =
    let marks = c.args.marks.now.items in
    ap (λ (x : Bool). set marks c.args.source x) c.either.ensures
    ∙ changed_put (λ (own : Bool). own || c.args.is_so) marks c.args.source c.index.result.now (omega (arith, c.args.marks.now.ok.0, c.len.ensures, c.if-source-len.true)) c.index.ensures

pub returns-else-source-len-clause-marks : goal.returns-else-source-len-clause-marks
returns-else-source-len-clause-marks c =
    changed_past (λ (own : Bool). own || c.args.is_so) c.args.marks.now.items c.args.source (omega (arith, c.args.marks.now.ok.0, c.len.ensures, c.if-source-len.false))
