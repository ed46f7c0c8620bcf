use Rattle.std.proofs.Common.{◌∙◌, ap, set}
use Rattle.hsr_health.specs.Counted.{with_late}
use Rattle.hsr_health.specs.Marks.{Marked}
use Rattle.hsr_health.proofs.Sourcing.{changed_put}
use Rattle.hsr_health.proofs.marks.put_late.Goals as goal

pub returns-clause-marks : goal.returns-clause-marks
returns-clause-marks c =
    ap (λ (x : Marked). set c.args.marks.now.items c.args.i x) c.with_late.ensures
    ∙ changed_put (with_late c.args.is_late) c.args.marks.now.items c.args.i c.index.result.now c.requires c.index.ensures
