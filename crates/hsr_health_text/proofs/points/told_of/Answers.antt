use Rattle.std.proofs.Common.{ℕ, List, [], ◌++◌, ap, ◌∙◌}
use Rattle.hsr_health_text.specs.Points.{told_at}
use Rattle.hsr_health_text.proofs.Numbered.{numbered}
use Rattle.hsr_health_text.proofs.points.told_of.Goals as goal

pub loop-point-preserved : goal.loop-point-preserved
loop-point-preserved c =
    c.in_ok-put_told.ensures ∙ ap (λ (told : List ℕ). told ++ told_at c.args.spans.now c.loop-point.point) c.loop-point.invariant
    ∙ numbered (told_at c.args.spans.now) c.loop-point.point []
