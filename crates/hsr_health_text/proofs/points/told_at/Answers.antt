use Rattle.std.proofs.Common.{ℕ, List, ap, ◌∙◌}
use Rattle.std.proofs.Math.Numerals.{suc-eq-add-one}
use Rattle.hsr_health_text.specs.Points.{kept_of, kept_with}
use Rattle.hsr_health_text.proofs.points.told_at.Goals as goal

pub loop-i-preserved : goal.loop-i-preserved
loop-i-preserved c =
    c.in_ok-keep.ensures ∙ ap (λ (kept : List ℕ). kept_with c.args.spans.now c.args.point kept c.loop-i.i) c.loop-i.invariant
    ∙ ap (λ (n : ℕ). kept_of c.args.spans.now c.args.point n) (suc-eq-add-one c.loop-i.i)
