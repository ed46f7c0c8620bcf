use Rattle.std.proofs.Common.{◌∙◌, refl, subst, sym}
use Rattle.hsr_health.specs.Broken.{IsClosed, IsTold, kept}
use Rattle.hsr_health.proofs.broken.close.Goals as goal

pub returns-then-is_at_rest : goal.returns-then-is_at_rest
returns-then-is_at_rest c =
    subst (λ b. IsClosed c.args.macs.now c.args.of_copy.now c.args.point b (kept c.args.spans.now.items c.args.going.now) c.args.spans.now.items) (sym (sym c.is_at_rest.ensures ∙ c.if-is_at_rest.true)) refl

pub returns : goal.returns
returns c =
    let own = c.in_ok-put_run.ensures in
    subst (λ b. IsClosed c.args.macs.now c.args.of_copy.now c.args.point b (kept c.args.spans.now.items c.args.going.now) c.put_run.new.spans.items) (sym (sym c.is_at_rest.ensures ∙ c.if-is_at_rest.false))
    (own.0, subst (λ l. IsTold c.args.macs.now c.args.of_copy.now c.args.point l own.0) c.as_slice.ensures.value own.1, own.2)
