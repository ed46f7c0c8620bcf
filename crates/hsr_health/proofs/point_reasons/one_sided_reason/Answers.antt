use Rattle.std.proofs.Common.{◌∙◌, None, Some, ap, subst}
use Rattle.std.specs.Prelude.{count_by}
use Rattle.hsr_health.proofs.Siding.{IsFirstSided, none_sided, some_sided}
use Rattle.hsr_health.proofs.point_reasons.one_sided_reason.Goals as goal

pub returns-in-None : goal.returns-in-None
returns-in-None c =
    none_sided c.args.ring.now c.args.copies.now _ c.in_ok-flags.flags.items c.in_ok-flags.ensures (subst (λ l. IsFirstSided c.args.ring.now c.args.copies.now l None) c.as_slice.ensures.value c.in-None.ensures)

pub returns : goal.returns
returns c =
    some_sided c.args.ring.now c.args.copies.now _ c.in_ok-flags.flags.items c.in-Some.first c.count_of.result c.one_sided_at.result c.in_ok-flags.ensures
    (subst (λ l. IsFirstSided c.args.ring.now c.args.copies.now l (Some c.in-Some.first)) c.as_slice.ensures.value c.in-Some.ensures)
    (c.count_of.ensures ∙ ap (count_by (λ b. b)) c.as_slice-in-Some.ensures.value) c.one_sided_at.ensures
