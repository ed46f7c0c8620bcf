use Rattle.std.proofs.Common.{◌∙◌, None, Some, ap, subst}
use Rattle.std.specs.Prelude.{count_by}
use Rattle.hsr_health.specs.Told.{IsFirstFlag}
use Rattle.hsr_health.proofs.Siding.{none_one_way, some_one_way}
use Rattle.hsr_health.proofs.point_reasons.one_way_reason.Goals as goal

pub returns-in-None : goal.returns-in-None
returns-in-None c = λ numbers are.
    none_one_way c.args.ring.now c.args.copies.now c.args.both.now _ c.args.all.now numbers c.in_ok-flags.flags.items c.requires are c.in_ok-flags.ensures
    (subst (λ l. IsFirstFlag l None) c.as_slice.ensures.value c.in-None.ensures)

pub returns : goal.returns
returns c = λ numbers are.
    some_one_way c.args.ring.now c.args.copies.now c.args.both.now _ c.args.all.now numbers c.in_ok-flags.flags.items c.in-Some.first c.count_of.result c.one_way_at.result c.requires are c.in_ok-flags.ensures
    (subst (λ l. IsFirstFlag l (Some c.in-Some.first)) c.as_slice.ensures.value c.in-Some.ensures)
    (c.count_of.ensures ∙ ap (count_by (λ b. b)) c.as_slice-in-Some.ensures.value) c.one_way_at.ensures
