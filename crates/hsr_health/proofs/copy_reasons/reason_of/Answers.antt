use Rattle.std.proofs.Common.{◌∙◌, None, Some, ap, subst}
use Rattle.std.specs.Prelude.{count_by}
use Rattle.hsr_health.specs.Told.{IsFirstFlag, such_of}
use Rattle.hsr_health.specs.What.{copy_what}
use Rattle.hsr_health.proofs.Flagging.{none_told, some_told, told_by_sighting}
use Rattle.hsr_health.proofs.copy_reasons.reason_of.Goals as goal

pub returns-in-None : goal.returns-in-None
returns-in-None c = λ ring is_by_lane carried marks seen.
    none_told c.args.mark (such_of c.args.mark ring is_by_lane) (copy_what c.args.mark ring) c.args.copies.now c.in_ok-flags.flags.items (c.in_ok-flags.ensures ring is_by_lane c.args.copies.now carried marks)
    (subst (λ l. IsFirstFlag l None) c.as_slice.ensures.value c.in-None.ensures)

pub returns : goal.returns
returns c = λ ring is_by_lane carried marks seen.
    some_told c.args.mark (such_of c.args.mark ring is_by_lane) (copy_what c.args.mark ring) c.args.copies.now c.in_ok-flags.flags.items c.in-Some.first c.count_of.result c.reason_at.result
    (c.in_ok-flags.ensures ring is_by_lane c.args.copies.now carried marks) (subst (λ l. IsFirstFlag l (Some c.in-Some.first)) c.as_slice.ensures.value c.in-Some.ensures)
    (c.count_of.ensures ∙ ap (count_by (λ b. b)) c.as_slice-in-Some.ensures.value)
    (told_by_sighting c.args.mark ring c.args.copies.now c.args.sightings.now.all.items c.args.sightings.now.of_copy.items c.in-Some.first c.count_of.result c.reason_at.result seen c.reason_at.ensures)
