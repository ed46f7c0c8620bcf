use Rattle.std.proofs.Common.{◌≡◌, ◌∙◌, false, refl, subst, sym, true}
use Rattle.hsr_health.specs.Broken.{is_over, kept}
use Rattle.hsr_health.specs.Counted.{is_fate}
use Rattle.hsr_sightings.specs.Seen.{fate_of}
use Rattle.hsr_health.proofs.Breaking.{kept_same, step_ends, step_grows, step_none}
use Rattle.hsr_health.proofs.broken.put_group.Goals as goal

pub returns-then-is_once : goal.returns-then-is_once
returns-then-is_once c =
    let going = c.args.going.now in
    step_grows c.args.macs.now c.args.of_copy.now c.args.point c.args.seen.now (is_fate 1 (fate_of c.args.ring.now c.args.seen.now)) (is_over c.args.of_copy.now going.is_of.items c.args.seen.now)
    (kept c.args.spans.now.items going) (kept c.args.spans.now.items c.grow.new.going) (sym c.is_once.ensures ∙ c.if-is_once.true)
    (kept_same _ _ _ _ _ _ refl c.in_ok-grow.ensures.seen c.in_ok-grow.ensures.is_of)

pub returns-then-is_over : goal.returns-then-is_over
returns-then-is_over c =
    let going = c.args.going.now in
    step_ends c.args.macs.now c.args.of_copy.now c.args.point c.args.seen.now (is_fate 1 (fate_of c.args.ring.now c.args.seen.now)) (is_over c.args.of_copy.now going.is_of.items c.args.seen.now)
    (kept c.args.spans.now.items going) (kept c.end_run.new.spans.items c.end_run.new.going) (sym c.is_once.ensures ∙ c.if-is_once.false)
    (subst (λ l. is_over c.args.of_copy.now l c.args.seen.now ≡ true) c.as_slice.ensures.value (sym c.is_over.ensures ∙ c.if-is_over.true)) c.in_ok-end_run.ensures

pub returns : goal.returns
returns c =
    let going = c.args.going.now in
    step_none c.args.macs.now c.args.of_copy.now c.args.point c.args.seen.now (is_fate 1 (fate_of c.args.ring.now c.args.seen.now)) (is_over c.args.of_copy.now going.is_of.items c.args.seen.now)
    (kept c.args.spans.now.items going) (kept c.args.spans.now.items going) (sym c.is_once.ensures ∙ c.if-is_once.false)
    (subst (λ l. is_over c.args.of_copy.now l c.args.seen.now ≡ false) c.as_slice.ensures.value (sym c.is_over.ensures ∙ c.if-is_over.false)) refl
