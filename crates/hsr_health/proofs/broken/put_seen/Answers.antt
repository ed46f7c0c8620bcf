use Rattle.std.proofs.Common.{◌∙◌, refl, sym}
use Rattle.hsr_health.specs.Broken.{IsStep, is_over, kept, kept_at}
use Rattle.hsr_health.specs.Counted.{is_fate}
use Rattle.hsr_sightings.specs.Seen.{fate_of}
use Rattle.hsr_health.proofs.Breaking.{step_here, step_other}
use Rattle.hsr_health.proofs.broken.put_seen.Goals as goal

pub returns-then-is_at : goal.returns-then-is_at
returns-then-is_at c =
    let going = c.args.going.now in
    let new = kept c.put_group.new.spans.items c.put_group.new.going in
    let old = kept c.args.spans.now.items going in
    step_here (kept_at c.args.copies.now c.args.point c.args.seen.now)
    (IsStep c.args.macs.now c.args.of_copy.now c.args.point c.args.seen.now (is_fate 1 (fate_of c.args.ring.now c.args.seen.now)) (is_over c.args.of_copy.now going.is_of.items c.args.seen.now) old new) old new
    (sym c.is_at.ensures ∙ c.if-is_at.true) c.in_ok-put_group.ensures

pub returns : goal.returns
returns c =
    let going = c.args.going.now in
    let old = kept c.args.spans.now.items going in
    step_other (kept_at c.args.copies.now c.args.point c.args.seen.now)
    (IsStep c.args.macs.now c.args.of_copy.now c.args.point c.args.seen.now (is_fate 1 (fate_of c.args.ring.now c.args.seen.now)) (is_over c.args.of_copy.now going.is_of.items c.args.seen.now) old old) old old
    (sym c.is_at.ensures ∙ c.if-is_at.false) refl
