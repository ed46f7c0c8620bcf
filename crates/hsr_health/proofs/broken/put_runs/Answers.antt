use Rattle.std.proofs.Common.{arith, refl}
use Rattle.std.proofs.lemmas.Option.{slice_get_read}
use Rattle.hsr_health.specs.Broken.{kept}
use Rattle.hsr_health.proofs.Breaking.{all_running, first_running, kept_same, running_more}
use Rattle.hsr_health.proofs.broken.put_runs.Goals as goal

pub loop-i-init : goal.loop-i-init
loop-i-init c = λ numbers before sources are runs.
    first_running c.args.ring.now c.args.copies.now c.args.macs.now c.args.point before c.args.spans.now.items (kept c.args.spans.now.items c.in_ok-going.going) runs
    (kept_same _ _ _ _ _ _ refl c.in_ok-going.ensures.seen c.in_ok-going.ensures.is_of)

pub loop-i-preserved : goal.loop-i-preserved
loop-i-preserved c = λ numbers before sources are runs.
    let all = c.args.sightings.now in
    let i = c.loop-i.i in
    running_more c.args.ring.now c.args.copies.now c.args.macs.now c.args.of_copy.now numbers c.args.point before all i _ (kept c.loop-i.spans.items c.loop-i.going)
    (kept c.put_seen.new.spans.items c.put_seen.new.going) (slice_get_read all _ i c.index-sightings-i.result refl (omega arith) c.index-sightings-i.is) sources are (c.loop-i.invariant numbers before sources are runs) c.in_ok-put_seen.ensures

pub returns : goal.returns
returns c = λ numbers before sources are runs.
    all_running c.args.ring.now c.args.copies.now c.args.macs.now c.args.of_copy.now numbers c.args.point before c.args.sightings.now c.loop-i.i (kept c.loop-i.spans.items c.loop-i.going)
    c.close.new.spans.items (omega arith) sources are (c.loop-i.invariant numbers before sources are runs) c.in_ok-close.ensures
