use Rattle.std.proofs.Common.{arith, subst}
use Rattle.hsr_health.specs.Broken.{AreRuns, runs_of}
use Rattle.hsr_health.proofs.Breaking.{points_more}
use Rattle.hsr_health.proofs.broken.spans_of.Goals as goal

pub loop-point-preserved : goal.loop-point-preserved
loop-point-preserved c = λ numbers sources are both_is.
    let ring = c.args.ring.now in
    let copies = c.args.copies.now in
    let point = c.loop-point.point in
    subst (λ l. AreRuns ring c.args.macs.now l c.put_runs_if.new.spans.items) (points_more ring copies c.args.both.now point both_is (omega arith))
    (c.in_ok-put_runs_if.ensures numbers (runs_of ring copies point) sources are (c.loop-point.invariant numbers sources are both_is))
