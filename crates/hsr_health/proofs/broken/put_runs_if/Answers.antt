use Rattle.std.proofs.Common.{◌++◌, subst, sym}
use Rattle.std.proofs.lemmas.List.{append-nil}
use Rattle.hsr_health.specs.Broken.{AreRuns, runs_if}
use Rattle.hsr_health.proofs.broken.put_runs_if.Goals as goal

pub returns-then-sees_both : goal.returns-then-sees_both
returns-then-sees_both c = λ numbers before sources are runs.
    subst (λ b. AreRuns c.args.ring.now c.args.macs.now (before ++ runs_if c.args.ring.now c.args.copies.now c.args.point b) c.put_runs.new.spans.items) (sym c.if-sees_both.true)
    (c.in_ok-put_runs.ensures numbers before sources are runs)

pub returns : goal.returns
returns c = λ numbers before sources are runs.
    subst (λ b. AreRuns c.args.ring.now c.args.macs.now (before ++ runs_if c.args.ring.now c.args.copies.now c.args.point b) c.args.spans.now.items) (sym c.if-sees_both.false)
    (subst (λ l. AreRuns c.args.ring.now c.args.macs.now l c.args.spans.now.items) (sym (append-nil before)) runs)
