use Rattle.std.proofs.Common.{◌∙◌, ap, arith, set}
use Rattle.hsr_health.specs.Whole.{one_life}
use Rattle.hsr_health.specs.declared.counts.Counts.{Counts}
use Rattle.hsr_health.proofs.Sourcing.{changed_past, changed_put}
use Rattle.hsr_health.proofs.devices.count_life.Goals as goal

pub returns-then-source-len-clause-counts : goal.returns-then-source-len-clause-counts
returns-then-source-len-clause-counts c =
    let counts = c.args.counts.now.items in
    ap (λ (x : Counts). set counts c.args.source x) c.with_life.ensures
    ∙ changed_put one_life counts c.args.source c.index.result.now (omega (arith, c.args.counts.now.ok.0, c.len.ensures, c.if-source-len.true)) c.index.ensures

pub returns-else-source-len-clause-counts : goal.returns-else-source-len-clause-counts
returns-else-source-len-clause-counts c =
    changed_past one_life c.args.counts.now.items c.args.source (omega (arith, c.args.counts.now.ok.0, c.len.ensures, c.if-source-len.false))
