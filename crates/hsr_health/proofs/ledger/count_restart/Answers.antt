use Rattle.std.proofs.Common.{◌∙◌, ap, arith, set}
use Rattle.hsr_health.specs.Numbering.{with_restart}
use Rattle.hsr_health.specs.declared.ledger.GroupNumbers.{GroupNumbers}
use Rattle.hsr_health.proofs.Sourcing.{changed_past, changed_put}
use Rattle.hsr_health.proofs.ledger.count_restart.Goals as goal

pub returns-then-group-len-clause-numbers : goal.returns-then-group-len-clause-numbers
returns-then-group-len-clause-numbers c =
    let numbers = c.args.numbers.now.items in
    ap (λ (x : GroupNumbers). set numbers c.args.restart.now.group x) c.with_restart.ensures
    ∙ changed_put (with_restart) numbers c.args.restart.now.group c.index.result.now (omega (arith, c.args.numbers.now.ok.0, c.len.ensures, c.if-group-len.true)) c.index.ensures

pub returns-else-group-len-clause-numbers : goal.returns-else-group-len-clause-numbers
returns-else-group-len-clause-numbers c =
    changed_past (with_restart) c.args.numbers.now.items c.args.restart.now.group (omega (arith, c.args.numbers.now.ok.0, c.len.ensures, c.if-group-len.false))
