use Rattle.std.proofs.Common.{◌∙◌, ◌||◌, ap, arith}
use Rattle.hsr_bitset.specs.Numbers.{has}
use Rattle.hsr_plan_report.specs.Missing.{misses}
use Rattle.hsr_plan_report.proofs.Absent.{missed_at, missed_nowhere}
use Rattle.hsr_plan_report.proofs.missing.miss_at.Goals as goal

pub returns-then-row-len : goal.returns-then-row-len
returns-then-row-len c =
    let test = misses c.args.audience.now c.args.stream c.args.delivery.now in
    let low = c.if-row-len.true in
    missed_at c.args.row test c.args.missing.now.items c.index.result.now c.with_missing.result (omega (arith, low, c.len.ensures))
    (λ k few. c.with_missing.ensures k few ∙ ap (λ set. has set k || test k) c.index.ensures)

pub returns-else-row-len : goal.returns-else-row-len
returns-else-row-len c =
    let high = c.if-row-len.false in
    missed_nowhere c.args.row (misses c.args.audience.now c.args.stream c.args.delivery.now) c.args.missing.now.items (omega (arith, high, c.len.ensures))
