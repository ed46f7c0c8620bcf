use Rattle.std.proofs.Common.{arith}
use Rattle.hsr_load.proofs.Summing.{parts}
use Rattle.hsr_load.proofs.window.octets_from.Goals as goal

pub overflow_sub-result : goal.overflow_sub-result
overflow_sub-result c =
    let all = parts c.args.start c.args.transits.now in
    omega (arith, all, c.sum_at-until.ensures, c.sum_at-before.ensures, c.count_until.ensures.sum, c.count_before.ensures.sum)

pub returns : goal.returns
returns c =
    let all = parts c.args.start c.args.transits.now in
    omega (arith, all, c.sum_at-until.ensures, c.sum_at-before.ensures, c.count_until.ensures.sum, c.count_before.ensures.sum)
