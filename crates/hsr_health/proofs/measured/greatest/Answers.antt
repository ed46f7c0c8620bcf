use Rattle.std.proofs.Common.{◌≡◌, arith, take, ◌+◌}
use Rattle.hsr_health.specs.Whole.{greatest}
use Rattle.hsr_health.proofs.Measuring.{greatest_more}
use Rattle.hsr_health.proofs.measured.greatest.Goals as goal

pub loop-n-preserved : goal.loop-n-preserved
loop-n-preserved c =
    let numbers = c.args.numbers.now in
    let i = c.loop-n.n-index in
    let more = greatest_more numbers i 0 (omega arith) in
    let next : c.max-most.result ≡ greatest (take (i + 1) numbers) = omega (arith, more, c.max-most.ensures, c.loop-n.invariant) in
    next
