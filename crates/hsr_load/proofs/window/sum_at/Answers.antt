use Rattle.std.proofs.Common.{arith}
use Rattle.hsr_load.proofs.window.sum_at.Goals as goal

pub bounds-sums-count : goal.bounds-sums-count
bounds-sums-count c = let many = c.requires.sums.many in let below = c.requires.below in omega (arith, many, below)

pub returns : goal.returns
returns c = c.requires.sums.each c.args.count c.requires.below
