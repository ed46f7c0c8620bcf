use Rattle.std.proofs.Common.{arith}
use Rattle.hsr_table_demand.proofs.Crowding.{parts}
use Rattle.hsr_table_demand.proofs.windows.crowd_in.Goals as goal

pub overflow_sub-result : goal.overflow_sub-result
overflow_sub-result c = let both = parts c.args.start c.args.moments.now in omega (arith, c.count_until_end.ensures, c.count_before.ensures)

pub returns : goal.returns
returns c = let both = parts c.args.start c.args.moments.now in omega (arith, c.count_until_end.ensures, c.count_before.ensures)
