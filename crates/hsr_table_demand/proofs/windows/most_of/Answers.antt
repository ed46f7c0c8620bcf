use Rattle.std.proofs.Common.{rules, length}
use Rattle.hsr_table_demand.specs.Windows.{IsMostBelow}
use Rattle.hsr_table_demand.proofs.Crowding.{any_window, most_is, most_more}
use Rattle.hsr_table_demand.proofs.windows.most_of.Goals as goal

pub loop-start-preserved : goal.loop-start-preserved
loop-start-preserved c = most_more c.args.moments.now c.loop-start.start-index c.loop-start.most c.crowd_in.result c.max-most.result c.loop-start.invariant c.crowd_in.ensures (search rules)

pub returns-clause-most : goal.returns-clause-most
returns-clause-most c =
    let reached : IsMostBelow c.args.moments.now (length c.args.moments.now) c.loop-start.most = search rules in
    most_is c.args.moments.now c.loop-start.most reached

pub returns-clause-any : goal.returns-clause-any
returns-clause-any c =
    let reached : IsMostBelow c.args.moments.now (length c.args.moments.now) c.loop-start.most = search rules in
    any_window c.args.moments.now c.loop-start.most c.requires reached
