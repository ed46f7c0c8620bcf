use Rattle.std.proofs.Common.{rules}
use Rattle.hsr_table_demand.proofs.Crowding.{first_over, most_more}
use Rattle.hsr_table_demand.proofs.windows.most_crowded.Goals as goal

pub returns-then-count-room-clause-crowded : goal.returns-then-count-room-clause-crowded
returns-then-count-room-clause-crowded c =
    first_over c.args.room c.args.moments.now c.loop-start.start-index c.loop-start.most c.crowd_in-count.result (search rules) c.loop-start.invariant.most c.loop-start.invariant.room c.crowd_in-count.ensures c.if-count-room.true

pub loop-start-preserved : goal.loop-start-preserved
loop-start-preserved c = record {
  most = most_more c.args.moments.now c.loop-start.start-index c.loop-start.most c.crowd_in-count.result c.max-most.result c.loop-start.invariant.most c.crowd_in-count.ensures (search rules);
  room = search rules;
}
