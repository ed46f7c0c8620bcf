use Rattle.hsr_table_demand.proofs.OneNode.{most_if}
use Rattle.hsr_table_demand.proofs.needing.needed_at.Goals as goal

pub returns : goal.returns
returns g c = most_if c.args.closed.now.run c.args.node c.needed_with.result c.nothing.result c.nothing.ensures c.needed_with.ensures
