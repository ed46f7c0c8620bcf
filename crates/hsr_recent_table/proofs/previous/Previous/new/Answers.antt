use Rattle.std.proofs.Common.{[]}
use Rattle.hsr_recent_table.proofs.Telling.{nothing_ready}
use Rattle.hsr_recent_table.proofs.previous.Previous.new.Goals as goal

pub returns : goal.returns
returns c = λ things. ([], nothing_ready c.args.horizon things c.new.result c.new.ensures.knows c.new.ensures.horizon c.new.ensures.moment)
