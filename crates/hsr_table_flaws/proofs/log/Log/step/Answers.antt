use Rattle.std.proofs.Common.{rules}
use Rattle.hsr_table_flaws.proofs.Logging.{ready_later}
use Rattle.hsr_table_flaws.proofs.log.Log.step.Goals as goal

pub forgets-requires : goal.forgets-requires
forgets-requires c = ready_later c.args.self.now _ c.args.x.now.at c.max-self.result (search rules) c.requires.marks

pub mistakes-requires : goal.mistakes-requires
mistakes-requires c = ready_later c.args.self.now _ c.args.x.now.at c.max-self.result (search rules) c.requires.marks
