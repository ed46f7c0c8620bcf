use Rattle.std.proofs.Common.{arith}
use Rattle.hsr_run_laws.specs.Run.{owner_of}
use Rattle.hsr_table_flaws.proofs.Logging.{log_start}
use Rattle.hsr_table_flaws.proofs.looking.firsts_of.Goals as goal

pub walk-requires : goal.walk-requires
walk-requires g c = (omega arith, (c.requires, log_start (owner_of c.args.closed.now.run c.args.node) c.new-log.result c.new-log.ensures.moment c.new-log.ensures.stations c.new-log.ensures.marks))
