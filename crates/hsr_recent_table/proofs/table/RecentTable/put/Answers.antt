use Rattle.std.proofs.Common.{refl, arith}
use Rattle.hsr_recent_table.proofs.Knowing.{put_table}
use Rattle.hsr_recent_table.proofs.table.RecentTable.put.Goals as goal

pub returns-clause-knows : goal.returns-clause-knows
returns-clause-knows c = λ puts known.
    put_table c.turn.new.self _ c.args.at c.args.key c.args.value puts c.in_ok-insert.ensures.updates.0 refl refl refl refl (omega arith) (c.turn.ensures.knows puts known)
