use Rattle.std.proofs.Common.{sym}
use Rattle.hsr_link.proofs.Lost.{count_both, lost_both, waiting_lost_forth}
use Rattle.hsr_link.proofs.queue.lose_both.Goals as goal

pub lose_all-requires-2 : goal.lose_all-requires-2
lose_all-requires-2 c = rw (c.lose_all.ensures.rows, waiting_lost_forth 0 c.args.rows.now) c.requires.back

pub returns-clause-count : goal.returns-clause-count
returns-clause-count c =
    let forth = rw c.requires.forth at c.len.ensures.len in
    let back = rw c.requires.back at c.len-2.ensures.len in
    rw (forth, back) (sym (count_both c.args.rows.now))

pub returns-clause-rows : goal.returns-clause-rows
returns-clause-rows c = rw (c.lose_all-2.ensures.rows, c.lose_all.ensures.rows) (lost_both c.args.rows.now)
