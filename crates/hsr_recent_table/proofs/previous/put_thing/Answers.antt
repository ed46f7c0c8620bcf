use Rattle.hsr_recent_table.proofs.previous.put_thing.Goals as goal

pub returns-clause-knows : goal.returns-clause-knows
returns-clause-knows c = λ puts known. c.in_ok-put.ensures.knows puts known
