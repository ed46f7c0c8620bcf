use Rattle.hsr_table_demand.proofs.tally.name_latest.Goals as goal

pub returns-in-Ok : goal.returns-in-Ok
returns-in-Ok c p = rw (c.in-Some.is) (c.in-Ok.ensures.updates.0 (p.node, p.place))
