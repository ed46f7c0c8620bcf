use Rattle.hsr_table_flaws.proofs.marks.name_send.Goals as goal

pub returns : goal.returns
returns c p = rw (c.in-Some.is) (c.in-Ok.ensures.updates.0 (p.node, p.place))
