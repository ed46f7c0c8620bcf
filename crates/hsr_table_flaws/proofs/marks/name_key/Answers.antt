use Rattle.hsr_table_flaws.proofs.marks.name_key.Goals as goal

pub returns : goal.returns
returns c k = rw (← c.key.view_is) (c.in-Ok.ensures.updates.0 (k.src, k.seq))
