use Rattle.hsr_latency.proofs.grouped.put_member.Goals as goal

pub returns-in-Ok : goal.returns-in-Ok
returns-in-Ok c send = c.in-Ok.ensures.updates.0 (send.node, send.place)
