use Rattle.hsr_timeline.proofs.pairs.keep.Goals as goal

pub returns-in-Ok : goal.returns-in-Ok
returns-in-Ok c = λ other. c.in-Ok.ensures.updates.0 (other.node, other.place)
