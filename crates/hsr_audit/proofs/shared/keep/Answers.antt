use Rattle.hsr_audit.proofs.shared.keep.Goals as goal

pub returns : goal.returns
returns c dst ethertype = rw (← c.frame.view_is) (c.in_ok-insert.ensures.updates.0 (dst, ethertype))
