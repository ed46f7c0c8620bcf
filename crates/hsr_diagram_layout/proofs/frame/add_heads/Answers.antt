use Rattle.std.proofs.Common.{add-one, append_assoc}
use Rattle.hsr_diagram_layout.proofs.frame.add_heads.Goals as goal

pub loop-number-preserved : goal.loop-number-preserved
loop-number-preserved c = rw (add-one, c.in_ok-add_head.ensures, c.loop-number.invariant) (simp append_assoc)
