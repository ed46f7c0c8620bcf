use Rattle.hsr_faults.proofs.Putting.{put_next}
use Rattle.hsr_faults.proofs.downs.down.Goals as goal

pub loop-link-preserved : goal.loop-link-preserved
loop-link-preserved c = put_next c.down_in-links.result c.loop-link.set.words c.put_link.new.set.words c.loop-link.link c.has.result c.has.ensures c.put_link.ensures c.loop-link.invariant
