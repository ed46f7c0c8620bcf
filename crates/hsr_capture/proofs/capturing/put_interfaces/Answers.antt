use Rattle.std.proofs.Common.{below_more}
use Rattle.hsr_timeline.specs.Fronts.{lists_of}
use Rattle.hsr_capture.proofs.Growing.{links_grown}
use Rattle.hsr_capture.proofs.capturing.put_interfaces.Goals as goal

pub loop-link-preserved : goal.loop-link-preserved
loop-link-preserved g c = record {
  bytes = links_grown (lists_of c.args.names.now) c.args.closed.now.run c.loop-link.link c.args.text.now.items _ _ c.loop-link.invariant.bytes c.in_ok-put_link.ensures.bytes;
  fits = below_more _ _ c.loop-link.invariant.fits c.in_ok-put_link.ensures.fits;
}
