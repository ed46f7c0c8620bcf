use Rattle.std.proofs.Common.{rules, ◌<◌, length}
use Rattle.std.proofs.lemmas.List.Elements.{All-more}
use Rattle.hsr_timeline.specs.Fronts.{lists_of}
use Rattle.hsr_capture.specs.Capture.{packet_of}
use Rattle.hsr_capture.specs.Fits.{ShownFits}
use Rattle.hsr_capture.proofs.Growing.{text_grown}
use Rattle.hsr_capture.proofs.capturing.put_packets.Goals as goal

pub loop-shown-preserved : goal.loop-shown-preserved
loop-shown-preserved g c =
    let below : c.loop-shown.shown-index < length c.args.rows.now = search rules in
    record {
      bytes = text_grown (packet_of (lists_of c.args.names.now) c.args.closed.now.run) c.args.rows.now c.loop-shown.shown-index _ c.args.text.now.items _ _ below c.loop-shown.invariant.bytes c.in_ok-put_shown.ensures.bytes;
      fits = All-more (ShownFits (lists_of c.args.names.now) c.args.closed.now.run) c.args.rows.now c.loop-shown.shown-index _ below c.loop-shown.invariant.fits c.in_ok-put_shown.ensures.fits;
    }
