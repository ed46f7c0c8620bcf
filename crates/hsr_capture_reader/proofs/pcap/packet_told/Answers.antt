use Rattle.std.proofs.Common.{◌+◌, ◌≤◌, IfSome, arith, length, subst, sym, ◌∙◌, Ok, ap}
use Rattle.hsr_capture_reader.specs.Rooms.{StandAt}
use Rattle.hsr_capture_reader.proofs.PcapWalking.{kept_is}
use Rattle.hsr_capture_reader.proofs.Places.{packet_stands}
use Rattle.hsr_capture_reader.proofs.pcap.packet_told.Goals as goal

pub pushed-requires-clause-stands : goal.pushed-requires-clause-stands
pushed-requires-clause-stands c =
    let left = c.args.left.now in
    let room : 16 + c.in-Some.kept ≤ length left = subst (λ s. IfSome s (λ kept. 16 + kept ≤ length left)) c.in-Some.is c.in_ok-kept.ensures.room in
    subst (StandAt c.args.reading.file (c.args.offset + 16)) (sym c.captured_at-captured.ensures.octets)
    (packet_stands c.args.reading.file left c.args.offset 16 _ c.requires.left c.requires.some (omega (arith, room)))

pub returns-clause-reached : goal.returns-clause-reached
returns-clause-reached c =
    let kept = kept_is c.args.format c.args.left.now c.in-Some.kept (c.in_ok-kept.ensures.found ∙ ap Ok c.in-Some.is) in
    omega (arith, kept, c.in_ok-reading.ensures.reached, c.captured_at-captured.ensures.fits)
