use Rattle.std.proofs.Common.{◌+◌, subst, sym}
use Rattle.hsr_capture_reader.specs.Rooms.{StandAt}
use Rattle.hsr_capture_reader.proofs.Places.{captured_stands}
use Rattle.hsr_capture_reader.proofs.pcapng.stamped_told.Goals as goal

pub captured_told-requires-clause-stands : goal.captured_told-requires-clause-stands
captured_told-requires-clause-stands c =
    let block = c.args.block.now in
    subst (StandAt c.args.reading.file (block.offset + 28)) (sym c.in_ok-captured.ensures.octets)
    (captured_stands c.args.reading.file block.offset block.body 20 _ c.requires.stands c.requires.body)
