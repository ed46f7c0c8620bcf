use Rattle.hsr_capture_reader.proofs.Moving.{one_ends, one_moved}
use Rattle.hsr_capture_reader.proofs.packing.move_one.Goals as goal

pub returns-clause-packets : goal.returns-clause-packets
returns-clause-packets c =
    one_moved c.args.to c.args.i c.args.octets.now.items c.copy_within.new.self.items c.args.rooms.now.items c.index-room.result.now c.moved.result c.end_of.result
    c.requires.there c.requires.half c.index-room.ensures c.end_of.ensures c.copy_within.ensures.items c.moved.ensures

pub returns-clause-end : goal.returns-clause-end
returns-clause-end c = one_ends c.args.to c.args.i c.args.rooms.now.items c.index-room.result.now c.moved.result c.requires.there c.index-room.ensures
