use Rattle.hsr_frame_copies.proofs.Placing.{placed}
use Rattle.hsr_frame_copies.proofs.contents.copy_of.Goals as goal

pub returns-clause-places : goal.returns-clause-places
returns-clause-places c = placed c.args.packet.now c.copy_by.result c.copy_by.ensures
