use Rattle.hsr_frame.proofs.Raws.{only_frame}
use Rattle.hsr_frame.proofs.raw.Head.parse.Goals as goal

pub returns-clause-only : goal.returns-clause-only
returns-clause-only c = only_frame c.args.octets.now c.read_head.result c.read_head.ensures.found c.read_head.ensures.fault
