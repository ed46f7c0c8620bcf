use Rattle.std.proofs.Common.{arith}
use Rattle.std.proofs.lemmas.Simd.{below_from_Fits}
use Rattle.std.specs.Int.{w8}
use Rattle.hsr_digits.proofs.Lanes.{shared}
use Rattle.hsr_digits.proofs.blocks.are_marked.Goals as goal

pub returns : goal.returns
returns c = shared 255 c.args.lanes (omega arith) (below_from_Fits w8 c.args.lanes c.fits-lanes.1)
