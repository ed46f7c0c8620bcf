use Rattle.std.proofs.lemmas.Simd.{below_from_Fits}
use Rattle.std.specs.Int.{w8}
use Rattle.hsr_digits.proofs.Lanes.{joined_pairs}
use Rattle.hsr_digits.proofs.blocks.joined.Goals as goal

pub returns : goal.returns
returns c = joined_pairs c.args.lanes c.fits-lanes.0 (below_from_Fits w8 c.args.lanes c.fits-lanes.1)
