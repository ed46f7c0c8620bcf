use Rattle.hsr_digits.proofs.Overlaps.{joined}
use Rattle.hsr_digits.proofs.blocks.one_behind_the_other.Goals as goal

pub returns : goal.returns
returns c = joined c.args.front c.args.back c.fits-front.0 c.fits-back.0
