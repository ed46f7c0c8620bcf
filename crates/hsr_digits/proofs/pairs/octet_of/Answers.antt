use Rattle.std.proofs.Common.{◌∙◌, arith}
use Rattle.hsr_digits.proofs.HexDigits.{pair_spells}
use Rattle.hsr_digits.proofs.pairs.octet_of.Goals as goal

pub returns : goal.returns
returns c =
    λ i. pair_spells c.args.high c.args.low c.from_le_bytes-pair.result i c.ranges.high.fits c.ranges.low.fits (c.from_le_bytes-pair.ensures ∙ omega arith)
