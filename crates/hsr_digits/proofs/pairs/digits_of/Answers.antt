use Rattle.std.proofs.Common.{◌∙◌}
use Rattle.hsr_digits.proofs.HexDigits.{digits_written}
use Rattle.hsr_digits.proofs.pairs.digits_of.Goals as goal

pub returns : goal.returns
returns c =
    c.to_le_bytes.ensures ∙ digits_written c.args.octet c.from.result c.ranges.octet.fits c.from.ensures
