use Rattle.std.proofs.Common.{arith}
use Rattle.hex.specs.Hex.{upper_digits}
use Rattle.hex.proofs.Pairs.{encode_done}
use Rattle.hsr_digits.proofs.HexDigits.{writes_next}
use Rattle.hsr_digits.proofs.pairs.write_each.Goals as goal

pub loop-i-preserved : goal.loop-i-preserved
loop-i-preserved c =
    writes_next c.args.octets.now c.loop-i.digits c.digits_of.result c.loop-i.i (omega arith) (omega arith) c.digits_of.ensures c.loop-i.invariant

pub returns : goal.returns
returns c =
    encode_done upper_digits c.args.octets.now c.loop-i.digits c.loop-i.i (omega arith) (omega arith) c.loop-i.invariant
