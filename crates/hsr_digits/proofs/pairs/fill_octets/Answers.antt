use Rattle.std.proofs.Common.{arith}
use Rattle.hsr_digits.proofs.HexDigits.{reads_all, reads_next}
use Rattle.hsr_digits.proofs.pairs.fill_octets.Goals as goal

pub loop-i-preserved : goal.loop-i-preserved
loop-i-preserved c =
    reads_next c.args.digits.now c.loop-i.octets c.loop-i.i c.octet_of.result
    (omega arith) (omega arith) c.requires.digits c.octet_of.ensures c.loop-i.invariant

pub returns : goal.returns
returns c =
    reads_all c.args.digits.now c.loop-i.octets c.loop-i.i (omega arith) (omega arith) c.loop-i.invariant
