use Rattle.std.proofs.Common.{◌≡◌, ◌*◌, take}
use Rattle.hex.specs.Hex.{encode_upper}
use Rattle.hsr_digits.proofs.blocks.write_blocks.Given as goal

abbrev pub invariant-loop-block : goal.invariant-loop-block
invariant-loop-block l = take (2 * (16 * l.block)) l.digits ≡ encode_upper (take (16 * l.block) l.octets)
