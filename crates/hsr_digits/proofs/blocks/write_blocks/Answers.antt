use Rattle.std.proofs.Common.{ℕ, ◌≡◌, ◌*◌, ◌+◌, ◌-◌, ◌++◌, arith, drop, length, refl, take}
use Rattle.std.proofs.lemmas.List.{take_rest}
use Rattle.hex.specs.Hex.{encode_upper, encode_with}
use Rattle.hsr_digits.proofs.Overlaps.{last_block, one_block_more}
use Rattle.hsr_digits.proofs.blocks.write_blocks.Goals as goal

pub loop-block-init : goal.loop-block-init
unfolding encode_with
loop-block-init c = refl

pub loop-block-preserved : goal.loop-block-preserved
loop-block-preserved c =
    let at : ℕ = 16 * c.loop-block.block in
    let written : c.write_block.new.digits ≡ encode_upper (take 16 (drop at c.args.octets.now)) ++ drop 32 (drop (2 * at) c.loop-block.digits)
    = rw (take_rest c.args.octets.now at, take_rest c.loop-block.digits (2 * at)) at c.write_block.ensures in
    one_block_more c.args.octets.now c.loop-block.digits c.write_block.new.digits at (16 * (c.loop-block.block + 1))
    (omega arith) (omega (arith, c.div_ceil-block-end.ensures)) (omega arith) written c.loop-block.invariant

pub returns : goal.returns
returns c =
    let last : ℕ = length c.args.octets.now - 16 in
    let written : c.write_block-2.new.digits ≡ encode_upper (take 16 (drop last c.args.octets.now)) ++ drop 32 (drop (2 * last) c.loop-block.digits)
    = rw (take_rest c.args.octets.now last, take_rest c.loop-block.digits (2 * last)) at c.write_block-2.ensures in
    last_block c.args.octets.now c.loop-block.digits c.write_block-2.new.digits last (16 * c.loop-block.block)
    (omega arith) (omega (arith, c.div_ceil-block-end.ensures)) (omega (arith, c.div_ceil-block-end.ensures)) (omega arith) (omega arith)
    written c.loop-block.invariant
