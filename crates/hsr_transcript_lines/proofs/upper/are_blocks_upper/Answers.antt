use Rattle.std.proofs.Common.{ℕ, ◌≡◌, ◌*◌, ◌+◌, ◌-◌, ◌∙◌, arith, drop, length, refl, sym, take, true, false}
use Rattle.std.proofs.lemmas.List.{take_rest}
use Rattle.hsr_transcript_lines.specs.Exact.{is_upper}
use Rattle.hsr_transcript_lines.proofs.Letters.{block_not_upper, last_upper, more_upper}
use Rattle.hsr_transcript_lines.proofs.upper.are_blocks_upper.Goals as goal

pub loop-block-init : goal.loop-block-init
loop-block-init c = refl

pub returns-then-not-is_block_upper : goal.returns-then-not-is_block_upper
returns-then-not-is_block_upper c =
    let at : ℕ = 32 * c.loop-block.block in
    let block : is_upper (take 32 (drop at c.args.word.now)) ≡ false
    = rw (take_rest c.args.word.now at) at (sym c.is_block_upper.ensures ∙ c.if-not-is_block_upper.true) in
    sym (block_not_upper c.args.word.now at block)

pub loop-block-preserved : goal.loop-block-preserved
loop-block-preserved c =
    let at : ℕ = 32 * c.loop-block.block in
    let block : is_upper (take 32 (drop at c.args.word.now)) ≡ true
    = rw (take_rest c.args.word.now at) at (sym c.is_block_upper.ensures ∙ c.if-not-is_block_upper.false) in
    more_upper c.args.word.now at (32 * (c.loop-block.block + 1)) (omega arith) block c.loop-block.invariant

pub returns : goal.returns
returns c =
    let last : ℕ = length c.args.word.now - 32 in
    let block : c.is_block_upper-2.result ≡ is_upper (take 32 (drop last c.args.word.now))
    = rw (take_rest c.args.word.now last) at c.is_block_upper-2.ensures in
    block ∙ last_upper c.args.word.now last (32 * c.loop-block.block) (omega (arith, c.div_ceil-block-end.ensures)) (omega arith) c.loop-block.invariant
