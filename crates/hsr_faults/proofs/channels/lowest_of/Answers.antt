use Rattle.hsr_bitset.proofs.Bits.{lowest_word}
use Rattle.std.proofs.Common.{rules}
use Rattle.hsr_faults.proofs.channels.lowest_of.Goals as goal

pub returns-then-word-ne0 : goal.returns-then-word-ne0
returns-then-word-ne0 c = lowest_word c.args.words.now c.loop-index.index c.loop-index-test.true c.if-word-ne0.true (search (rules, c.type_inv.words c.loop-index.index)) c.loop-index.invariant
