use Rattle.std.proofs.Common.{eqb-true}
use Rattle.hsr_bitset.proofs.Bits.{more_words, none_of}
use Rattle.hsr_bitset.proofs.numbers.are_empty.Goals as goal

pub loop-word-preserved : goal.loop-word-preserved
loop-word-preserved c = more_words c.args.words.now c.loop-word.word-index c.loop-word.all c.loop-word.invariant

pub returns : goal.returns
returns c = λ none. none_of c.args.words.now c.loop-word.word-index c.loop-word.all c.loop-word-test.false c.loop-word.invariant (eqb-true c.loop-word.all 0 none)
