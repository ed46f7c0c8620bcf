use Rattle.std.proofs.Common.{◌≡◌, drop}
use Rattle.hsr_text.specs.Words.{decimal_of}
use Rattle.hsr_text.proofs.Decimals.{digits_on}
use Rattle.hsr_text.proofs.words.decimal.Given as goal

abbrev pub invariant-loop-b : goal.invariant-loop-b
invariant-loop-b l = digits_on l.n (drop l.b-index l.word) ≡ decimal_of l.word
