use Rattle.hsr_text.proofs.Looks.{NoneBefore}
use Rattle.hsr_text.proofs.short_words.cut_short.Given as goal

abbrev pub invariant-loop-i : goal.invariant-loop-i
invariant-loop-i l = NoneBefore l.text l.i
